-- The second run: what each of its calls leaves.
use Rattle.std.proofs.Common.{◌≡◌, refl, sym, ap, ◌∙◌, subst, Bool, true, false, cond, true≢false, List, [], ◌∷◌, ◌⊎◌, ⊎_elim, ℕ, ◌≤◌, min, length, get_or, leb-true, Err}
use Rattle.units.specs.Units.{to_bytes, round_up}
use Rattle.units.proofs.Cases.{decided, both}
use Rattle.chip.specs.Actions.{erased}
use Rattle.session.specs.declared.Counts.{Counts}
use Rattle.session.specs.declared.Session.{Session}
use Rattle.session.specs.declared.Window.TheVariants.{Write}
use Rattle.session.specs.Machine.{Setup, Machine, lent}
use Rattle.session.specs.Marks.{dirty, erased_mark, counts_of}
use Rattle.session.specs.Record.{clean, fresh, with_version, with_counted, with_marks}
use Rattle.soundness.specs.Soundness.{sizes_sound, sound, session_sound, sound_at, sound_in}
use Rattle.soundness.proofs.Facts.{part_within, counts_right}
use Rattle.flush.specs.Actions.{Action, flush_actions, actions_from, block_actions}
use Rattle.flush.specs.Worn.{until_failure, some_fail}
use Rattle.flush.specs.Window.{window_actions, perform_in, window_worn, flush_whole}
use Rattle.flush.proofs.Failing.{until_all, some_none}
use Rattle.flush.proofs.Whole.{in_none}
use Rattle.refusals.specs.declared.Reason.TheVariants.{System, Repeated, Unknown, Suspended, Windowless, Argument}
use Rattle.registers.specs.Registers.{command_of, argument, number}
use Rattle.refusals.specs.Refusals.{Checked, Accepted, blocks_named, flush_marks, code_for}
use Rattle.marklist.specs.MarkList.{pairs_of, mark_pairs, after_list}
use Rattle.marklist.proofs.Taken.{list_left}
use Rattle.mailbox.specs.Commands.{Outcome, numbered, numbered_in, marked, size_for, hint, opened, created, flushing, flushed_all}
use Rattle.mailbox.specs.Table.{get_info, create_write_window, mark_dirty, flush, erase}
use Rattle.mailbox.specs.Mediator.{command_at, command_in, reason_in, answer_to, mediate, response}
use Rattle.mailbox.proofs.Ends.{flush_ends, open_ends}
use Rattle.mailbox.proofs.Mediating.{mediate_as, carried}
use Rattle.mailbox.specs.Runs.{Call, send, mark_list, suspend, resume, resume_changed, advance, write, alter, wear, written, called, called_all}
use Rattle.mailbox.proofs.Lengths.{memory_long, map_same}
use Rattle.invariants.proofs.Kept.{fresh_sound, sounds_unless}
use Rattle.invariants.proofs.Runs.{write_long}
use Rattle.invariants.proofs.Succeeding.{accepted}
use Rattle.recovery.specs.Second.{sent, Allowed, AllAllowed, begun}

-- ---- a flush without marks leaves the flash
clean_none : flush_actions clean ≡ []
unfolding flush_actions actions_from block_actions
clean_none = refl

flush_clean : (s : Session) (flash worn memory : List ℕ) → s.marks ≡ clean → (flush_whole (lent s flash worn memory)).flash ≡ flash
unfolding flush_whole
flush_clean s flash worn memory c =
    ⊎_elim
    (λ (t : sound (length flash) (length worn) (length memory) s ≡ true).
    let p = part_within (length flash) (length worn) (length memory) s t in
    let part = window_worn s worn in
    rw t (ap (λ (marks : List ℕ). perform_in s memory (until_failure part (flush_actions marks)) flash) c
    ∙ ap (λ (actions : List Action). perform_in s memory actions flash) (ap (until_failure part) clean_none ∙ until_all part [] (some_none part))
    ∙ in_none s flash p.0 memory p.1))
    (λ (t : sound (length flash) (length worn) (length memory) s ≡ false). rw t)
    (decided (sound (length flash) (length worn) (length memory) s))

-- and no erase fails
pub unmarked_passes : (s : Session) (flash worn memory : List ℕ) → s.marks ≡ clean → (flush_whole (lent s flash worn memory)).failed ≡ false
unfolding flush_whole
unmarked_passes s flash worn memory c =
    ⊎_elim
    (λ (t : sound (length flash) (length worn) (length memory) s ≡ true).
    rw t (ap (λ (marks : List ℕ). some_fail (window_worn s worn) (flush_actions marks)) c ∙ ap (some_fail (window_worn s worn)) clean_none ∙ some_none (window_worn s worn)))
    (λ (t : sound (length flash) (length worn) (length memory) s ≡ false). rw t)
    (decided (sound (length flash) (length worn) (length memory) s))

-- ---- FLUSH that adds no mark, on a sound session, where no erase fails
flush_kept : (s : Session) (registers flash worn memory : List ℕ) → sound (length flash) (length worn) (length memory) s ≡ true
    → some_fail (window_worn s worn) (window_actions s) ≡ false
    → (flush_whole (lent (numbered s registers) flash worn memory)).flash ≡ perform_in s memory (window_actions s) flash
unfolding flush_whole sound session_sound perform_in
flush_kept s registers flash worn memory e n =
    rw e (ap (λ (xs : List Action). perform_in s memory xs flash) (until_all (window_worn s worn) (window_actions s) n))

-- the session with the marks that it works from
flush_from : (s : Session) (registers : List ℕ) (adds : Bool) → (cond adds (marked dirty s registers) s).marks ≡ s.marks → s.counts ≡ counts_of s.marks
    → cond adds (marked dirty (numbered s registers) registers) (numbered s registers) ≡ numbered s registers
flush_from s registers true same counts =
    ap (λ (marks : List ℕ). with_marks marks (numbered s registers)) same
    ∙ ap (λ (n : Counts). with_counted s.marks n (numbered s registers)) (sym counts)
flush_from s registers false same counts = refl

pub flush_leaves : (setup : Setup) (s : Session) (registers flash worn memory : List ℕ) → command_of registers ≡ flush.code
    → get_or (mediate setup registers (lent s flash worn memory)).registers 13 0 ≡ 1 → (flushing s registers).marks ≡ s.marks
    → sound (length flash) (length worn) (length memory) s ≡ true → some_fail (window_worn s worn) (window_actions s) ≡ false
    → (mediate setup registers (lent s flash worn memory)).machine.flash ≡ perform_in s memory (window_actions s) flash
unfolding command_at
flush_leaves setup s registers flash worn memory c ok none e n =
    ap (λ (o : Outcome). o.machine.flash) (carried setup registers (lent s flash worn memory) flush.code c (accepted setup s registers flash worn memory ok))
    ∙ ap (λ (t : Session). (flushed_all registers (lent t flash worn memory)).machine.flash) (flush_from s registers (flush_marks s registers) none (counts_right (length flash) (length worn) (length memory) s e))
    ∙ flush_ends (λ (o : Outcome). o.machine.flash ≡ perform_in s memory (window_actions s) flash) registers (lent (numbered s registers) flash worn memory)
    (λ _. flush_kept s registers flash worn memory e n) (λ _. flush_kept s registers flash worn memory e n)

-- ---- a machine with the window open again
pub record Open (first size long : ℕ) (flash worn : List ℕ) (m : Machine) : Type 0 where
  pub agreed : m.session.version ≡ 2
  pub awake : m.session.suspended ≡ false
  pub window : m.session.window ≡ Write
  pub first_is : m.session.first ≡ first
  pub size_is : m.session.size ≡ size
  pub flash_is : m.flash ≡ flash
  pub map_is : m.worn ≡ worn
  pub memory_long : length m.memory ≡ long

-- ---- a fresh session is sound on buffers and a map as long as those of a sound one
pub fresh_as : (setup : Setup) (flash worn memory : ℕ) (s : Session) → sound_at setup flash worn memory s ≡ true
    → (f n x : ℕ) → f ≡ flash → n ≡ worn → x ≡ memory → sound_at setup f n x fresh ≡ true
unfolding sound_at sound
fresh_as setup flash worn memory s e f n x p r q =
    let b = both (sound flash worn memory s) _ e in
    rw (p, r, q) (fresh_sound setup flash worn memory (both (sizes_sound flash worn memory) _ b.0).0 (leb-true _ _ b.1))

-- ---- GET_INFO on a fresh session
module _ (setup : Setup) (registers flash worn memory : List ℕ) (ok : response setup registers (begun flash worn memory) ≡ 1) where
  -- which succeeds where the sizes, the map's among them, are sound
  pub info_sound : sound_in setup (begun flash worn memory) ≡ true
  info_sound =
      sounds_unless setup registers (begun flash worn memory)
      (λ q. cc (sym (accepted setup fresh registers flash worn memory ok) ∙ q))

  pub info_leaves : command_of registers ≡ get_info.code
      → sent setup registers (begun flash worn memory)
      ≡ lent (with_version (min (argument 0 registers) 2) (numbered fresh registers)) flash worn memory
  unfolding command_at
  info_leaves c =
      ap (λ (o : Outcome). o.machine) (carried setup registers (begun flash worn memory) get_info.code c (accepted setup fresh registers flash worn memory ok))

-- ---- CREATE_WRITE_WINDOW on a session without marks
module _ (setup : Setup) (s : Session) (registers flash worn memory : List ℕ) (c : command_of registers ≡ create_write_window.code)
    (ok : get_or (mediate setup registers (lent s flash worn memory)).registers 13 0 ≡ 1) (none : s.marks ≡ clean) where
  abbrev new_size : ℕ
  new_size = size_for (round_up (length flash)) (round_up (length memory)) (number 2 0 registers) (hint s registers)

  create_leaves : mediate setup registers (lent s flash worn memory) ≡ created Write setup registers (lent (numbered s registers) flash worn memory)
  unfolding command_at
  create_leaves = carried setup registers (lent s flash worn memory) create_write_window.code c (accepted setup s registers flash worn memory ok)

  -- nothing is marked, so that no erase fails, whatever the map
  open_leaves : (P : Outcome → Type 0) → P (opened Write (number 2 0 registers) new_size setup registers (lent (numbered s registers) flash worn memory))
      → P (mediate setup registers (lent s flash worn memory))
  open_leaves P p = subst P (sym create_leaves) (open_ends P registers (lent (numbered s registers) flash worn memory) Write (number 2 0 registers) new_size setup (λ f. absurd (fails f)) (λ _. p))
    where
      fails : (flush_whole (lent (numbered s registers) flash worn memory)).failed ≡ true → ⊥
      fails f = true≢false (sym f ∙ unmarked_passes (numbered s registers) flash worn memory none)

  pub create_opens : (first size : ℕ) → s.version ≡ 2 → s.suspended ≡ false
      → (mediate setup registers (lent s flash worn memory)).machine.session.first ≡ first → (mediate setup registers (lent s flash worn memory)).machine.session.size ≡ size
      → Open first size (length memory) flash worn (mediate setup registers (lent s flash worn memory)).machine
  create_opens first size v a f z =
      record {
        agreed = open_leaves (λ (o : Outcome). o.machine.session.version ≡ 2) v;
        awake = open_leaves (λ (o : Outcome). o.machine.session.suspended ≡ false) a;
        window = open_leaves (λ (o : Outcome). o.machine.session.window ≡ Write) refl;
        first_is = f;
        size_is = z;
        flash_is = open_leaves (λ (o : Outcome). o.machine.flash ≡ flash) (flush_clean (numbered s registers) flash worn memory none);
        map_is = map_same setup registers (lent s flash worn memory);
        memory_long = memory_long setup registers (lent s flash worn memory);
      }

-- ---- the list: every command and host write keeps the window open and the flash as it is
module _ (setup : Setup) (first size long : ℕ) (flash worn : List ℕ) (room : to_bytes size ≤ long) where
  -- a session that differs in its marks and its previous number alone
  kept_open : (m : Machine) → Open first size long flash worn m → (t : Session) → t.version ≡ m.session.version → t.suspended ≡ m.session.suspended
      → t.window ≡ m.session.window → t.first ≡ m.session.first → t.size ≡ m.session.size
      → (memory : List ℕ) → length memory ≡ length m.memory
      → Open first size long flash worn (lent t m.flash m.worn memory)
  kept_open m o t v a w f z memory l =
      record {
        agreed = v ∙ o.agreed;
        awake = a ∙ o.awake;
        window = w ∙ o.window;
        first_is = f ∙ o.first_is;
        size_is = z ∙ o.size_is;
        flash_is = o.flash_is;
        map_is = o.map_is;
        memory_long = l ∙ o.memory_long;
      }

  module _ (m : Machine) (o : Open first size long flash worn m) (registers : List ℕ) (k : ℕ) (is : command_of registers ≡ k) (w : (k ≡ mark_dirty.code) ⊎ (k ≡ erase.code)) where
    abbrev left : Checked → Machine
    left r = (answer_to r (command_in registers) setup registers m).machine

    refused_same : Open first size long flash worn (numbered_in registers m)
    refused_same = kept_open m o (numbered m.session registers) refl refl refl refl refl m.memory refl

    marked_same : (mark : ℕ) (memory : List ℕ) → length memory ≡ length m.memory
        → Open first size long flash worn (lent (marked mark (numbered m.session registers) registers) m.flash m.worn memory)
    marked_same mark memory l = kept_open m o (marked mark (numbered m.session registers) registers) refl refl refl refl refl memory l

    -- an ERASE leaves the window memory as long as it was
    erased_long : command_of registers ≡ erase.code → reason_in setup registers m ≡ Accepted
        → length (erased (to_bytes (blocks_named m.session registers).start) (to_bytes (blocks_named m.session registers).count) m.memory) ≡ length m.memory
    unfolding command_at
    erased_long c a =
        sym (ap (λ (x : Outcome). length x.machine.memory) (carried setup registers m erase.code c a))
        ∙ memory_long setup registers m

    accepted_open : reason_in setup registers m ≡ Accepted → Open first size long flash worn (left Accepted)
    unfolding answer_to command_at
    accepted_open a =
        ⊎_elim
        (λ (e : k ≡ mark_dirty.code).
        subst (λ (n : ℕ). Open first size long flash worn ((command_at n).leaves setup registers (numbered_in registers m)).machine) (sym (is ∙ e))
        (marked_same dirty m.memory refl))
        (λ (e : k ≡ erase.code).
        subst (λ (n : ℕ). Open first size long flash worn ((command_at n).leaves setup registers (numbered_in registers m)).machine) (sym (is ∙ e))
        (marked_same erased_mark (erased (to_bytes (blocks_named m.session registers).start) (to_bytes (blocks_named m.session registers).count) m.memory) (erased_long (is ∙ e) a)))
        w

    broken_open : Open first size long flash worn (left (Err Argument))
    unfolding answer_to command_at
    broken_open =
        ⊎_elim
        (λ (e : k ≡ mark_dirty.code). broken_at mark_dirty.code (is ∙ e) refused_same)
        (λ (e : k ≡ erase.code). broken_at erase.code (is ∙ e) refused_same)
        w
      where
        broken_at : (n : ℕ) → command_of registers ≡ n
            → Open first size long flash worn ((command_at n).when_broken (code_for m.session.version (Err Argument)) registers (numbered_in registers m)).machine
            → Open first size long flash worn ((command_at (command_of registers)).when_broken (code_for m.session.version (Err Argument)) registers (numbered_in registers m)).machine
        broken_at n e o =
            subst (λ (q : ℕ). Open first size long flash worn ((command_at q).when_broken (code_for m.session.version (Err Argument)) registers (numbered_in registers m)).machine) (sym e) o

    answered_open : (r : Checked) → reason_in setup registers m ≡ r → Open first size long flash worn (left r)
    unfolding answer_to
    answered_open Accepted e = accepted_open e
    answered_open (Err System) e = o
    answered_open (Err Repeated) e = refused_same
    answered_open (Err Unknown) e = refused_same
    answered_open (Err Suspended) e = refused_same
    answered_open (Err Windowless) e = refused_same
    answered_open (Err Argument) e = broken_open

    sent_open : Open first size long flash worn (sent setup registers m)
    sent_open =
        subst (λ (x : Outcome). Open first size long flash worn x.machine)
        (sym (mediate_as setup registers m (reason_in setup registers m) refl))
        (answered_open (reason_in setup registers m) refl)

  -- a list of marks in one call, refused or not
  list_open : (m : Machine) → Open first size long flash worn m → (list : List ℕ) → Open first size long flash worn (after_list setup list m)
  list_open m o list =
      list_left (λ (t : Session). Open first size long flash worn (lent t m.flash m.worn m.memory)) setup list m o
      (λ _. kept_open m o (with_marks (mark_pairs (pairs_of list) m.session.marks) m.session) refl refl refl refl refl m.memory refl)

  call_open : (call : Call) → Allowed size call → (m : Machine) → Open first size long flash worn m → Open first size long flash worn (called setup call m)
  call_open (send registers) w m o = sent_open m o registers (command_of registers) refl w
  call_open (write at bytes) w m o =
      kept_open m o m.session refl refl refl refl refl (written at bytes m.memory) (write_long at bytes m.memory)
  call_open (mark_list list) w m o = list_open m o list
  call_open suspend w m o = absurd w
  call_open resume w m o = absurd w
  call_open resume_changed w m o = absurd w
  call_open (advance done) w m o = absurd w
  call_open (alter at bytes) w m o = absurd w
  call_open (wear at bytes) w m o = absurd w

  pub calls_open : (calls : List Call) → AllAllowed size calls → (m : Machine) → Open first size long flash worn m → Open first size long flash worn (called_all setup calls m)
  calls_open [] w m o = o
  calls_open (call ∷ calls) w m o = calls_open calls w.1 (called setup call m) (call_open call w.0 m o)
