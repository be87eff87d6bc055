-- What every command makes of the window and of the marks: the claims stand in specs/Marks.antt.
use Rattle.std.proofs.Common.{◌≡◌, refl, sym, ap, ◌∙◌, subst, Bool, true, false, cond, not, ◌&&◌, ◌||◌, true≢false, List, ⊎_elim, ℕ, ◌+◌, ◌-◌, ◌≤◌, le_trans, arith, leb, ltb, eqb, length, get_or, replicate, eqb-true}
use borrow.Author.Tests.{not-false}
use Rattle.units.specs.Units.{round_up}
use Rattle.units.proofs.Cases.{decided}
use Rattle.buffers.specs.Ranges.{replace}
use Rattle.session.specs.declared.Session.{Session}
use Rattle.session.specs.declared.Window.{Window}
use Rattle.session.specs.declared.Window.TheVariants.{Read, Write}
use Rattle.session.specs.Events.{control_lost, set_bits, clear_bits}
use Rattle.session.specs.Machine.{Setup, Machine, holding}
use Rattle.session.specs.Marks.{dirty}
use Rattle.session.specs.Record.{clean, with_access, with_marks, with_window, drop_window}
use Rattle.session.proofs.Answers.{either_way}
use Rattle.soundness.specs.Soundness.{sound_in}
use Rattle.refusals.specs.declared.Needs.TheVariants.{WriteWindow}
use Rattle.refusals.specs.Refusals.{NamedBlocks, Accepted, blocks_named, flush_marks, reason_for}
use Rattle.refusals.proofs.Accepting.{passed, named_within}
use Rattle.registers.specs.Registers.{command_of, number}
use Rattle.marklist.proofs.Reaching.{placed}
use Rattle.flush.specs.Window.{flush_whole}
use Rattle.mailbox.specs.Commands.{Outcome, numbered, numbered_in, marked, size_for, hint, created, closed, flushing}
use Rattle.mailbox.specs.Table.{Command, from}
use Rattle.mailbox.specs.Mediator.{command_at, reason_of, reason_in, mediate}
use Rattle.mailbox.proofs.Ends.{code_of, close_ends, flush_ends, open_ends, opened_code}
use Rattle.mailbox.proofs.Mediating.{carried, each_command, each_answer, call_fits}
use Rattle.invariants.specs.Codes.{is_create}
use Rattle.invariants.specs.Pending.{drops}
use Rattle.invariants.specs.Marks.{is_named, MarksAsSaid, FlushMarksAsSaid, SameWindow, SameMarks, MarksStay, AccessStays, NoWindow, WindowAsSaid}
use Rattle.invariants.proofs.Kept.{sounds_unless}

-- ---- the marks, block by block: the named blocks as the claim has them
chosen_start : (t : Bool) (x y : NamedBlocks) → (cond t x y).start ≡ cond t x.start y.start
chosen_start true x y = refl
chosen_start false x y = refl

chosen_count : (t : Bool) (x y : NamedBlocks) → (cond t x y).count ≡ cond t x.count y.count
chosen_count true x y = refl
chosen_count false x y = refl

module _ (s : Session) (registers marks : List ℕ) (mark block : ℕ) (fits : (blocks_named s registers).start + (blocks_named s registers).count ≤ length marks) where
  named_mark : get_or (replace (blocks_named s registers).start (replicate (blocks_named s registers).count mark) marks) block 0
      ≡ cond (is_named s registers block) mark (get_or marks block 0)
  named_mark =
      placed (blocks_named s registers).start (blocks_named s registers).count mark block marks fits
      ∙ ap (λ (n : ℕ). cond (leb n block && ltb block (n + (blocks_named s registers).count)) mark (get_or marks block 0)) (chosen_start (ltb s.version 2) _ _)
      ∙ ap
      (λ (n : ℕ).
      let first = cond (ltb s.version 2) (number 2 0 registers - s.first) (number 2 0 registers) in
      cond (leb first block && ltb block (first + n)) mark (get_or marks block 0))
      (chosen_count (ltb s.version 2) _ _)

module _ (setup : Setup) (registers : List ℕ) (m : Machine) (long : length m.session.marks ≡ 64) (a : reason_in setup registers m ≡ Accepted) where
  few : m.session.size ≤ 64
  few = (call_fits setup m (sounds_unless setup registers m (λ q. cc))).few

  fits : (known : Bool) → reason_for (sound_in setup m) m.session registers known WriteWindow (not (blocks_named m.session registers).inside) ≡ Accepted
      → (blocks_named m.session registers).start + (blocks_named m.session registers).count ≤ length m.session.marks
  fits known e =
      let p = passed (sound_in setup m) m.session registers known WriteWindow (not (blocks_named m.session registers).inside) e in
      let inside = named_within m.session registers (not-false (blocks_named m.session registers).inside p.argued) in
      subst (λ (n : ℕ). (blocks_named m.session registers).start + (blocks_named m.session registers).count ≤ n) (sym long) (le_trans inside few)

pub marks_as_said : MarksAsSaid
unfolding command_at
marks_as_said setup registers m long a block = (
  λ c.
      ap (λ (o : Outcome). get_or o.machine.session.marks block 0) (carried setup registers m 7 c a)
      ∙ named_mark m.session registers m.session.marks 1 block
      (fits setup registers m long a (from 1 m.session.version) (ap (λ (n : ℕ). reason_of (command_at n) (sound_in setup m) registers m) (sym c) ∙ a)),
  λ c.
      ap (λ (o : Outcome). get_or o.machine.session.marks block 0) (carried setup registers m 10 c a)
      ∙ named_mark m.session registers m.session.marks 2 block
      (fits setup registers m long a (from 2 m.session.version) (ap (λ (n : ℕ). reason_of (command_at n) (sound_in setup m) registers m) (sym c) ∙ a)),
)

pub flush_marks_as_said : FlushMarksAsSaid
unfolding command_at
flush_marks_as_said setup registers m long a c block =
    let s = m.session in
    let old = get_or s.marks block 0 in
    let p = passed (sound_in setup m) s registers (from 1 s.version) WriteWindow (flush_marks s registers && not (blocks_named s registers).inside)
    (ap (λ (n : ℕ). reason_of (command_at n) (sound_in setup m) registers m) (sym c) ∙ a) in
    ⊎_elim
    (λ (t : flush_marks s registers ≡ true).
    let inside = named_within s registers (not-false (blocks_named s registers).inside (rw t at p.argued)) in
    ap (λ (b : Bool). get_or (cond b (marked dirty s registers) s).marks block 0) t
    ∙ named_mark s registers s.marks 1 block (subst (λ (n : ℕ). (blocks_named s registers).start + (blocks_named s registers).count ≤ n) (sym long) (le_trans inside (few setup registers m long a)))
    ∙ sym (ap (λ (b : Bool). cond (b && is_named s registers block) 1 old) t))
    (λ (t : flush_marks s registers ≡ false).
    ap (λ (b : Bool). get_or (cond b (marked dirty s registers) s).marks block 0) t ∙ sym (ap (λ (b : Bool). cond (b && is_named s registers block) 1 old) t))
    (decided (flush_marks s registers))

-- ---- calls that leave them
stays : (s t : Session) → t.window ≡ s.window → t.first ≡ s.first → t.size ≡ s.size → t.marks ≡ s.marks → t.counts ≡ s.counts
    → SameWindow s t × SameMarks s t
stays s t w f z k c = (record { window = w; first = f; size = z }, record { marks = k; counts = c })

module _ (setup : Setup) (registers : List ℕ) (m : Machine) where
  abbrev touches : ℕ → Bool
  touches n = drops n || (eqb n 7 || eqb n 10)

  abbrev Stay : Outcome → Type 0
  Stay o = SameWindow m.session o.machine.session × SameMarks m.session o.machine.session

  served : (n : ℕ) → touches n ≡ false → Stay ((command_at n).leaves setup registers (numbered_in registers m))
  served =
      each_command (λ (n : ℕ) (c : Command). touches n ≡ false → Stay (c.leaves setup registers (numbered_in registers m)))
      (λ q. absurd (true≢false q))
      (λ _. stays m.session _ refl refl refl refl refl)
      (λ _. stays m.session _ refl refl refl refl refl)
      (λ q. absurd (true≢false q))
      (λ q. absurd (true≢false q))
      (λ q. absurd (true≢false q))
      (λ q. absurd (true≢false q))
      (λ q. absurd (true≢false q))
      (λ _. stays m.session _ refl refl refl refl refl)
      (λ q. absurd (true≢false q))
      (λ _ _. stays m.session _ refl refl refl refl refl)

  broken : (code n : ℕ) → touches n ≡ false → Stay ((command_at n).when_broken code registers (numbered_in registers m))
  broken code =
      let kept = stays m.session (numbered_in registers m).session refl refl refl refl refl in
      each_command (λ (n : ℕ) (c : Command). touches n ≡ false → Stay (c.when_broken code registers (numbered_in registers m)))
      (λ _. kept) (λ _. kept) (λ _. kept) (λ q. absurd (true≢false q)) (λ _. kept) (λ q. absurd (true≢false q)) (λ _. kept) (λ _. kept)
      (λ _. kept) (λ _. kept) (λ _ _. kept)

pub marks_stay : MarksStay
marks_stay setup registers m none =
    each_answer (Stay setup registers m) setup registers m (λ _. served setup registers m (command_of registers) none)
    (λ code. broken setup registers m code (command_of registers) none)
    (λ _. stays m.session _ refl refl refl refl refl) (λ _. stays m.session _ refl refl refl refl refl)

pub access_stays : AccessStays
access_stays s =
    let Stays : Session → Type 0 = λ t. SameWindow s t × SameMarks s t in (
      either_way Stays (not s.suspended) s (with_access true (set_bits control_lost s.events) s) (stays s s refl refl refl refl refl) (stays s _ refl refl refl refl refl),
      either_way Stays s.suspended s (with_access false (clear_bits control_lost s.events) s) (stays s s refl refl refl refl refl) (stays s _ refl refl refl refl refl),
    )

-- ---- the window
flushing_window : (s : Session) (registers marks : List ℕ) (adds : Bool)
    → SameWindow s (with_marks marks (cond adds (marked dirty (numbered s registers) registers) (numbered s registers)))
flushing_window s registers marks true = record { window = refl; first = refl; size = refl }
flushing_window s registers marks false = record { window = refl; first = refl; size = refl }

-- no window, and one of this kind at the block that a create names
unwindowed : (s : Session) → NoWindow (drop_window s)
unwindowed s = record { window = refl; first = refl; size = refl }

pub three_one : ◌≡◌ {A = ℕ} 3 1 → ⊥
three_one q = omega arith

pub one_three : ◌≡◌ {A = ℕ} 1 3 → ⊥
one_three q = omega arith

module _ (setup : Setup) (registers : List ℕ) (m : Machine) (a : reason_in setup registers m ≡ Accepted) where
  -- what holds of what the row of a code leaves
  by_row : (P : Outcome → Type 0) (n : ℕ) → command_of registers ≡ n → P ((command_at n).leaves setup registers (numbered_in registers m))
      → P (mediate setup registers m)
  by_row P n c p = subst P (sym (carried setup registers m n c a)) p

  -- what holds of the session with a code, and of the session with another code nothing is asked
  abbrev With : ℕ → (Session → Type 0) → Outcome → Type 0
  With code P o = code_of o ≡ code → P o.machine.session

  close_window_lem : (code : ℕ) (P : Session → Type 0) → (3 ≡ code → P (with_marks (flush_whole (numbered_in registers m)).marks (numbered m.session registers)))
      → (1 ≡ code → P (drop_window (numbered m.session registers))) → With code P (closed registers (numbered_in registers m))
  close_window_lem code P failed through = close_ends (With code P) registers (numbered_in registers m) (λ _. failed) (λ _. through)

  -- the session of a create that opens its window
  abbrev new_window : Window → Session
  new_window w =
      with_window w (number 2 0 registers)
      (size_for (round_up (length m.flash)) (round_up (length m.memory)) (number 2 0 registers) (hint m.session registers)) (numbered m.session registers)

  create_window : (code : ℕ) (P : Session → Type 0) (w : Window) → (3 ≡ code → P (drop_window (numbered m.session registers))) → (1 ≡ code → P (new_window w))
      → With code P (created w setup registers (numbered_in registers m))
  create_window code P w failed through =
      let o = number 2 0 registers in
      let z = size_for (round_up (length m.flash)) (round_up (length m.memory)) o (hint m.session registers) in
      open_ends (With code P) registers (numbered_in registers m) w o z setup (λ _. failed)
      (λ _ q. through (sym (opened_code w o z setup registers (numbered_in registers m)) ∙ q))

-- a create of either kind
pub create_either : (P : ℕ → Type 0) (code : ℕ) → is_create code ≡ true → (code ≡ 4 → P 4) → (code ≡ 6 → P 6) → P code
create_either P code c reads writes =
    ⊎_elim
    (λ (t : eqb code 4 ≡ true). let e = eqb-true code 4 t in subst P (sym e) (reads e))
    (λ (t : eqb code 4 ≡ false). let e = eqb-true code 6 (sym (ap (λ (b : Bool). b || eqb code 6) t) ∙ c) in subst P (sym e) (writes e))
    (decided (eqb code 4))

pub window_as_said : WindowAsSaid
unfolding command_at
window_as_said setup registers m a =
    let same : Outcome → Type 0 = λ o. SameWindow m.session o.machine.session in
    let flushes = holding (flushing (numbered m.session registers) registers) m in
    let opens : Window → Session → Type 0 = λ w t. (t.window ≡ w) × (t.first ≡ number 2 0 registers) in (
      ⊎_elim (λ c. by_row setup registers m a same 7 c (record { window = refl; first = refl; size = refl }))
          (⊎_elim
          (λ c.
          by_row setup registers m a same 8 c
          (flush_ends same registers flushes (λ _. flushing_window m.session registers (flush_whole flushes).marks (flush_marks m.session registers))
          (λ _. flushing_window m.session registers clean (flush_marks m.session registers))))
          (λ c. by_row setup registers m a same 10 c (record { window = refl; first = refl; size = refl }))),
      λ c. by_row setup registers m a (λ (o : Outcome). NoWindow o.machine.session) 1 c (unwindowed (numbered m.session registers)),
      λ c. by_row setup registers m a (With setup registers m a 1 NoWindow) 5 c (close_window_lem setup registers m a 1 NoWindow (λ q. absurd (three_one q)) (λ _. unwindowed (numbered m.session registers))),
      λ c.
          by_row setup registers m a (With setup registers m a 3 (SameWindow m.session)) 5 c
          (close_window_lem setup registers m a 3 (SameWindow m.session) (λ _. record { window = refl; first = refl; size = refl }) (λ q. absurd (one_three q))),
      λ c. by_row setup registers m a (With setup registers m a 1 (opens Read)) 4 c (create_window setup registers m a 1 (opens Read) Read (λ q. absurd (three_one q)) (λ _. (refl, refl))),
      λ c. by_row setup registers m a (With setup registers m a 1 (opens Write)) 6 c (create_window setup registers m a 1 (opens Write) Write (λ q. absurd (three_one q)) (λ _. (refl, refl))),
      λ c.
          create_either (λ _. With setup registers m a 3 NoWindow (mediate setup registers m)) (command_of registers) c
          (λ e. by_row setup registers m a (With setup registers m a 3 NoWindow) 4 e (create_window setup registers m a 3 NoWindow Read (λ _. unwindowed (numbered m.session registers)) (λ q. absurd (one_three q))))
          (λ e. by_row setup registers m a (With setup registers m a 3 NoWindow) 6 e (create_window setup registers m a 3 NoWindow Write (λ _. unwindowed (numbered m.session registers)) (λ q. absurd (one_three q)))),
    )
