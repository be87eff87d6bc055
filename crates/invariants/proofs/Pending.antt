-- The kept numbers and the question: the claims stand in specs/Pending.antt.
use Rattle.std.proofs.Common.{◌≡◌, refl, sym, ap, ◌∙◌, subst, Bool, true, false, cond, not, ◌&&◌, ◌||◌, List, [], ◌∷◌, ◌⊎◌, ⊎_elim, ℕ, zero, suc, ◌+◌, ◌*◌, ◌≤◌, arith, leb, ltb, eqb, length, leb-true, Err}
use Rattle.std.proofs.lemmas.Bool.{false_from_ne_true}
use mathlib.Core.Bool.{false≢true, and-false}
use Rattle.units.proofs.Cases.{both}
use Rattle.session.specs.declared.Counts.{Counts}
use Rattle.session.specs.declared.Session.{Session}
use Rattle.session.specs.declared.Window.TheVariants.{Read, Write}
use Rattle.session.specs.Machine.{Setup, Machine, holding}
use Rattle.session.specs.Events.{control_lost, window_reset, set_bits, clear_bits}
use Rattle.session.specs.Record.{clean, fresh, with_access, drop_window}
use Rattle.session.specs.Suspension.{answer}
use Rattle.session.specs.Marks.{dirty, of_kind, marks_of, counts_of}
use Rattle.soundness.specs.Soundness.{markable, marks_sound, sound_at, sound_in}
use Rattle.soundness.proofs.Facts.{miscounted, measured}
use Rattle.soundness.proofs.Answered.{pending_right, pending_wrong}
use Rattle.soundness.specs.Pending.{marked_work}
use Rattle.flush.specs.Actions.{flush_actions}
use Rattle.flush.specs.Window.{window_actions, window_worn, advanced, flush_whole}
use Rattle.flush.proofs.Failing.{until_all}
use Rattle.flush.proofs.Lists.{flush_count}
use Rattle.refusals.specs.declared.Reason.TheVariants.{System}
use Rattle.refusals.specs.declared.Needs.TheVariants.{Access}
use Rattle.refusals.specs.Refusals.{Checked, Accepted, flush_marks, reason_for}
use Rattle.refusals.proofs.Accepting.{passed}
use Rattle.registers.specs.Registers.{command_of, number}
use Rattle.marklist.specs.MarkList.{answer_for, listed}
use Rattle.mailbox.specs.Commands.{Outcome, numbered, numbered_in, marked, stopped, flushing}
use Rattle.mailbox.specs.Table.{Command}
use Rattle.mailbox.specs.Mediator.{command_at, reason_of, reason_in, mediate, response}
use Rattle.mailbox.specs.Runs.{called_all}
use Rattle.mailbox.proofs.Ends.{code_of, close_ends, flush_ends, open_ends}
use Rattle.mailbox.proofs.Mediating.{carried, each_command}
use Rattle.invariants.specs.Codes.{is_create}
use Rattle.invariants.specs.Pending.{how_many, CountsAsSaid, Counted, MiscountedRefused, RunCounted, Unmarked, drops, DroppedUnmarked, PendingExact, marked_blocks, PendingTells, Tells, PendingCarried}
use Rattle.invariants.proofs.Kept.{sounds_unless, flush_sound}
use Rattle.invariants.proofs.Refused.{refusals_as_said}
use Rattle.invariants.proofs.Runs.{run_keeps}

-- ---- the kept numbers
how_many_lem : (kind : ℕ) (marks : List ℕ) → marks_of kind marks ≡ how_many kind marks
how_many_lem kind [] = refl
how_many_lem kind (mark ∷ marks) = ap (λ (n : ℕ). of_kind kind mark + n) (how_many_lem kind marks) ∙ one (eqb mark kind) (how_many kind marks)
  where
    one : (t : Bool) (n : ℕ) → cond t 1 0 + n ≡ cond t (suc n) n
    one true n = omega arith
    one false n = omega arith

pub counts_as_said : CountsAsSaid
counts_as_said marks = (how_many_lem 1 marks, how_many_lem 2 marks)

counted : (s : Session) → s.counts ≡ counts_of s.marks → Counted s
counted s e = record { dirty = (λ i. (e i).dirty) ∙ how_many_lem 1 s.marks; erased = (λ i. (e i).erased) ∙ how_many_lem 2 s.marks }

not_counted : (s : Session) → (Counted s → ⊥) → s.counts ≡ counts_of s.marks → ⊥
not_counted s n e = n (counted s e)

-- and the other way
counts : (s : Session) → Counted s → s.counts ≡ counts_of s.marks
counts s c =
    let dirty = c.dirty ∙ sym (how_many_lem 1 s.marks) in
    let erased = c.erased ∙ sym (how_many_lem 2 s.marks) in
    λ i. record { dirty = dirty i; erased = erased i }

pub miscounted_refused : MiscountedRefused
unfolding sound_at reason_for answer_for listed advanced
miscounted_refused setup registers m apart =
    let e = miscounted (length m.flash) (length m.worn) (length m.memory) m.session (not_counted m.session apart) in
    (rw e, λ list. rw e, λ done. rw e)

right : (setup : Setup) (m : Machine) → sound_in setup m ≡ true → m.session.counts ≡ counts_of m.session.marks
right setup m e = (measured setup (length m.flash) (length m.worn) (length m.memory) m.session e).fits.counts

pub run_counted : RunCounted
run_counted setup calls m e =
    let n = called_all setup calls m in
    counted n.session (right setup n (run_keeps setup calls m e))

-- ---- where the marks are dropped
none : (s : Session) → s.marks ≡ clean → s.counts ≡ counts_of clean → Unmarked s
none s m c = record { marks = m; dirty = λ i. (c i).dirty; erased = λ i. (c i).erased }

module _ (setup : Setup) (registers : List ℕ) (m : Machine) where
  -- what is to be shown of an outcome: nothing of a FLUSH or a CLOSE_WINDOW that answers 3
  abbrev Ends : ℕ → Outcome → Type 0
  Ends n o = (code_of o ≡ 3 → is_create n ≡ true) → Unmarked o.machine.session

  stays : (n : ℕ) → is_create n ≡ false → (o : Outcome) → code_of o ≡ 3 → Ends n o
  stays n c o q f = absurd (false≢true (sym c ∙ f q))

  -- a command that no check refused, by its row
  abbrev Drops : ℕ → Command → Type 0
  Drops n c =
      (t : Bool) → reason_of c t registers m ≡ Accepted → drops n ≡ true → Ends n (c.leaves setup registers (numbered_in registers m))

  dropping : (n : ℕ) → Drops n (command_at n)
  dropping =
      each_command Drops
      (λ t a d _. none _ refl refl)
      (λ t a d. absurd (false≢true d))
      (λ t a d. absurd (false≢true d))
      (λ t a d. open_ends (Ends 4) registers (numbered_in registers m) Read _ _ setup (λ _ _. none _ refl refl) (λ _ _. none _ refl refl))
      (λ t a d. close_ends (Ends 5) registers (numbered_in registers m) (λ _. stays 5 refl (stopped registers (numbered_in registers m)) refl) (λ _ _. none _ refl refl))
      (λ t a d. open_ends (Ends 6) registers (numbered_in registers m) Write _ _ setup (λ _ _. none _ refl refl) (λ _ _. none _ refl refl))
      (λ t a d. absurd (false≢true d))
      (λ t a d. flush_ends (Ends 8) registers (holding (flushing (numbered m.session registers) registers) m) (λ _. stays 8 refl (stopped registers (holding (flushing (numbered m.session registers) registers) m)) refl) (λ _ _. none _ refl refl))
      (λ t a d. absurd (false≢true d))
      (λ t a d. absurd (false≢true d))
      (λ n t a d. absurd (false≢true (passed t m.session registers false Access false a).knows))

pub dropped_unmarked : DroppedUnmarked
dropped_unmarked = (
  λ setup registers m. (
    λ a d.
        subst (Ends setup registers m (command_of registers)) (sym (carried setup registers m (command_of registers) refl a))
        (dropping setup registers m (command_of registers) (sound_in setup m) a d),
    λ a c. subst (λ (o : Outcome). Unmarked o.machine.session) (sym ((refusals_as_said setup registers m).1 c a)) (none _ refl refl),
  ),
  λ s e.
      subst (λ (t : Bool). Unmarked (answer t s (drop_window (with_access false (set_bits window_reset (clear_bits control_lost s.events)) s))).session) (sym e) (none _ refl refl),
  none fresh refl refl,
)

-- ---- the question
pub pending_exact : PendingExact
pending_exact s = (λ c. pending_right s (counts s c), λ n. pending_wrong s (not_counted s n))

-- a sound mark counts once where it isn't 0
kinds : (mark : ℕ) → mark ≤ 2 → of_kind 1 mark + of_kind 2 mark ≡ cond (eqb mark 0) 0 1
kinds zero h = refl
kinds (suc zero) h = refl
kinds (suc (suc zero)) h = refl
kinds (suc (suc (suc mark))) h = absurd (omega arith)

marked_more : (mark : ℕ) (marks : List ℕ) → mark ≤ 2 → marks_of 1 marks + marks_of 2 marks ≡ marked_blocks marks
    → marks_of 1 (mark ∷ marks) + marks_of 2 (mark ∷ marks) ≡ marked_blocks (mark ∷ marks)
marked_more mark marks h rest = sum (of_kind 1 mark) (of_kind 2 mark) (marks_of 1 marks) (marks_of 2 marks) (kinds mark h) rest
  where
    sum : (a b c d : ℕ) {x y : ℕ} → a + b ≡ x → c + d ≡ y → a + c + (b + d) ≡ x + y
    sum a b c d p q = omega arith

marked_all : (n : ℕ) (marks : List ℕ) → marks_sound n marks ≡ true → marks_of 1 marks + marks_of 2 marks ≡ marked_blocks marks
marked_all n [] e = refl
marked_all zero (mark ∷ marks) e =
    let p = both (leb mark 0) (marks_sound zero marks) e in
    marked_more mark marks (omega (arith, leb-true mark 0 p.0)) (marked_all zero marks p.1)
marked_all (suc n) (mark ∷ marks) e =
    let p = both (leb mark 2) (marks_sound n marks) e in
    marked_more mark marks (leb-true mark 2 p.0) (marked_all n marks p.1)

pub pending_tells : PendingTells
pending_tells setup m e =
    let s = m.session in
    let n = right setup m e in
    let blocks = ap (λ (c : Counts). c.dirty + c.erased) n
    ∙ marked_all (markable s.window s.size) s.marks (measured setup (length m.flash) (length m.worn) (length m.memory) s e).fits.marks in
    let actions = ap (λ (c : Counts). 17 * c.dirty + c.erased) n ∙ sym (flush_count s.marks) in
    pending_right s n ∙ (λ i. marked_work (blocks i) (actions i))

-- ---- the answer that carries it
module _ (setup : Setup) (registers : List ℕ) (m : Machine) where
  -- an outcome that does not answer 3: it carries the number of actions of a flush that did not fail
  abbrev Through : Machine → Outcome → Type 0
  Through n o = (code_of o ≡ 3 → ⊥) → ((flush_whole n).failed ≡ false) × (o.actions ≡ (flush_whole n).actions)

  -- a command that closes the window, by its row
  abbrev Closes : ℕ → Command → Type 0
  Closes n c =
      (t : Bool) → reason_of c t registers m ≡ Accepted → (is_create n || eqb n 5) ≡ true → Through (numbered_in registers m) (c.leaves setup registers (numbered_in registers m))

  closing : (n : ℕ) → Closes n (command_at n)
  closing =
      each_command Closes
      (λ t a f. absurd (false≢true f))
      (λ t a f. absurd (false≢true f))
      (λ t a f. absurd (false≢true f))
      (λ t a f. open_ends (Through (numbered_in registers m)) registers (numbered_in registers m) Read _ _ setup (λ _ n. absurd (n refl)) (λ e _. (e, refl)))
      (λ t a f. close_ends (Through (numbered_in registers m)) registers (numbered_in registers m) (λ _ n. absurd (n refl)) (λ e _. (e, refl)))
      (λ t a f. open_ends (Through (numbered_in registers m)) registers (numbered_in registers m) Write _ _ setup (λ _ n. absurd (n refl)) (λ e _. (e, refl)))
      (λ t a f. absurd (false≢true f))
      (λ t a f. absurd (false≢true f))
      (λ t a f. absurd (false≢true f))
      (λ t a f. absurd (false≢true f))
      (λ n t a f. absurd (false≢true (passed t m.session registers false Access false a).knows))

  -- the window's flush, where it does not fail
  whole : (reason_in setup registers m ≡ Err System → ⊥) → (flush_whole (numbered_in registers m)).failed ≡ false
      → (flush_whole (numbered_in registers m)).actions ≡ length (window_actions m.session)
  unfolding flush_whole
  whole fine f = let e = (flush_sound setup registers m fine).0 in rw e (ap length (until_all (window_worn m.session m.worn) (window_actions m.session) (rw e at f)))

  -- and that of a FLUSH, whose own marks the number makes no difference to
  added : (t : Bool) → (cond t (marked dirty (numbered m.session registers) registers) (numbered m.session registers)).marks
      ≡ (cond t (marked dirty m.session registers) m.session).marks
  added true = refl
  added false = refl

  flushed : (reason_in setup registers m ≡ Err System → ⊥) → command_of registers ≡ 8 → reason_in setup registers m ≡ Accepted
      → (flushing m.session registers).marks ≡ m.session.marks
      → (flush_whole (holding (flushing (numbered m.session registers) registers) m)).failed ≡ false
      → (flush_whole (holding (flushing (numbered m.session registers) registers) m)).actions ≡ length (window_actions m.session)
  unfolding flush_whole
  flushed fine c a same f =
      let e = (flush_sound setup registers m fine).1 c a in
      let t = flushing (numbered m.session registers) registers in
      rw e
      (ap length (until_all (window_worn t m.worn) (window_actions t) (rw e at f))
      ∙ ap (λ (marks : List ℕ). length (flush_actions marks)) (added (flush_marks m.session registers) ∙ same))

  flush_through : command_of registers ≡ 8 → reason_in setup registers m ≡ Accepted → (response setup registers m ≡ 3 → ⊥)
      → ((flush_whole (holding (flushing (numbered m.session registers) registers) m)).failed ≡ false)
      × ((mediate setup registers m).actions ≡ (flush_whole (holding (flushing (numbered m.session registers) registers) m)).actions)
  unfolding command_at
  flush_through c a =
      let t = holding (flushing (numbered m.session registers) registers) m in
      subst (Through t) (sym (carried setup registers m 8 c a)) (flush_ends (Through t) registers t (λ _ n. absurd (n refl)) (λ e _. (e, refl)))

  -- which adds none at version 2, nor with a length of 0
  adds_none : (m.session.version ≡ 2) ⊎ (number 4 2 registers ≡ 0) → (flushing m.session registers).marks ≡ m.session.marks
  adds_none =
      ⊎_elim
      (λ v. ap (λ (version : ℕ). (cond (ltb version 2 && not (eqb (number 4 2 registers) 0)) (marked dirty m.session registers) m.session).marks) v)
      (λ l.
      ap (λ (long : ℕ). (cond (ltb m.session.version 2 && not (eqb long 0)) (marked dirty m.session registers) m.session).marks) l
      ∙ ap (λ (t : Bool). (cond t (marked dirty m.session registers) m.session).marks) (and-false (ltb m.session.version 2)))

  told : (reason_in setup registers m ≡ Err System → ⊥) → (mediate setup registers m).actions ≡ length (window_actions m.session) → Tells setup registers m
  told fine e = pending_tells setup m (sounds_unless setup registers m fine) ∙ ap (marked_work (marked_blocks m.session.marks)) (sym e)

  other : {r : Checked} → (r ≡ Err System → ⊥) → reason_in setup registers m ≡ r → reason_in setup registers m ≡ Err System → ⊥
  other n e q = n (sym e ∙ q)

flush_carries : (setup : Setup) (registers : List ℕ) (m : Machine) → (response setup registers m ≡ 3 → ⊥) → reason_in setup registers m ≡ Accepted
    → command_of registers ≡ 8 → (flushing m.session registers).marks ≡ m.session.marks → Tells setup registers m
flush_carries setup registers m other-code a c same =
    let fine = other setup registers m (λ q. cc) a in
    let f = flush_through setup registers m c a other-code in
    told setup registers m fine (f.1 ∙ flushed setup registers m fine c a same f.0)

pub pending_carried : PendingCarried
pending_carried setup registers m other-code = (
  flush_carries setup registers m other-code,
  λ a c none. flush_carries setup registers m other-code a c (adds_none setup registers m none),
  λ a f.
      let fine = other setup registers m (λ q. cc) a in
      let t = subst (Through setup registers m (numbered_in registers m)) (sym (carried setup registers m (command_of registers) refl a)) (closing setup registers m (command_of registers) (sound_in setup m) a f) other-code in
      told setup registers m fine (t.1 ∙ whole setup registers m fine t.0),
  λ a c.
      let fine = other setup registers m (λ q. cc) a in
      let left = (refusals_as_said setup registers m).1 c a in
      told setup registers m fine
      (ap (λ (o : Outcome). o.actions) left ∙ whole setup registers m fine (false_from_ne_true (flush_whole (numbered_in registers m)).failed
      (λ t. other-code (ap code_of left ∙ ap (λ (b : Bool). cond b 3 2) t)))),
)
