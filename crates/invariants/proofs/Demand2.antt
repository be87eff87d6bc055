-- Demand 2's last sentence: the claim stands in specs/Demand2.antt. Everything that opens the mediator for it is here; what a flush does to the
-- flash is in CarriedOut.antt.
use Rattle.std.proofs.Common.{◌≡◌, refl, sym, ap, subst, ◌∙◌, Bool, true, false, cond, ◌&&◌, List, ℕ, length, Option, None, Some, Err}
use mathlib.Core.Bool.{false≢true}
use Rattle.session.specs.declared.Session.{Session}
use Rattle.session.specs.declared.Window.{Window}
use Rattle.session.specs.declared.Window.TheVariants.{Read, Write}
use Rattle.session.specs.Machine.{Setup, lent}
use Rattle.soundness.specs.Soundness.{session_sound, sound, sound_in}
use Rattle.soundness.proofs.Facts.{measured}
use Rattle.session.specs.Marks.{dirty}
use Rattle.flush.specs.Window.{perform_in, flush_whole}
use Rattle.refusals.specs.declared.Reason.TheVariants.{System, Repeated, Unknown, Suspended, Windowless, Argument}
use Rattle.refusals.specs.declared.Needs.{Needs}
use Rattle.refusals.specs.declared.Needs.TheVariants.{Access}
use Rattle.registers.specs.Registers.{command_of, sequence_of}
use Rattle.refusals.specs.Refusals.{Checked, Accepted, flush_marks, is_previous, needs_number, code_for, reason_for}
use Rattle.refusals.proofs.Accepting.{passed}
use Rattle.mailbox.specs.Commands.{Outcome, numbered, marked, created, flushing}
use Rattle.mailbox.specs.Table.{Command, create, close_window, flush}
use Rattle.mailbox.specs.Mediator.{command_at, command_in, reason_of, reason_in, answer_to, obeyed, mediate}
use Rattle.mailbox.proofs.Ends.{close_ends, flush_ends, open_ends}
use Rattle.mailbox.proofs.Mediating.{each_command}
use Rattle.invariants.specs.Codes.{is_create}
use Rattle.invariants.specs.Demand2.{at_close, flushed_by, flushed_for, reaching, CarriedOut, Leaves, Demand2}
use Rattle.invariants.proofs.CarriedOut.{carried_out, close_leaves}
use Rattle.invariants.proofs.Kept.{flush_sound}

-- a refusal for an argument comes after the check of the sizes, B and the session, and of a command that its version knows
pub argument_late : (t : Bool) (s : Session) (registers : List ℕ) (known : Bool) (needs : Needs) (broken : Bool)
    → reason_for t s registers known needs broken ≡ Err Argument → (t ≡ true) × (known ≡ true)
unfolding reason_for
argument_late false s registers known needs broken e = cc
argument_late true s registers true needs broken e = (refl, refl)
argument_late true s registers false needs broken e = absurd (repeats (needs_number needs && is_previous s.previous (sequence_of registers)) e)
  where
    repeats : (b : Bool) → cond {A = Checked} b (Err Repeated) (Err Unknown) ≡ Err Argument → ⊥
    repeats true q = cc
    repeats false q = cc

-- ---- what holds of nothing done, of the flush of a window that is closed and of that of a FLUSH, holds of what every command makes of the flash
module _ (setup : Setup) (s : Session) (registers flash worn memory : List ℕ) (Q : Option Session → List ℕ → ℕ → Type 0) (nothing : Q None flash 0)
    (closes : sound (length flash) (length worn) (length memory) s ≡ true
    → Q (at_close s) (flush_whole (lent (numbered s registers) flash worn memory)).flash (flush_whole (lent (numbered s registers) flash worn memory)).actions)
    (flushes : sound (length flash) (length worn) (length memory) (flushing (numbered s registers) registers) ≡ true
    → Q (Some (flushing s registers)) (flush_whole (lent (flushing (numbered s registers) registers) flash worn memory)).flash
    (flush_whole (lent (flushing (numbered s registers) registers) flash worn memory)).actions) where
  -- what is to be shown of an outcome
  abbrev Carries : Option Session → Outcome → Type 0
  Carries t o = Q t o.machine.flash o.actions

  -- a command that no check refused, by its row
  abbrev Served : ℕ → Command → Type 0
  Served n c =
      command_of registers ≡ n → reason_of c (sound_in setup (lent s flash worn memory)) registers (lent s flash worn memory) ≡ Accepted
      → Carries (flushed_by n s registers) (c.leaves setup registers (lent (numbered s registers) flash worn memory))

  accepted_closes : (known : Bool) (needs : Needs) (broken : Bool) → reason_for (sound_in setup (lent s flash worn memory)) s registers known needs broken ≡ Accepted
      → Q (at_close s) (flush_whole (lent (numbered s registers) flash worn memory)).flash (flush_whole (lent (numbered s registers) flash worn memory)).actions
  accepted_closes known needs broken a =
      closes (measured setup (length flash) (length worn) (length memory) s (passed (sound_in setup (lent s flash worn memory)) s registers known needs broken a).sounds).sound

  no_system : Accepted ≡ Err System → ⊥
  no_system q = cc

  served_flush : Served flush.code flush
  unfolding command_at
  served_flush c a =
      let accepted = ap (λ (n : ℕ). reason_of (command_at n) (sound_in setup (lent s flash worn memory)) registers (lent s flash worn memory)) c ∙ a in
      let done = flushes ((flush_sound setup registers (lent s flash worn memory) (λ q. no_system (sym accepted ∙ q))).1 c accepted) in
      flush_ends (Carries (Some (flushing s registers))) registers (lent (flushing (numbered s registers) registers) flash worn memory) (λ _. done) (λ _. done)

  served_close : Served close_window.code close_window
  served_close c a =
      close_ends (Carries (at_close s)) registers (lent (numbered s registers) flash worn memory) (λ _. accepted_closes _ _ _ a) (λ _. accepted_closes _ _ _ a)

  served_create : (w : Window) → {n : ℕ} → command_of registers ≡ n → reason_of (create n w) (sound_in setup (lent s flash worn memory)) registers (lent s flash worn memory) ≡ Accepted
      → Carries (at_close s) (created w setup registers (lent (numbered s registers) flash worn memory))
  served_create w c a =
      open_ends (Carries (at_close s)) registers (lent (numbered s registers) flash worn memory) w _ _ setup (λ _. accepted_closes _ _ _ a) (λ _. accepted_closes _ _ _ a)

  served_carries : (n : ℕ) → Served n (command_at n)
  served_carries =
      each_command Served
      (λ c a. nothing)
      (λ c a. nothing)
      (λ c a. nothing)
      (served_create Read)
      served_close
      (served_create Write)
      (λ c a. nothing)
      served_flush
      (λ c a. nothing)
      (λ c a. nothing)
      (λ n c a. absurd (false≢true (passed (sound_in setup (lent s flash worn memory)) s registers false Access false a).knows))

  -- a refusal for an argument
  abbrev Broken : ℕ → Command → Type 0
  Broken n c =
      reason_of c (sound_in setup (lent s flash worn memory)) registers (lent s flash worn memory) ≡ Err Argument
      → Carries (cond (is_create n) (at_close s) None) (c.when_broken (code_for s.version (Err Argument)) registers (lent (numbered s registers) flash worn memory))

  broken_closes : (known : Bool) (needs : Needs) (broken : Bool) → reason_for (sound_in setup (lent s flash worn memory)) s registers known needs broken ≡ Err Argument
      → Q (at_close s) (flush_whole (lent (numbered s registers) flash worn memory)).flash (flush_whole (lent (numbered s registers) flash worn memory)).actions
  broken_closes known needs broken a =
      closes (measured setup (length flash) (length worn) (length memory) s (argument_late (sound_in setup (lent s flash worn memory)) s registers known needs broken a).0).sound

  broken_carries : (n : ℕ) → Broken n (command_at n)
  broken_carries =
      each_command Broken
      (λ a. nothing)
      (λ a. nothing)
      (λ a. nothing)
      (λ a. broken_closes _ _ _ a)
      (λ a. nothing)
      (λ a. broken_closes _ _ _ a)
      (λ a. nothing)
      (λ a. nothing)
      (λ a. nothing)
      (λ a. nothing)
      (λ n a. absurd (false≢true (argument_late (sound_in setup (lent s flash worn memory)) s registers false Access false a).1))

  -- whatever the first check that refuses
  answer_carries : (r : Checked) → reason_in setup registers (lent s flash worn memory) ≡ r
      → Carries (flushed_for r s registers) (answer_to r (command_in registers) setup registers (lent s flash worn memory))
  unfolding answer_to
  answer_carries Accepted a = served_carries (command_of registers) refl a
  answer_carries (Err System) a = nothing
  answer_carries (Err Repeated) a = nothing
  answer_carries (Err Unknown) a = nothing
  answer_carries (Err Suspended) a = nothing
  answer_carries (Err Windowless) a = nothing
  answer_carries (Err Argument) a = broken_carries (command_of registers) a

  pub every_command : Carries (flushed_for (reason_in setup registers (lent s flash worn memory)) s registers) (mediate setup registers (lent s flash worn memory))
  unfolding mediate obeyed
  every_command = answer_carries (reason_in setup registers (lent s flash worn memory)) refl

-- the previous number has no part in the marks that a FLUSH adds
pub numbered_adds : (s : Session) (registers : List ℕ) (adds : Bool) → cond adds (marked dirty (numbered s registers) registers) (numbered s registers)
    ≡ numbered (cond adds (marked dirty s registers) s) registers
numbered_adds s registers true = refl
numbered_adds s registers false = refl

-- ---- and so do the marks that are carried out
module _ (setup : Setup) (s : Session) (registers flash worn memory : List ℕ) where
  closed_out : sound (length flash) (length worn) (length memory) s ≡ true
      → Leaves (at_close s) flash worn memory (flush_whole (lent (numbered s registers) flash worn memory)).flash (flush_whole (lent (numbered s registers) flash worn memory)).actions
  unfolding flush_whole sound session_sound perform_in
  closed_out e = close_leaves s flash worn memory e

  numbered_out : (t : Session) → sound (length flash) (length worn) (length memory) (numbered t registers) ≡ true
      → CarriedOut (reaching worn t) flash memory (flush_whole (lent (numbered t registers) flash worn memory)).flash (flush_whole (lent (numbered t registers) flash worn memory)).actions
  unfolding flush_whole sound session_sound perform_in
  numbered_out t e = carried_out t flash worn memory e

  flushed_out : sound (length flash) (length worn) (length memory) (flushing (numbered s registers) registers) ≡ true
      → CarriedOut (reaching worn (flushing s registers)) flash memory (flush_whole (lent (flushing (numbered s registers) registers) flash worn memory)).flash
      (flush_whole (lent (flushing (numbered s registers) registers) flash worn memory)).actions
  flushed_out e =
      let t = flushing s registers in
      let same = numbered_adds s registers (flush_marks s registers) in
      subst (λ (u : Session). CarriedOut (reaching worn t) flash memory (flush_whole (lent u flash worn memory)).flash (flush_whole (lent u flash worn memory)).actions) (sym same)
      (numbered_out t (subst (λ (u : Session). sound (length flash) (length worn) (length memory) u ≡ true) same e))

pub demand_2 : Demand2
demand_2 setup registers m =
    every_command setup m.session registers m.flash m.worn m.memory (λ t after actions. Leaves t m.flash m.worn m.memory after actions) (refl, refl)
    (closed_out setup m.session registers m.flash m.worn m.memory) (flushed_out setup m.session registers m.flash m.worn m.memory)
