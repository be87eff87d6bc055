-- What the flags of CLOSE_WINDOW do: the claims stand in specs/Flags.antt.
use Rattle.std.proofs.Common.{◌≡◌, refl, ap, ◌∙◌, Bool, true, false, cond, not, ◌&&◌, List, ◌∷◌, ◌⊎◌, inl, inr, ℕ, ◌≤◌, ◌<◌, arith, leb, ltb, leb-true, lt-ltb, le-ltb, le-leb, Err}
use mathlib.Core.Bool.{and-false}
use borrow.Author.Tests.{lt-leb}
use Rattle.units.proofs.Cases.{below_or}
use Rattle.session.specs.Machine.{Setup, Machine}
use Rattle.soundness.specs.Soundness.{sound_in}
use Rattle.refusals.specs.declared.Reason.TheVariants.{System, Repeated, Unknown, Suspended, Windowless, Argument}
use Rattle.refusals.specs.Refusals.{Checked, Accepted, is_previous, reason_for}
use Rattle.registers.specs.Registers.{argument}
use Rattle.mailbox.specs.Commands.{numbered_in, closed}
use Rattle.mailbox.specs.Table.{close_window}
use Rattle.mailbox.specs.Mediator.{command_at, reason_of, reason_in, answer_to, obeyed, mediate}
use Rattle.mailbox.proofs.Mediating.{mediate_as, carried}
use Rattle.invariants.specs.Flags.{ReachesFlags, Allowed, FlagsAsSaid, FlagsLast, FlagsWithoutEffect}
use Rattle.invariants.specs.Refused.{number_taken}

-- ---- the argument rule, by the flags
passes : (version flags : ℕ) → Allowed version flags → (leb 2 version && ltb 1 flags) ≡ false
passes version flags (inl e) = rw (lt-leb 2 version (omega arith))
passes version flags (inr e) = rw (le-ltb 1 flags (omega arith)) (and-false (leb 2 version))

breaks : (version flags : ℕ) → (Allowed version flags → ⊥) → (leb 2 version && ltb 1 flags) ≡ true
breaks version flags n = above (below_or version 2) (below_or 1 flags)
  where
    above : (version < 2) ⊎ (2 ≤ version) → (1 < flags) ⊎ (flags ≤ 1) → (leb 2 version && ltb 1 flags) ≡ true
    above (inl v) f = absurd (n (inl (omega arith)))
    above (inr v) (inl f) = rw (le-leb 2 version v, lt-ltb 1 flags f)
    above (inr v) (inr f) = absurd (n (inr (omega arith)))

-- ---- a CLOSE_WINDOW that comes to the last check
module _ (setup : Setup) (registers : List ℕ) (m : Machine) (r : ReachesFlags setup registers m) where
  last_check : {broken : Bool} → (leb 2 m.session.version && ltb 1 (argument 0 registers)) ≡ broken
      → reason_in setup registers m ≡ cond broken (Err Argument) Accepted
  unfolding command_at reason_for
  last_check e = rw (r.is_close, r.sound, r.new, le-leb 1 m.session.version r.known, r.awake, e)

  closed_by : Allowed m.session.version (argument 0 registers) → mediate setup registers m ≡ closed registers (numbered_in registers m)
  unfolding command_at
  closed_by a = carried setup registers m 5 r.is_close (last_check (passes m.session.version (argument 0 registers) a))

  refused_by : (Allowed m.session.version (argument 0 registers) → ⊥) → mediate setup registers m ≡ number_taken 2 registers m
  unfolding command_at answer_to
  refused_by a =
      mediate_as setup registers m (Err Argument) (last_check (breaks m.session.version (argument 0 registers) a))
      ∙ ap (λ (n : ℕ). (command_at n).when_broken 2 registers (numbered_in registers m)) r.is_close

pub flags_as_said : FlagsAsSaid
flags_as_said setup registers m r = (closed_by setup registers m r, refused_by setup registers m r)

-- ---- where a check before the last refuses, the last has no part
early : (sound repeated known asleep : Bool) (x y : Checked) → (sound ≡ true → repeated ≡ false → known ≡ true → asleep ≡ false → ⊥)
    → cond (not sound) (Err System) (cond repeated (Err Repeated) (cond (not known) (Err Unknown) (cond asleep (Err Suspended) x)))
    ≡ cond (not sound) (Err System) (cond repeated (Err Repeated) (cond (not known) (Err Unknown) (cond asleep (Err Suspended) y)))
early false repeated known asleep x y n = refl
early true true known asleep x y n = refl
early true false false asleep x y n = refl
early true false true true x y n = refl
early true false true false x y n = absurd (n refl refl refl refl)

-- ---- two that differ in their flags alone, and are refused alike or not at all
module _ (setup : Setup) (sequence flags other_flags : ℕ) (rest : List ℕ) (m : Machine) where
  abbrev Same : Type 0
  Same =
      reason_of close_window (sound_in setup m) (5 ∷ sequence ∷ flags ∷ rest) m
      ≡ reason_of close_window (sound_in setup m) (5 ∷ sequence ∷ other_flags ∷ rest) m

  alike : (q : Checked) → answer_to q close_window setup (5 ∷ sequence ∷ flags ∷ rest) m ≡ answer_to q close_window setup (5 ∷ sequence ∷ other_flags ∷ rest) m
  unfolding answer_to
  alike Accepted = refl
  alike (Err System) = refl
  alike (Err Repeated) = refl
  alike (Err Unknown) = refl
  alike (Err Suspended) = refl
  alike (Err Windowless) = refl
  alike (Err Argument) = refl

  same_left : Same → mediate setup (5 ∷ sequence ∷ flags ∷ rest) m ≡ mediate setup (5 ∷ sequence ∷ other_flags ∷ rest) m
  unfolding mediate obeyed command_at
  same_left e =
      ap (λ (q : Checked). answer_to q close_window setup (5 ∷ sequence ∷ flags ∷ rest) m) e
      ∙ alike (reason_of close_window (sound_in setup m) (5 ∷ sequence ∷ other_flags ∷ rest) m)

  same_allowed : Allowed m.session.version flags → Allowed m.session.version other_flags → Same
  unfolding reason_for
  same_allowed a b = rw (passes m.session.version flags a, passes m.session.version other_flags b)

  same_early : (ReachesFlags setup (5 ∷ sequence ∷ flags ∷ rest) m → ⊥) → Same
  unfolding reason_for
  same_early n =
      early (sound_in setup m) (is_previous m.session.previous sequence) (leb 1 m.session.version) m.session.suspended _ _
      (λ sound new known awake. n (record { is_close = refl; sound = sound; new = new; known = leb-true 1 m.session.version known; awake = awake }))

pub flags_last : FlagsLast
flags_last setup sequence flags other_flags rest m n = same_left setup sequence flags other_flags rest m (same_early setup sequence flags other_flags rest m n)

pub flags_without_effect : FlagsWithoutEffect
flags_without_effect setup sequence flags other_flags rest m a b =
    same_left setup sequence flags other_flags rest m (same_allowed setup sequence flags other_flags rest m a b)
