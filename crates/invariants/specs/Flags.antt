-- The flags of CLOSE_WINDOW, with the papers' own numbers: document 02, Ticket 7. Proved in proofs/Flags.antt.
use Rattle.std.specs.Prelude.{◌≡◌, true, false, List, ◌∷◌, ◌⊎◌, ℕ, ◌≤◌, ◌<◌}
use Rattle.session.specs.Machine.{Setup, Machine}
use Rattle.soundness.specs.Soundness.{sound_in}
use Rattle.refusals.specs.Refusals.{is_previous}
use Rattle.registers.specs.Registers.{command_of, sequence_of, argument}
use Rattle.mailbox.specs.Commands.{numbered_in, closed}
use Rattle.mailbox.specs.Mediator.{mediate}
use Rattle.invariants.specs.Refused.{number_taken}

-- a CLOSE_WINDOW (5) that no check before the last refuses; it needs no window
pub record ReachesFlags (setup : Setup) (registers : List ℕ) (m : Machine) : Type 0 where
  pub is_close : command_of registers ≡ 5
  pub sound : sound_in setup m ≡ true
  pub new : is_previous m.session.previous (sequence_of registers) ≡ false
  pub known : 1 ≤ m.session.version
  pub awake : m.session.suspended ≡ false

-- "From version 2 on only the flag values 0 and 1 are now allowed"
abbrev pub Allowed : ℕ → ℕ → Type 0
Allowed version flags = (version < 2) ⊎ (flags ≤ 1)

-- "PARAM_ERROR for other values": 2, and nothing but the previous number is changed. With allowed flags the window is closed: `closed`,
-- of which `Demand2` has the flash and the chip actions, `WriteErrorExactly` the response, and `FailedAsSaid` what is left where an erase fails
abbrev pub FlagsAsSaid : Type 0
FlagsAsSaid =
    (setup : Setup) (registers : List ℕ) (m : Machine) → ReachesFlags setup registers m
    → (Allowed m.session.version (argument 0 registers) → mediate setup registers m ≡ closed registers (numbered_in registers m))
    × ((Allowed m.session.version (argument 0 registers) → ⊥) → mediate setup registers m ≡ number_taken 2 registers m)

-- "in the last check of 01's table": where an earlier check refuses, two that differ in their flags alone leave and answer the same
abbrev pub FlagsLast : Type 0
FlagsLast =
    (setup : Setup) (sequence flags other_flags : ℕ) (rest : List ℕ) (m : Machine) → (ReachesFlags setup (5 ∷ sequence ∷ flags ∷ rest) m → ⊥)
    → mediate setup (5 ∷ sequence ∷ flags ∷ rest) m ≡ mediate setup (5 ∷ sequence ∷ other_flags ∷ rest) m

-- allowed flags "have no effect" (01): two that differ in them alone leave and answer the same, whatever the session, and if a check refuses them too
abbrev pub FlagsWithoutEffect : Type 0
FlagsWithoutEffect =
    (setup : Setup) (sequence flags other_flags : ℕ) (rest : List ℕ) (m : Machine)
    → Allowed m.session.version flags → Allowed m.session.version other_flags
    → mediate setup (5 ∷ sequence ∷ flags ∷ rest) m ≡ mediate setup (5 ∷ sequence ∷ other_flags ∷ rest) m
