-- The phases by their numbers: a case distinction, and what no row of the table takes.
use mathlib.Core.Path.{◌≡◌, refl, sym}
use mathlib.Core.Bool.{Bool, true, false, cond}
use Prim.Native.Nat.{ℕ}
use Rattle.std.specs.Prelude.{Some, None}
use Rattle.std.specs.Option.{unwrap_or}
use lib.Dec.{eqb}
use borrow.Author.Tests.{eqb-true}
use Rattle.std.proofs.Common.{◌⊎◌, inl, inr}
use denote.Enum.Bare.{sameb}
use denote.Enum.Declared.{tag_of}
use Rattle.kcs.specs.contracts.phase.Phase.{the_type}
use Rattle.kcs.specs.declared.phase.Phase.{Phase as Kind}
use Rattle.kcs.specs.declared.phase.Phase.TheVariants.{Idle, Writing, Ending, Awaiting, Reading, Aborting, Failed}
use Rattle.kcs.specs.Kinds.{phase_meant}
use Rattle.kcs.specs.Port.{Port, Phase, idle, writing, ending, awaiting, reading, aborting, failed, phase_of, number_of}
use Rattle.units.proofs.Cases.{chosen}
use Rattle.kcs.specs.Effects.{Keeps, Completes, TooLong, Tells, Continues, Finishes, WrongCode, on_end, on_data, left, told_length, told_message}
use Rattle.kcs.specs.Accesses.{effected, with_control}
use Rattle.kcs.specs.Bytes.{}

-- what holds of every phase, of each one where it is the number's, holds of the number's phase
pub each_phase
    : (P : Phase → Type 0) (n : ℕ)
    → (n ≡ 0 → P idle) → (n ≡ 1 → P writing) → (n ≡ 2 → P ending) → (n ≡ 3 → P awaiting) → (n ≡ 4 → P reading) → (n ≡ 5 → P aborting) → P failed
    → P (phase_of n)
each_phase P n p₀ p₁ p₂ p₃ p₄ p₅ p₆ =
    chosen P (eqb n 0) _ _ (λ e. p₀ (eqb-true n 0 e)) (λ _.
    chosen P (eqb n 1) _ _ (λ e. p₁ (eqb-true n 1 e)) (λ _.
    chosen P (eqb n 2) _ _ (λ e. p₂ (eqb-true n 2 e)) (λ _.
    chosen P (eqb n 3) _ _ (λ e. p₃ (eqb-true n 3 e)) (λ _.
    chosen P (eqb n 4) _ _ (λ e. p₄ (eqb-true n 4 e)) (λ _.
    chosen P (eqb n 5) _ _ (λ e. p₅ (eqb-true n 5 e)) (λ _. p₆))))))

-- 62 is taken in the write phase alone
pub no_end : (n : ℕ) → (n ≡ 1 → ⊥) → on_end (phase_of n) ≡ WrongCode
no_end n n₁ =
    each_phase (λ p. on_end p ≡ WrongCode) n (λ _. refl) (λ e. absurd (n₁ e)) (λ _. refl) (λ _. refl) (λ _. refl) (λ _. refl) refl

-- the number that is stored for a phase of the code
pub number_stored : (phase : Kind) → tag_of the_type phase ≡ number_of (phase_meant phase)
number_stored Idle = refl
number_stored Writing = refl
number_stored Ending = refl
number_stored Awaiting = refl
number_stored Reading = refl
number_stored Aborting = refl
number_stored Failed = refl

-- data is taken in four phases
pub no_data
    : (n : ℕ) (room more : Bool) (byte : ℕ) → (n ≡ 1 → ⊥) → (n ≡ 2 → ⊥) → (n ≡ 4 → ⊥) → (n ≡ 5 → ⊥) → on_data (phase_of n) room more byte ≡ WrongCode
no_data n room more byte n₁ n₂ n₄ n₅ =
    each_phase
    (λ p. on_data p room more byte ≡ WrongCode)
    n
    (λ _. refl)
    (λ e. absurd (n₁ e))
    (λ e. absurd (n₂ e))
    (λ _. refl)
    (λ e. absurd (n₄ e))
    (λ e. absurd (n₅ e))
    refl

-- a byte of the request, the last one in the second phase
pub kept_data
    : (phase : Kind) (last : Bool) (n : ℕ) (room more : Bool) (byte : ℕ)
    → (phase ≡ Writing) ⊎ (phase ≡ Ending) → last ≡ sameb the_type phase Ending → phase_meant phase ≡ phase_of n
    → on_data (phase_of n) room more byte ≡ cond room (cond last Completes Keeps) TooLong
kept_data phase last n room more byte (inl e) same meant = rw (sym meant, same, e) refl
kept_data phase last n room more byte (inr e) same meant = rw (sym meant, same, e) refl

-- what 68 and 00 do keeps no byte and completes no message
pub reading_step
    : (asked more : Bool) (given byte : ℕ) (p : Port)
    → (with_control (left (cond asked (cond more Continues Finishes) WrongCode) given p.control) p ≡ effected (cond asked (cond more Continues Finishes) WrongCode) given byte p)
    × (0 ≡ told_length (cond asked (cond more Continues Finishes) WrongCode) p.control)
reading_step true true given byte p = (refl, refl)
reading_step true false given byte p = (refl, refl)
reading_step false more given byte p = (refl, refl)

pub aborting_step
    : (asked : Bool) (given byte : ℕ) (p : Port)
    → (with_control (left (cond asked Tells WrongCode) given p.control) p ≡ effected (cond asked Tells WrongCode) given byte p)
    × (None ≡ told_message (cond asked Tells WrongCode) p.control)
aborting_step true given byte p = (refl, refl)
aborting_step false given byte p = (refl, refl)

-- the option that a write gives and the number that C gets tell the same
pub told_number : (last : Bool) (n : ℕ) → unwrap_or (cond last (Some n) None) 0 ≡ cond last n 0
told_number true n = refl
told_number false n = refl
