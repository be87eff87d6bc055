-- What is kept has its place in the request, what is given its place in the response, and what is taken fits; a bit of the status register is small.
use mathlib.Core.Path.{◌≡◌, refl}
use mathlib.Core.Bool.{Bool, true, false, cond, false≢true}
use Prim.Native.Nat.{ℕ, ◌<◌, ◌≤◌}
use lib.Dec.{ltb, leb, eqb}
use borrow.Author.Tests.{ltb-true, leb-true}
use Rattle.units.proofs.Cases.{both}
use Rattle.kcs.specs.Port.{Control}
use Rattle.kcs.specs.Effects.{Keeps, Completes, TooLong, Tells, Continues, Finishes, WrongCode, on_data, has_next, data_effect, is_kept}
use Rattle.kcs.specs.Accesses.{is_taken}
use Rattle.kcs.proofs.Phases.{each_phase}

pub next_inside : (c : Control) → has_next c ≡ true → c.next < 64
next_inside c more = ltb-true c.next 64 (both (ltb c.next c.end) (ltb c.next 64) more).1

pub taken_short : (n : ℕ) (c : Control) → is_taken n c ≡ true → n ≤ 64
taken_short n c taken = leb-true n 64 (both (leb n 64) (eqb c.phase 3) taken).0

-- ---- what is kept

keeps : (room : Bool) → is_kept (cond room Keeps TooLong) ≡ true → room ≡ true
keeps true e = refl
keeps false e = e

completes : (room : Bool) → is_kept (cond room Completes TooLong) ≡ true → room ≡ true
completes true e = refl
completes false e = e

none_read : (asked more : Bool) → is_kept (cond asked (cond more Continues Finishes) WrongCode) ≡ true → ⊥
none_read true true e = false≢true e
none_read true false e = false≢true e
none_read false more e = false≢true e

none_aborted : (asked : Bool) → is_kept (cond asked Tells WrongCode) ≡ true → ⊥
none_aborted true e = false≢true e
none_aborted false e = false≢true e

pub kept_inside : (byte : ℕ) (c : Control) → is_kept (data_effect byte c) ≡ true → c.length < 64
kept_inside byte c =
    each_phase
    (λ p. is_kept (on_data p (ltb c.length 64) (has_next c) byte) ≡ true → c.length < 64)
    c.phase
    (λ _ e. absurd (false≢true e))
    (λ _ e. ltb-true c.length 64 (keeps (ltb c.length 64) e))
    (λ _ e. ltb-true c.length 64 (completes (ltb c.length 64) e))
    (λ _ e. absurd (false≢true e))
    (λ _ e. absurd (none_read (eqb byte 0x68) (has_next c) e))
    (λ _ e. absurd (none_aborted (eqb byte 0x00) e))
    (λ e. absurd (false≢true e))
