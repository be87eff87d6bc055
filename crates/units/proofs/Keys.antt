-- The other arm of a `let .. else` on an enum: a number that is none of its keys.
use mathlib.Core.Path.{◌≡◌, sym}
use mathlib.Core.Bool.{Bool, true, false, ◌||◌, false≢true}
use mathlib.Core.List.{List, [], ◌∷◌}
use mathlib.Core.Logic.{⊎_elim}
use Prim.Native.Nat.{ℕ}
use lib.Dec.{eqb}
use borrow.Author.Tests.{eq-eqb}
use types.Run.{OneOf}

abbrev pub has : ℕ → List ℕ → Bool
has x [] = false
has x (k ∷ ks) = eqb x k || has x ks

later : (b c : Bool) → (b || c) ≡ false → c ≡ false
later true c e = absurd (false≢true (sym e))
later false c e = e

pub none_of : (ks : List ℕ) (x : ℕ) → has x ks ≡ false → OneOf ks x → ⊥
none_of [] x h o = o
none_of (k ∷ []) x h o = false≢true (sym (rw (eq-eqb x k o) at h))
none_of (k ∷ k' ∷ ks) x h o =
    ⊎_elim
    (λ (e : x ≡ k). false≢true (sym (rw (eq-eqb x k e) at h)))
    (λ (t : OneOf (k' ∷ ks) x). none_of (k' ∷ ks) x (later (eqb x k) (has x (k' ∷ ks)) h) t)
    o
