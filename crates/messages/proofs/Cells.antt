-- Lists by their elements: filled up with zeros, and from a place on.
use Rattle.std.proofs.Common.{◌≡◌, ℕ, zero, suc, ◌-◌, ◌≤◌, List, [], ◌∷◌, ◌++◌, length, take, drop, replicate, refl, sym, ap, ◌∙◌, le_of_suc-le-suc, le_of_lt, not-suc-le-zero}
use Rattle.std.proofs.lemmas.List.{take-replicate}
use native.Mathlib.Nat.{sub-zero, suc-sub-suc}
use Rattle.registers.proofs.Fields.{elements, elements_tail}

none : (n i : ℕ) → elements n i [] ≡ replicate n 0
none zero i = refl
none (suc n) i = ap (λ (t : List ℕ). 0 ∷ t) (none n (suc i))

-- the first n of a list with enough zeros behind it
pub filled : (n k : ℕ) (xs : List ℕ) → n ≤ k → take n (xs ++ replicate k 0) ≡ elements n 0 xs
filled zero k xs h = refl
filled (suc n) k [] h = take-replicate (suc n) k 0 h ∙ sym (none (suc n) 0)
filled (suc n) k (x ∷ xs) h =
    ap (λ (t : List ℕ). x ∷ t) (filled n k xs (le_of_lt h) ∙ sym (elements_tail n 0 x xs))

-- and where the list has no more, the list with zeros behind it
pub filled_up : (n k : ℕ) (xs : List ℕ) → length xs ≤ n → n ≤ k → take n (xs ++ replicate k 0) ≡ xs ++ replicate (n - length xs) 0
filled_up n k [] l h = take-replicate n k 0 h ∙ ap (λ (i : ℕ). replicate i 0) (sym (sub-zero n))
filled_up zero k (x ∷ xs) l h = absurd (not-suc-le-zero l)
filled_up (suc n) k (x ∷ xs) l h =
    ap (λ (t : List ℕ). x ∷ t)
    (filled_up n k xs (le_of_suc-le-suc l) (le_of_lt h) ∙ ap (λ (i : ℕ). xs ++ replicate i 0) (sym (suc-sub-suc n (length xs))))

-- those of a list without its first k
pub behind : (n k : ℕ) (xs : List ℕ) → elements n 0 (drop k xs) ≡ elements n k xs
behind n zero xs = refl
behind n (suc k) [] = none n 0 ∙ sym (none n (suc k))
behind n (suc k) (x ∷ xs) = behind n k xs ∙ sym (elements_tail n k x xs)
