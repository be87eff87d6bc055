-- A list is the list of its elements.
use mathlib.Core.Path.{◌≡◌, refl, ap, ◌∙◌, subst}
use mathlib.Core.List.{List, [], ◌∷◌}
use Prim.Native.Nat.{ℕ, zero, suc}
use lib.ListN.{length, get_or}

-- n elements of a list from an index on, each by its index
abbrev pub elements : ℕ → ℕ → List ℕ → List ℕ
elements zero i xs = []
elements (suc n) i xs = get_or xs i 0 ∷ elements n (suc i) xs

pub elements_tail : (n i x : ℕ) (xs : List ℕ) → elements n (suc i) (x ∷ xs) ≡ elements n i xs
elements_tail zero i x xs = refl
elements_tail (suc n) i x xs = ap (λ (t : List ℕ). get_or xs i 0 ∷ t) (elements_tail n (suc i) x xs)

-- a list is the list of its elements
elements_all : (xs : List ℕ) → elements (length xs) 0 xs ≡ xs
elements_all [] = refl
elements_all (x ∷ xs) = ap (λ (t : List ℕ). x ∷ t) (elements_tail (length xs) 0 x xs ∙ elements_all xs)

pub elements_of : (n : ℕ) (xs : List ℕ) → length xs ≡ n → elements n 0 xs ≡ xs
elements_of n xs h = subst (λ (k : ℕ). elements k 0 xs ≡ xs) h (elements_all xs)
