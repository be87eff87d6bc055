-- Laws of two buffers combined byte by byte, for any way to combine two bytes, and of a loop that does it: after i turns the first i bytes
-- are done.
use mathlib.Core.Path.{◌≡◌, refl, ap, ◌∙◌}
use mathlib.Core.List.{List, [], ◌∷◌, ◌++◌}
use Prim.Native.Nat.{ℕ, zero, suc, ◌+◌, ◌≤◌, ◌<◌, min, suc-le-suc, zero-le}
use native.Mathlib.Nat.{not-suc-le-zero, le_of_suc-le-suc}
use native.Mathlib.Numerals.{add-one}
use native.Mathlib.Omega.{arith}
use lib.ListN.{length, get_or, set, take, drop, take-append-drop}
use lib.Seq.{length-take-le}
use Rattle.buffers.specs.Ranges.{each, copy_each}

module _ (f : ℕ → ℕ → ℕ) where
  -- xs with its first i bytes done
  abbrev pub part_way : ℕ → List ℕ → List ℕ → List ℕ
  part_way i xs ys = each f (take i xs) ys ++ drop i xs

  pub each_length : (xs ys : List ℕ) → length (each f xs ys) ≡ length xs
  each_length [] ys = refl
  each_length (x ∷ xs) [] = refl
  each_length (x ∷ xs) (y ∷ ys) = ap suc (each_length xs ys)

  pub each_at : (i : ℕ) (xs ys : List ℕ) → i < length xs → i < length ys → get_or (each f xs ys) i 0 ≡ f (get_or xs i 0) (get_or ys i 0)
  each_at i [] ys h k = absurd (not-suc-le-zero h)
  each_at i (x ∷ xs) [] h k = absurd (not-suc-le-zero k)
  each_at zero (x ∷ xs) (y ∷ ys) h k = refl
  each_at (suc i) (x ∷ xs) (y ∷ ys) h k = each_at i xs ys (le_of_suc-le-suc h) (le_of_suc-le-suc k)

  step : (i : ℕ) (xs ys : List ℕ) → i < length xs → i < length ys
      → set (part_way i xs ys) i (f (get_or (part_way i xs ys) i 0) (get_or ys i 0)) ≡ part_way (suc i) xs ys
  step i [] ys h k = absurd (not-suc-le-zero h)
  step i (x ∷ xs) [] h k = absurd (not-suc-le-zero k)
  step zero (x ∷ xs) (y ∷ ys) h k = refl
  step (suc i) (x ∷ xs) (y ∷ ys) h k = ap (λ (t : List ℕ). f x y ∷ t) (step i xs ys (le_of_suc-le-suc h) (le_of_suc-le-suc k))

  -- one turn
  pub each_more : (i : ℕ) (xs ys : List ℕ) → i < length xs → i < length ys
      → set (part_way i xs ys) i (f (get_or (part_way i xs ys) i 0) (get_or ys i 0)) ≡ part_way (i + 1) xs ys
  each_more i xs ys h k = rw add-one (step i xs ys h k)

  -- the last turn: one of the two has no byte left
  pub each_all : (n : ℕ) (xs ys : List ℕ) → n ≤ length xs → (n < length xs → length ys ≤ n) → part_way n xs ys ≡ each f xs ys
  each_all zero [] ys h k = refl
  each_all zero (x ∷ xs) [] h k = refl
  each_all zero (x ∷ xs) (y ∷ ys) h k = absurd (not-suc-le-zero (k (suc-le-suc zero-le)))
  each_all (suc n) [] ys h k = absurd (not-suc-le-zero h)
  each_all (suc n) (x ∷ xs) [] h k = ap (λ (t : List ℕ). x ∷ t) (take-append-drop n xs)
  each_all (suc n) (x ∷ xs) (y ∷ ys) h k =
      ap (λ (t : List ℕ). f x y ∷ t) (each_all n xs ys (le_of_suc-le-suc h) (λ p. le_of_suc-le-suc (k (suc-le-suc p))))

  -- one turn over the n bytes that both have, which are lent alone
  pub each_turn : (n i : ℕ) (xs ys zs : List ℕ) → n ≡ min (length xs) (length ys) → i < n → zs ≡ part_way i (take n xs) ys
      → set zs i (f (get_or zs i 0) (get_or ys i 0)) ≡ part_way (i + 1) (take n xs) ys
  each_turn n i xs ys zs m h e =
      let long : length (take n xs) ≡ n = length-take-le n xs (omega arith) in
      rw e (each_more i (take n xs) ys (omega arith) (omega arith))

  -- and after the last turn, with the bytes behind them
  pub each_back : (n i : ℕ) (xs ys zs : List ℕ) → n ≡ min (length xs) (length ys) → i ≡ n → zs ≡ part_way i (take n xs) ys
      → zs ++ drop n xs ≡ each f xs ys
  each_back n i xs ys zs m h e =
      let long : length (take n xs) ≡ n = length-take-le n xs (omega arith) in
      ap (λ (t : List ℕ). t ++ drop n xs) (e ∙ each_all i (take n xs) ys (omega arith) (λ p. omega arith))
      ∙ each_all n xs ys (omega arith) (λ p. omega arith)

-- each byte by the other
abbrev pub second : ℕ → ℕ → ℕ
second old new = new

-- one as long is copied whole
pub copy_whole : (xs ys : List ℕ) → length ys ≡ length xs → copy_each xs ys ≡ ys
copy_whole [] [] e = refl
copy_whole [] (y ∷ ys) e = absurd (omega arith)
copy_whole (x ∷ xs) [] e = absurd (omega arith)
copy_whole (x ∷ xs) (y ∷ ys) e = ap (λ (t : List ℕ). y ∷ t) (copy_whole xs ys (omega arith))
