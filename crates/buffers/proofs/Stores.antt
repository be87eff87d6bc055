-- Laws of a value that is stored at one place after the other.
use mathlib.Core.Path.{◌≡◌, sym, ap, ◌∙◌}
use mathlib.Core.List.{List, [], ◌∷◌, ◌++◌}
use Prim.Native.Nat.{ℕ, ◌+◌, ◌<◌}
use native.Mathlib.Nat.{zero-add, suc-add}
use native.Mathlib.Omega.{arith}
use lib.ListN.{length, set, take, drop, replicate, take-append-drop, length-drop, length-replicate}
use lib.Seq.{drop-drop, length-take-le}
use borrow.Author.Fill.{fill_more}
use Rattle.buffers.specs.Ranges.{replace}

-- a store past the front of a list
set_append_add : (xs ys : List ℕ) (i a : ℕ) → set (xs ++ ys) (length xs + i) a ≡ xs ++ set ys i a
set_append_add [] ys i a = ap (λ (n : ℕ). set ys n a) (zero-add i)
set_append_add (x ∷ xs) ys i a =
    ap (λ (n : ℕ). set (x ∷ (xs ++ ys)) n a) (suc-add (length xs) i) ∙ ap (λ (t : List ℕ). x ∷ t) (set_append_add xs ys i a)

-- i elements replaced from a place on, as a front and the rest
replaced_fill : (start i v : ℕ) (xs : List ℕ)
    → replace start (replicate i v) xs ≡ take start xs ++ (replicate i v ++ drop i (drop start xs))
replaced_fill start i v xs =
    ap (λ (t : List ℕ). take start xs ++ (replicate i v ++ t))
    (ap (λ (n : ℕ). drop (start + n) xs) (length-replicate i v) ∙ sym (drop-drop i start xs))

-- none
pub replaced_none : (start v : ℕ) (xs : List ℕ) → xs ≡ replace start (replicate 0 v) xs
replaced_none start v xs = sym (replaced_fill start 0 v xs ∙ take-append-drop start xs)

-- one more
pub replaced_more : (start i v : ℕ) (xs : List ℕ) → start + i < length xs
    → set (replace start (replicate i v) xs) (start + i) v ≡ replace start (replicate (i + 1) v) xs
replaced_more start i v xs h =
    ap (λ (t : List ℕ). set t (start + i) v) (replaced_fill start i v xs)
    ∙ ap (λ (n : ℕ). set (take start xs ++ (replicate i v ++ drop i (drop start xs))) (n + i) v)
    (sym (length-take-le start xs (omega arith)))
    ∙ set_append_add (take start xs) (replicate i v ++ drop i (drop start xs)) i v
    ∙ ap (λ (t : List ℕ). take start xs ++ t) (fill_more i v (drop start xs) (rw length-drop (omega arith)))
    ∙ sym (replaced_fill start (i + 1) v xs)
