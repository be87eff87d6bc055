-- Laws of the numbers of marks.
use mathlib.Core.Path.{◌≡◌, refl, ap, ◌∙◌}
use mathlib.Core.Bool.{Bool, true, false, cond}
use mathlib.Core.List.{List, [], ◌∷◌}
use Prim.Native.Nat.{ℕ, zero, suc, ◌+◌, ◌≤◌, ◌<◌}
use native.Mathlib.Numerals.{add-one}
use native.Mathlib.Omega.{arith}
use lib.Dec.{eqb}
use lib.ListN.{length, get_or, set, take}
use Rattle.std.proofs.lemmas.List.{length-take}
use borrow.Author.Tests.{eqb-true, eq-eqb}
use Rattle.units.proofs.Cases.{both}
use Rattle.session.specs.declared.Counts.{Counts}
use Rattle.session.specs.Marks.{of_kind, marks_of, counts_of, same_counts}

-- the first marks, and one more
marks_more : (kind : ℕ) (ms : List ℕ) (i : ℕ) → i < length ms → marks_of kind (take (suc i) ms) ≡ of_kind kind (get_or ms i 0) + marks_of kind (take i ms)
marks_more kind [] i h = absurd (omega arith)
marks_more kind (m ∷ ms) zero h = refl
marks_more kind (m ∷ ms) (suc i) h =
    ap (λ (n : ℕ). of_kind kind m + n) (marks_more kind ms i (omega arith)) ∙ swap (of_kind kind m) (of_kind kind (get_or ms i 0)) (marks_of kind (take i ms))
  where
    swap : (a b n : ℕ) → a + (b + n) ≡ b + (a + n)
    swap a b n = omega arith

pub counts_more : (ms : List ℕ) (i : ℕ) → i < length ms → counts_of (take (i + 1) ms) ≡ counts_of (get_or ms i 0 ∷ take i ms)
counts_more ms i h =
    ap (λ (n : ℕ). counts_of (take n ms)) (add-one i) ∙ (λ j. record { dirty = marks_more 1 ms i h j; erased = marks_more 2 ms i h j })

-- no more than there are marks
pub kind_most : (kind mark : ℕ) → of_kind kind mark ≤ 1
kind_most kind mark = most (eqb mark kind)
  where
    most : (t : Bool) → cond t 1 0 ≤ 1
    most true = omega arith
    most false = omega arith

pub marks_most : (kind : ℕ) (ms : List ℕ) → marks_of kind ms ≤ length ms
marks_most kind [] = omega arith
marks_most kind (m ∷ ms) =
    let rest = marks_most kind ms in
    let few = kind_most kind m in
    omega (arith, rest, few)

pub few_counted : (kind : ℕ) (ms : List ℕ) (i : ℕ) → marks_of kind (take i ms) ≤ length ms
few_counted kind ms i = omega (arith, marks_most kind (take i ms), length-take i ms)

-- a mark that is there is counted
pub marks_some : (kind : ℕ) (ms : List ℕ) (i : ℕ) → i < length ms → of_kind kind (get_or ms i 0) ≤ marks_of kind ms
marks_some kind [] i h = absurd (omega arith)
marks_some kind (m ∷ ms) zero h = omega arith
marks_some kind (m ∷ ms) (suc i) h = let rest = marks_some kind ms i (omega arith) in omega (arith, rest)

-- another mark at one place
pub marks_set : (kind : ℕ) (ms : List ℕ) (i m : ℕ) → i < length ms → marks_of kind (set ms i m) + of_kind kind (get_or ms i 0) ≡ marks_of kind ms + of_kind kind m
marks_set kind [] i m h = absurd (omega arith)
marks_set kind (x ∷ ms) zero m h = swap (of_kind kind m) (marks_of kind ms) (of_kind kind x)
  where
    swap : (a n b : ℕ) → a + n + b ≡ b + n + a
    swap a n b = omega arith
marks_set kind (x ∷ ms) (suc i) m h = shift (of_kind kind x) (marks_of kind (set ms i m)) (of_kind kind (get_or ms i 0)) (marks_of kind ms) (of_kind kind m) (marks_set kind ms i m (omega arith))
  where
    shift : (a n b k c : ℕ) → n + b ≡ k + c → a + n + b ≡ a + k + c
    shift a n b k c e = omega arith

-- numbers are the same exactly where the test says so
pub counts_same : (a b : Counts) → same_counts a b ≡ true → a ≡ b
counts_same a b e =
    let p = both (eqb a.dirty b.dirty) (eqb a.erased b.erased) e in
    λ i. record { dirty = eqb-true a.dirty b.dirty p.0 i; erased = eqb-true a.erased b.erased p.1 i }

pub same_counts_lem : (a b : Counts) → a ≡ b → same_counts a b ≡ true
same_counts_lem a b e = rw (eq-eqb a.dirty b.dirty (λ i. (e i).dirty), eq-eqb a.erased b.erased (λ i. (e i).erased))
