-- Laws of sound marks.
use mathlib.Core.Path.{◌≡◌, refl, sym, ap, ◌∙◌}
use mathlib.Core.Bool.{Bool, true, false, cond, ◌&&◌, and-true, and-false}
use mathlib.Core.List.{List, [], ◌∷◌}
use mathlib.Core.Logic.{⊎_elim}
use Prim.Native.Nat.{ℕ, zero, suc, ◌+◌, ◌≤◌, ◌<◌, max}
use native.Mathlib.Numerals.{add-one}
use native.Mathlib.Omega.{arith}
use lib.Dec.{leb, ltb, eqb}
use lib.ListN.{length, get_or, take, replicate}
use borrow.Author.Tests.{le-leb, lt-leb, leb-true, lt-ltb, le-ltb, ne_eqb}
use Rattle.std.proofs.Math.Bool.{and_assoc}
use Rattle.std.proofs.lemmas.Bool.Decides.{nat_tests}
use Rattle.units.proofs.Cases.{below_or, both}
use Rattle.session.specs.declared.Window.{Window}
use Rattle.session.specs.declared.Window.TheVariants.{Closed, Read, Write}
use Rattle.soundness.specs.Soundness.{markable, marks_sound}

-- no mark at all
pub clean_sound : (n k : ℕ) → marks_sound n (replicate k 0) ≡ true
clean_sound n zero = refl
clean_sound zero (suc k) = clean_sound zero k
clean_sound (suc n) (suc k) = clean_sound n k

-- ---- one mark more
-- what is asked of the mark at place i
abbrev fine_at : ℕ → ℕ → ℕ → Bool
fine_at n i mark = cond (ltb i n) (leb mark 2) (leb mark 0)

next : (i n : ℕ) → ltb i n ≡ ltb (suc i) (suc n)
next i n = grind (arith, nat_tests)

marks_snoc : (n i : ℕ) (ms : List ℕ) → i < length ms → marks_sound n (take (suc i) ms) ≡ (marks_sound n (take i ms) && fine_at n i (get_or ms i 0))
marks_snoc n i [] h = absurd (omega arith)
marks_snoc zero zero (m ∷ ms) h = and-true (leb m 0)
marks_snoc (suc n) zero (m ∷ ms) h = and-true (leb m 2) ∙ ap (λ (t : Bool). cond t (leb m 2) (leb m 0)) (sym (lt-ltb 0 (suc n) (omega arith)))
marks_snoc zero (suc i) (m ∷ ms) h =
    ap (λ (t : Bool). leb m 0 && t) (marks_snoc zero i ms (omega arith))
    ∙ ap (λ (t : Bool). leb m 0 && (marks_sound zero (take i ms) && cond t (leb (get_or ms i 0) 2) (leb (get_or ms i 0) 0))) (le-ltb i 0 (omega arith) ∙ sym (le-ltb (suc i) 0 (omega arith)))
    ∙ sym (and_assoc (leb m 0) (marks_sound zero (take i ms)) (fine_at zero (suc i) (get_or ms i 0)))
marks_snoc (suc n) (suc i) (m ∷ ms) h =
    ap (λ (t : Bool). leb m 2 && t) (marks_snoc n i ms (omega arith))
    ∙ ap (λ (t : Bool). leb m 2 && (marks_sound n (take i ms) && cond t (leb (get_or ms i 0) 2) (leb (get_or ms i 0) 0))) (next i n)
    ∙ sym (and_assoc (leb m 2) (marks_sound n (take i ms)) (fine_at (suc n) (suc i) (get_or ms i 0)))

-- the largest mark and the end of the last marked block tell it
larger_most : (a b most : ℕ) → leb (max a b) most ≡ (leb a most && leb b most)
larger_most a b most = grind (arith, nat_tests)

-- a mark and its end
fine_by_end : (n i mark : ℕ) → fine_at n i mark ≡ (leb mark 2 && leb (cond (eqb mark 0) 0 (i + 1)) n)
fine_by_end n i zero = alike (ltb i n) ∙ sym (le-leb 0 n (omega arith))
  where
    alike : (t : Bool) → cond t true true ≡ true
    alike true = refl
    alike false = refl
fine_by_end n i (suc mark) =
    ⊎_elim
    (λ (h : i < n). rw (lt-ltb i n h, marked, le-leb (i + 1) n (omega arith)) (sym (and-true (leb (suc mark) 2))))
    (λ (h : n ≤ i). rw (le-ltb i n h, marked, lt-leb (i + 1) n (omega arith)) (lt-leb (suc mark) 0 (omega arith) ∙ sym (and-false (leb (suc mark) 2))))
    (below_or i n)
  where
    marked : eqb (suc mark) 0 ≡ false
    marked = ne_eqb (suc mark) 0 (λ q. omega arith)

swap : (a b c d : Bool) → ((a && b) && (c && d)) ≡ ((a && c) && (b && d))
swap true true c d = refl
swap true false true d = refl
swap true false false d = refl
swap false b c d = refl

pub looked_more : (n i : ℕ) (ms : List ℕ) (largest end : ℕ) → i < length ms → marks_sound n (take i ms) ≡ (leb largest 2 && leb end n)
    → marks_sound n (take (i + 1) ms) ≡ (leb (max largest (get_or ms i 0)) 2 && leb (max end (cond (eqb (get_or ms i 0) 0) 0 (i + 1))) n)
looked_more n i ms largest end h e =
    let mark = get_or ms i 0 in
    let place = cond (eqb mark 0) 0 (i + 1) in
    ap (λ (k : ℕ). marks_sound n (take k ms)) (add-one i)
    ∙ marks_snoc n i ms h
    ∙ ap (λ (t : Bool). t && fine_at n i mark) e
    ∙ ap (λ (t : Bool). (leb largest 2 && leb end n) && t) (fine_by_end n i mark)
    ∙ swap (leb largest 2) (leb end n) (leb mark 2) (leb place n)
    ∙ (λ k. sym (larger_most largest mark 2) k && sym (larger_most end place n) k)

-- marks that are sound where no block may have one are sound in any window
marks_none : (n : ℕ) (ms : List ℕ) → marks_sound zero ms ≡ true → marks_sound n ms ≡ true
marks_none n [] e = refl
marks_none zero (m ∷ ms) e = e
marks_none (suc n) (m ∷ ms) e =
    let p = both (leb m 0) (marks_sound zero ms) e in
    let z : m ≤ 0 = leb-true m 0 p.0 in
    rw (le-leb m 2 (omega arith), marks_none n ms p.1)

pub marks_within : (w : Window) (n : ℕ) (ms : List ℕ) → marks_sound (markable w n) ms ≡ true → marks_sound n ms ≡ true
marks_within Closed n ms e = marks_none n ms e
marks_within Read n ms e = marks_none n ms e
marks_within Write n ms e = e
