-- Marks stay sound where some blocks of the window get one that is sound, and where the first or the last of them are left out.
use Rattle.std.proofs.Common.{◌≡◌, refl, sym, ap, ◌∙◌, true, List, [], ◌∷◌, ◌++◌, append-nil, ℕ, zero, suc, ◌+◌, ◌≤◌, arith, not-suc-le-zero, le_of_suc-le-suc, leb, take, drop, replicate, drop-drop}
use lib.ListN.{length-replicate}
use Rattle.units.proofs.Cases.{both}
use Rattle.buffers.specs.Ranges.{replace}
use Rattle.session.specs.Marks.{dirty}
use Rattle.soundness.specs.Soundness.{marks_sound}
use Rattle.soundness.proofs.SoundMarks.{clean_sound}
use Rattle.marklist.specs.MarkList.{Marked, Pair, first_outside, mark_pairs}
use Rattle.marklist.proofs.InPairs.{inside_front}

module _ (mark : ℕ) (fine : leb mark 2 ≡ true) where
  alike : (n count : ℕ) → count ≤ n → marks_sound n (replicate count mark ++ []) ≡ true
  alike n zero h = refl
  alike zero (suc count) h = absurd (not-suc-le-zero h)
  alike (suc n) (suc count) h = rw fine (alike n count (le_of_suc-le-suc h))

  front : (n count : ℕ) (ms : List ℕ) → count ≤ n → marks_sound n ms ≡ true → marks_sound n (replicate count mark ++ drop count ms) ≡ true
  front n zero ms h e = e
  front n (suc count) [] h e = alike n (suc count) h
  front zero (suc count) (m ∷ ms) h e = absurd (not-suc-le-zero h)
  front (suc n) (suc count) (m ∷ ms) h e = rw fine (front n count ms (le_of_suc-le-suc h) (both (leb m 2) (marks_sound n ms) e).1)

  spliced : (n start count : ℕ) (ms : List ℕ) → start + count ≤ n → marks_sound n ms ≡ true
      → marks_sound n (take start ms ++ (replicate count mark ++ drop count (drop start ms))) ≡ true
  spliced n zero count ms h e = front n count ms (omega arith) e
  spliced n (suc start) count [] h e = front n count [] (omega arith) e
  spliced zero (suc start) count (m ∷ ms) h e = absurd (omega arith)
  spliced (suc n) (suc start) count (m ∷ ms) h e =
      let p = both (leb m 2) (marks_sound n ms) e in
      rw p.0 (spliced n start count ms (omega arith) p.1)

  pub marked_sound : (n start count : ℕ) (ms : List ℕ) → start + count ≤ n → marks_sound n ms ≡ true
      → marks_sound n (replace start (replicate count mark) ms) ≡ true
  marked_sound n start count ms h e =
      ap (λ (t : List ℕ). marks_sound n (take start ms ++ (replicate count mark ++ t)))
      (ap (λ (k : ℕ). drop (start + k) ms) (length-replicate count mark) ∙ sym (drop-drop count start ms))
      ∙ spliced n start count ms h e

-- and where the blocks of a list's pairs become dirty
pub list_sound : (n place : ℕ) (pairs : List Pair) (ms : List ℕ) → first_outside n place pairs ≡ Marked → marks_sound n ms ≡ true
    → marks_sound n (mark_pairs pairs ms) ≡ true
list_sound n place [] ms e h = h
list_sound n place (pair ∷ pairs) ms e h =
    let f = inside_front n place pair pairs e in
    list_sound n (suc place) pairs (replace pair.block (replicate pair.count dirty) ms) f.1 (marked_sound dirty refl n pair.block pair.count ms f.0 h)

-- the first so many
pub take_sound : (k n : ℕ) (ms : List ℕ) → marks_sound n ms ≡ true → marks_sound n (take k ms) ≡ true
take_sound zero n ms e = refl
take_sound (suc k) n [] e = refl
take_sound (suc k) zero (m ∷ ms) e =
    let p = both (leb m 0) (marks_sound zero ms) e in
    rw p.0 (take_sound k zero ms p.1)
take_sound (suc k) (suc n) (m ∷ ms) e =
    let p = both (leb m 2) (marks_sound n ms) e in
    rw p.0 (take_sound k n ms p.1)

-- and those behind them, which are cleared
pub cleared_sound : (k n : ℕ) (ms : List ℕ) → marks_sound n ms ≡ true → marks_sound n (replicate k 0 ++ drop k ms) ≡ true
cleared_sound zero n ms e = e
cleared_sound (suc k) n [] e = ap (marks_sound n) (append-nil (replicate (suc k) 0)) ∙ clean_sound n (suc k)
cleared_sound (suc k) zero (m ∷ ms) e = cleared_sound k zero ms (both (leb m 0) (marks_sound zero ms) e).1
cleared_sound (suc k) (suc n) (m ∷ ms) e = cleared_sound k n ms (both (leb m 2) (marks_sound n ms) e).1
