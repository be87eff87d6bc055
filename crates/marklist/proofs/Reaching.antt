-- Marking block after block, by how far the pairs reach, is marking pair after pair.
use Rattle.std.proofs.Common.{◌≡◌, ℕ, Bool, ap, zero, suc, ◌+◌, ◌-◌, ◌≤◌, ◌<◌, max, cond, ◌&&◌, ◌||◌, List, [], ◌∷◌, length, get_or, set, replicate, leb, ltb, refl, sym, ◌∙◌, ⊎_elim, arith, length-set, get_or-set_same, get_or-set_other, ext_get_or}
use Rattle.std.proofs.lemmas.Bool.{cases_lt, cases_eq}
use Rattle.std.proofs.lemmas.Bool.Decides.{nat_tests}
use Rattle.std.proofs.lemmas.List.{length-replicate, get_or-replicate}
use Rattle.buffers.specs.Ranges.{replace}
use Rattle.buffers.proofs.Replace.{replace_length, replace_before, replace_inside, replace_after}
use Rattle.session.specs.Marks.{dirty}
use Rattle.marklist.specs.MarkList.{Pair, Marked, first_outside, mark_pairs, is_listed}
use Rattle.marklist.specs.Reach.{ends_from, no_ends, farthest}
use Rattle.marklist.proofs.InPairs.{inside_front}

-- ---- pair after pair, block by block

-- some blocks with one mark
pub placed : (start count mark block : ℕ) (marks : List ℕ) → start + count ≤ length marks
    → get_or (replace start (replicate count mark) marks) block 0 ≡ cond (leb start block && ltb block (start + count)) mark (get_or marks block 0)
placed start count mark block marks fits =
    let long = length-replicate count mark in
    let within : start + length (replicate count mark) ≤ length marks = omega arith in
    ⊎_elim
    (λ (b : block < start). let before = replace_before start (replicate count mark) marks within block 0 b in grind (arith, nat_tests))
    (λ (a : start ≤ block).
    ⊎_elim
    (λ (b : block < start + count).
    let split : start + (block - start) ≡ block = omega arith in
    let inside = replace_inside start (replicate count mark) marks within (block - start) 0 (omega arith) in
    let marked = get_or-replicate count (block - start) mark 0 (omega arith) in
    grind (arith, nat_tests))
    (λ (b : start + count ≤ block).
    let after = replace_after start (replicate count mark) marks within block 0 (omega arith) in
    grind (arith, nat_tests))
    (cases_lt block (start + count)))
    (cases_lt block start)

either : (a b : Bool) (x y : ℕ) → cond b x (cond a x y) ≡ cond (a || b) x y
either a b x y = grind (arith, nat_tests)

module _ (pair : Pair) (marks : List ℕ) (long : length marks ≡ 64) (fits : pair.block + pair.count ≤ 64) where
  fits_marks : pair.block + length (replicate pair.count dirty) ≤ length marks
  fits_marks = let count = length-replicate pair.count dirty in omega (arith, fits, long, count)

  next_long : length (replace pair.block (replicate pair.count dirty) marks) ≡ 64
  next_long = replace_length pair.block (replicate pair.count dirty) marks fits_marks ∙ long

pub pairs_long : (place : ℕ) (pairs : List Pair) (marks : List ℕ) → length marks ≡ 64 → first_outside 64 place pairs ≡ Marked → length (mark_pairs pairs marks) ≡ 64
pairs_long place [] marks long e = long
pairs_long place (pair ∷ pairs) marks long e =
    let f = inside_front 64 place pair pairs e in
    pairs_long (suc place) pairs (replace pair.block (replicate pair.count dirty) marks) (next_long pair marks long f.0) f.1

pub pairs_marked : (place : ℕ) (pairs : List Pair) (marks : List ℕ) → length marks ≡ 64 → first_outside 64 place pairs ≡ Marked → (block : ℕ)
    → get_or (mark_pairs pairs marks) block 0 ≡ cond (is_listed pairs block) dirty (get_or marks block 0)
pairs_marked place [] marks long e block = refl
pairs_marked place (pair ∷ pairs) marks long e block =
    let f = inside_front 64 place pair pairs e in
    let here : pair.block + pair.count ≤ length marks = omega (arith, f.0, long) in
    pairs_marked (suc place) pairs (replace pair.block (replicate pair.count dirty) marks) (next_long pair marks long f.0) f.1 block
    ∙ ap (λ (n : ℕ). cond (is_listed pairs block) dirty n) (placed pair.block pair.count dirty block marks here)
    ∙ either (leb pair.block block && ltb block (pair.block + pair.count)) (is_listed pairs block) dirty (get_or marks block 0)

-- ---- how far the pairs reach

-- one end more among the first n, or behind them
farthest_set : (n i v : ℕ) (ends : List ℕ) → i < length ends
    → farthest n (set ends i (max (get_or ends i 0) v)) ≡ cond (ltb i n) (max (farthest n ends) v) (farthest n ends)
farthest_set zero i v ends h = grind (arith, nat_tests)
farthest_set (suc n) i v ends h =
    let f = farthest_set n i v ends h in
    ⊎_elim
    (λ (e : n ≡ i).
    let here : get_or (set ends i (max (get_or ends i 0) v)) n 0 ≡ max (get_or ends n 0) v = rw e (get_or-set_same ends i _ 0 h) in
    grind (arith, nat_tests))
    (λ (e : n ≡ i → ⊥). let other = get_or-set_other ends i n (max (get_or ends i 0) v) 0 e in grind (arith, nat_tests))
    (cases_eq n i)

-- a block is reached after a pair if the pair names it, or it was before
pair_reaches : (block : ℕ) (pair : Pair) (ends : List ℕ) → pair.block < length ends
    → ltb block (farthest (suc block) (set ends pair.block (max (get_or ends pair.block 0) (pair.block + pair.count))))
    ≡ ((leb pair.block block && ltb block (pair.block + pair.count)) || ltb block (farthest (suc block) ends))
pair_reaches block pair ends h =
    let f = farthest_set (suc block) pair.block (pair.block + pair.count) ends h in
    grind (arith, nat_tests)

pairs_reach : (block place : ℕ) (pairs : List Pair) (ends : List ℕ) → length ends ≡ 65 → first_outside 64 place pairs ≡ Marked
    → ltb block (farthest (suc block) (ends_from pairs ends)) ≡ (is_listed pairs block || ltb block (farthest (suc block) ends))
pairs_reach block place [] ends long e = refl
pairs_reach block place (pair ∷ pairs) ends long e =
    let f = inside_front 64 place pair pairs e in
    let after = set ends pair.block (max (get_or ends pair.block 0) (pair.block + pair.count)) in
    let same : length after ≡ 65 = length-set ends pair.block _ ∙ long in
    let here : pair.block < length ends = omega (arith, f.0, long) in
    let rest = pairs_reach block (suc place) pairs after same f.1 in
    let first = pair_reaches block pair ends here in
    grind (arith, nat_tests)

-- at first nothing is reached
none_long : length no_ends ≡ 65
unfolding no_ends
none_long = refl

none_reached : (n : ℕ) → farthest n no_ends ≡ 0
unfolding no_ends
none_reached n = nothing n 65
  where
    zeros : (n k : ℕ) → get_or {A = ℕ} (replicate k 0) n 0 ≡ 0
    zeros n zero = refl
    zeros zero (suc k) = refl
    zeros (suc n) (suc k) = zeros n k

    nothing : (n k : ℕ) → farthest n (replicate k 0) ≡ 0
    nothing zero k = refl
    nothing (suc n) k = omega (arith, nothing n k, zeros n k)

-- so the blocks that are reached are those that a pair names
reached_listed : (pairs : List Pair) (block : ℕ) → first_outside 64 0 pairs ≡ Marked
    → ltb block (farthest (suc block) (ends_from pairs no_ends)) ≡ is_listed pairs block
reached_listed pairs block e =
    let all = pairs_reach block 0 pairs no_ends none_long e in
    let none = none_reached (suc block) in
    grind (arith, nat_tests)

-- and marks that are dirty where a block is reached, and else as they were, are those of the pairs
pub reached_marked : (pairs : List Pair) (marks next ends : List ℕ) → length marks ≡ 64 → length next ≡ 64 → first_outside 64 0 pairs ≡ Marked
    → ends ≡ ends_from pairs no_ends
    → ((block : ℕ) → block < 64 → get_or next block 0 ≡ cond (ltb block (farthest (suc block) ends)) dirty (get_or marks block 0))
    → next ≡ mark_pairs pairs marks
reached_marked pairs marks next ends long same e reach h =
    ext_get_or 0 next (mark_pairs pairs marks) (same ∙ sym (pairs_long 0 pairs marks long e)) λ block b.
    let here = h block (omega arith) in
    let reached = reached_listed pairs block e in
    let marked = pairs_marked 0 pairs marks long e block in
    cc
