-- Laws of marks that are given again one by one, to a session that begins with none.
use Rattle.std.proofs.Common.{◌≡◌, refl, sym, ap, ◌∙◌, true, List, [], ◌∷◌, ◌++◌, ℕ, zero, suc, ◌≤◌, ◌<◌, not-suc-le-zero, le_of_suc-le-suc, add-one, arith, leb, length, get_or, take, drop, replicate, length-append, take-suc, length-take-le, leb-true}
use lib.Seq.{append_snoc, set_split, set_at}
use Rattle.units.proofs.Cases.{both}
use Rattle.buffers.specs.Ranges.{replace}
use Rattle.soundness.specs.Soundness.{marks_sound}

-- ---- what sound marks are: "every mark is 0 to 2", and past the window 0
pub mark_most : (n b : ℕ) (ms : List ℕ) → marks_sound n ms ≡ true → get_or ms b 0 ≤ 2
mark_most n b [] e = omega arith
mark_most zero zero (m ∷ ms) e = let h = leb-true m 0 (both (leb m 0) (marks_sound zero ms) e).0 in omega arith
mark_most zero (suc b) (m ∷ ms) e = mark_most zero b ms (both (leb m 0) (marks_sound zero ms) e).1
mark_most (suc n) zero (m ∷ ms) e = leb-true m 2 (both (leb m 2) (marks_sound n ms) e).0
mark_most (suc n) (suc b) (m ∷ ms) e = mark_most n b ms (both (leb m 2) (marks_sound n ms) e).1

pub mark_past : (n b : ℕ) (ms : List ℕ) → marks_sound n ms ≡ true → n ≤ b → get_or ms b 0 ≡ 0
mark_past n b [] e h = refl
mark_past zero zero (m ∷ ms) e h = let k = leb-true m 0 (both (leb m 0) (marks_sound zero ms) e).0 in omega arith
mark_past zero (suc b) (m ∷ ms) e h = mark_past zero b ms (both (leb m 0) (marks_sound zero ms) e).1 (omega arith)
mark_past (suc n) zero (m ∷ ms) e h = absurd (not-suc-le-zero h)
mark_past (suc n) (suc b) (m ∷ ms) e h = mark_past n b ms (both (leb m 2) (marks_sound n ms) e).1 (le_of_suc-le-suc h)

-- ---- the first b of them, and none after: one more
module _ (ms : List ℕ) (b k : ℕ) (h : b < length ms) where
  next : take b ms ++ (get_or ms b 0 ∷ replicate k 0) ≡ take (suc b) ms ++ replicate k 0
  next =
      sym (append_snoc (take b ms) (get_or ms b 0) (replicate k 0)) ∙ ap (λ (t : List ℕ). t ++ replicate k 0) (sym (take-suc ms b 0 h))

  pub mark_more : (mark : ℕ) → get_or ms b 0 ≡ mark → replace b (mark ∷ []) (take b ms ++ replicate (suc k) 0) ≡ take (suc b) ms ++ replicate k 0
  mark_more mark e =
      let l = length-take-le b ms (omega arith) in
      let xs = take b ms ++ replicate (suc k) 0 in
      ap (λ (j : ℕ). take b xs ++ (mark ∷ drop j xs)) (add-one b)
      ∙ sym (set_split xs b mark (rw (length-append, l) (omega arith)))
      ∙ set_at (take b ms) 0 (replicate k 0) mark b l
      ∙ ap (λ (x : ℕ). take b ms ++ (x ∷ replicate k 0)) (sym e)
      ∙ next

  pub mark_none : get_or ms b 0 ≡ 0 → take b ms ++ replicate (suc k) 0 ≡ take (suc b) ms ++ replicate k 0
  mark_none e = ap (λ (mark : ℕ). take b ms ++ (mark ∷ replicate k 0)) (sym e) ∙ next
