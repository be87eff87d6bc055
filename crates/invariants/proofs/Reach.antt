-- How far a flush comes, as the claims say it of the whole map and as the definitions say it of the window's part: of sound marks both say the same.
use Rattle.std.proofs.Common.{◌≡◌, refl, sym, ap, ◌∙◌, Bool, true, false, cond, not, ◌&&◌, ◌||◌, List, [], ◌∷◌, ◌++◌, ⊎_elim, ℕ, zero, suc, ◌+◌, ◌≤◌, ◌<◌, le_trans, arith, leb, ltb, eqb, length, get_or, take, drop, replicate, leb-true, lt-ltb}
use lib.ListN.{get_or-eq_default}
use Rattle.units.proofs.Cases.{decided, below_or, both}
use Rattle.buffers.specs.Ranges.{range}
use Rattle.buffers.proofs.Replace.{range_at}
use Rattle.session.specs.declared.Session.{Session}
use Rattle.session.specs.Machine.{lent}
use Rattle.session.specs.Marks.{erases, programs}
use Rattle.soundness.specs.Soundness.{marks_sound, sound}
use Rattle.flush.specs.Actions.{flush_actions}
use Rattle.flush.specs.Worn.{is_worn, some_fail, finished_from, finished_blocks, marks_kept}
use Rattle.flush.specs.Window.{window_actions, window_worn, flush_whole}
use Rattle.flush.proofs.Failing.{less_suc, some_unfinished, none_worn_lem}
use Rattle.mailbox.proofs.Lengths.{range_few}
use Rattle.invariants.specs.Demand2.{fails_at, reached}
use Rattle.invariants.specs.Worn.{meets, kept, MeetsNone}
use Rattle.invariants.proofs.MarksKept.{take_sound}

-- ---- how many blocks come before the first that fails, and what the claims say, by that number
place : List ℕ → ℕ → List ℕ → ℕ
place worn c [] = 0
place worn c (mark ∷ marks) = cond (fails_at worn c mark) 0 (suc (place worn (suc c) marks))

reached_place : (worn : List ℕ) (c : ℕ) (marks : List ℕ) → reached worn c marks ≡ take (place worn c marks) marks
unfolding place
reached_place worn c [] = refl
reached_place worn c (mark ∷ marks) =
    ⊎_elim
    (λ (t : fails_at worn c mark ≡ true). rw t refl)
    (λ (t : fails_at worn c mark ≡ false). rw t (ap (λ (ms : List ℕ). mark ∷ ms) (reached_place worn (suc c) marks)))
    (decided (fails_at worn c mark))

kept_place : (worn : List ℕ) (c : ℕ) (marks : List ℕ) → kept worn c marks ≡ replicate (place worn c marks) 0 ++ drop (place worn c marks) marks
unfolding place
kept_place worn c [] = refl
kept_place worn c (mark ∷ marks) =
    ⊎_elim
    (λ (t : fails_at worn c mark ≡ true). rw t refl)
    (λ (t : fails_at worn c mark ≡ false). rw t (ap (λ (ms : List ℕ). 0 ∷ ms) (kept_place worn (suc c) marks)))
    (decided (fails_at worn c mark))

meets_place : (worn : List ℕ) (c : ℕ) (marks : List ℕ) → meets worn c marks ≡ ltb (place worn c marks) (length marks)
unfolding place
meets_place worn c [] = refl
meets_place worn c (mark ∷ marks) =
    ⊎_elim
    (λ (t : fails_at worn c mark ≡ true). rw t (sym (lt-ltb 0 (suc (length marks)) (omega arith))))
    (λ (t : fails_at worn c mark ≡ false). rw t (meets_place worn (suc c) marks ∙ sym (less_suc (place worn (suc c) marks) (length marks))))
    (decided (fails_at worn c mark))

-- ---- the definitions' number is the same, where the part of the map has the map's bytes at the blocks that may be marked
abbrev Part : List ℕ → List ℕ → ℕ → ℕ → ℕ → Type 0
Part worn part n b c = (k : ℕ) → k < n → get_or part (b + k) 0 ≡ get_or worn (c + k) 0

here : (worn part : List ℕ) (n b c : ℕ) → Part worn part (suc n) b c → get_or part b 0 ≡ get_or worn c 0
here worn part n b c p = ap (λ (i : ℕ). get_or part i 0) front ∙ p 0 (omega arith) ∙ ap (λ (i : ℕ). get_or worn i 0) back
  where
    front : b ≡ b + 0
    front = omega arith

    back : c + 0 ≡ c
    back = omega arith

next : (worn part : List ℕ) (n b c : ℕ) → Part worn part (suc n) b c → Part worn part n (suc b) (suc c)
next worn part n b c p k h = ap (λ (i : ℕ). get_or part i 0) front ∙ p (suc k) (omega arith) ∙ ap (λ (i : ℕ). get_or worn i 0) back
  where
    front : suc b + k ≡ b + suc k
    front = omega arith

    back : c + suc k ≡ suc c + k
    back = omega arith

-- a mark of 0 does not fail, and one of 1 or 2 where the block is worn
fails_clear : (worn part : List ℕ) (b c mark : ℕ) → mark ≤ 0 → (erases mark && is_worn part b) ≡ fails_at worn c mark
fails_clear worn part b c mark h =
    let z : mark ≡ 0 = omega arith in
    ap (λ (m : ℕ). erases m && is_worn part b) z ∙ sym (ap (fails_at worn c) z)

fails_marked : (worn part : List ℕ) (b c mark : ℕ) → mark ≤ 2 → get_or part b 0 ≡ get_or worn c 0 → (erases mark && is_worn part b) ≡ fails_at worn c mark
fails_marked worn part b c zero h e = refl
fails_marked worn part b c (suc zero) h e = ap (λ (byte : ℕ). not (eqb byte 0)) e
fails_marked worn part b c (suc (suc zero)) h e = ap (λ (byte : ℕ). not (eqb byte 0)) e
fails_marked worn part b c (suc (suc (suc mark))) h e = absurd (omega arith)

place_more : (worn part : List ℕ) (b c mark : ℕ) (marks : List ℕ) → (erases mark && is_worn part b) ≡ fails_at worn c mark
    → finished_from part (suc b) marks ≡ place worn (suc c) marks → finished_from part b (mark ∷ marks) ≡ place worn c (mark ∷ marks)
unfolding finished_from place
place_more worn part b c mark marks same rest =
    ap (λ (t : Bool). cond t 0 (suc (finished_from part (suc b) marks))) same ∙ ap (λ (n : ℕ). cond (fails_at worn c mark) 0 (suc n)) rest

place_is : (worn part : List ℕ) (n b c : ℕ) (marks : List ℕ) → marks_sound n marks ≡ true → Part worn part n b c
    → finished_from part b marks ≡ place worn c marks
unfolding finished_from place
place_is worn part n b c [] e p = refl
place_is worn part zero b c (mark ∷ marks) e p =
    let q = both (leb mark 0) (marks_sound zero marks) e in
    place_more worn part b c mark marks (fails_clear worn part b c mark (leb-true mark 0 q.0))
    (place_is worn part zero (suc b) (suc c) marks q.1 (λ k h. absurd (omega arith)))
place_is worn part (suc n) b c (mark ∷ marks) e p =
    let q = both (leb mark 2) (marks_sound n marks) e in
    place_more worn part b c mark marks (fails_marked worn part b c mark (leb-true mark 2 q.0) (here worn part n b c p))
    (place_is worn part n (suc b) (suc c) marks q.1 (next worn part n b c p))

-- ---- of a window's marks
module _ (worn : List ℕ) (first size : ℕ) (marks : List ℕ) (e : marks_sound size marks ≡ true) where
  same_place : finished_blocks (range first size worn) marks ≡ place worn first marks
  unfolding finished_blocks
  same_place = place_is worn (range first size worn) size 0 first marks e part
    where
      part : Part worn (range first size worn) size 0 first
      part k h = let front : 0 + k ≡ k = omega arith in ap (λ (i : ℕ). get_or (range first size worn) i 0) front ∙ range_at first size worn k h

  pub reached_is : reached worn first marks ≡ take (finished_blocks (range first size worn) marks) marks
  reached_is = reached_place worn first marks ∙ ap (λ (n : ℕ). take n marks) (sym same_place)

  pub kept_is : kept worn first marks ≡ marks_kept (range first size worn) marks
  kept_is = kept_place worn first marks ∙ ap (λ (n : ℕ). replicate n 0 ++ drop n marks) (sym same_place)

  pub meets_is : meets worn first marks ≡ some_fail (range first size worn) (flush_actions marks)
  meets_is =
      meets_place worn first marks
      ∙ ap (λ (n : ℕ). ltb n (length marks)) (sym same_place)
      ∙ sym (some_unfinished (range first size worn) marks)

  pub reached_sound : marks_sound size (reached worn first marks) ≡ true
  reached_sound = ap (marks_sound size) reached_is ∙ take_sound (finished_blocks (range first size worn) marks) size marks e

-- ---- where no marked block is worn no erase fails
pub zeros_at : (n i : ℕ) → ◌≡◌ {A = ℕ} (get_or (replicate n 0) i 0) 0
zeros_at zero i = refl
zeros_at (suc n) zero = refl
zeros_at (suc n) (suc i) = zeros_at n i

pub zeros_meet_none : (n : ℕ) (s : Session) → MeetsNone (replicate n 0) s
zeros_meet_none n s b m = zeros_at n (s.first + b)

pub none_fails : (s : Session) (worn : List ℕ) → MeetsNone worn s → some_fail (window_worn s worn) (window_actions s) ≡ false
none_fails s worn good = none_worn_lem (window_worn s worn) s.marks (λ b e. ap (λ (n : ℕ). not (eqb n 0)) (byte b e))
  where
    byte : (b : ℕ) → erases (get_or s.marks b 0) ≡ true → get_or (window_worn s worn) b 0 ≡ 0
    byte b e =
        ⊎_elim
        (λ (h : b < s.size). range_at s.first s.size worn b h ∙ good b (ap (λ (t : Bool). t || programs (get_or s.marks b 0)) e))
        (λ (h : s.size ≤ b). get_or-eq_default (window_worn s worn) 0 (le_trans (range_few s.first s.size worn) h))
        (below_or b s.size)

pub none_failed : (s : Session) (flash worn memory : List ℕ) → MeetsNone worn s → (flush_whole (lent s flash worn memory)).failed ≡ false
unfolding flush_whole
none_failed s flash worn memory good =
    ⊎_elim
    (λ (t : sound (length flash) (length worn) (length memory) s ≡ true). rw t (none_fails s worn good))
    (λ (t : sound (length flash) (length worn) (length memory) s ≡ false). rw t)
    (decided (sound (length flash) (length worn) (length memory) s))
