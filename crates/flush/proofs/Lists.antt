-- Laws of the lists of actions: how they grow, how many they are, and which comes after the first so many.
use mathlib.Core.Path.{◌≡◌, refl, sym, ap, ◌∙◌}
use mathlib.Core.Bool.{Bool, true, false, cond, ◌||◌, true≢false}
use mathlib.Core.List.{List, [], ◌∷◌, ◌++◌, append_assoc, append-nil}
use mathlib.Core.Logic.{⊎_elim}
use Prim.Native.Nat.{ℕ, zero, suc, ◌+◌, ◌*◌, ◌≤◌, ◌<◌}
use native.Mathlib.Nat.{not-suc-le-zero, le_of_suc-le-suc}
use native.Mathlib.Numerals.{add-one}
use native.Mathlib.Omega.{arith}
use lib.Dec.{leb, eqb}
use lib.ListN.{length, get_or, take, drop, length-append, length-drop, drop_of_length-le}
use lib.Seq.{take-suc, take-append-le, drop-append-le, drop-append-add, split_at, length-take-le}
use borrow.Author.Tests.{ne_eqb, eqb-true, leb-true}
use Rattle.units.proofs.Cases.{decided, chosen, both}
use Rattle.soundness.specs.Soundness.{marks_sound}
use Rattle.session.specs.declared.Counts.{Counts}
use Rattle.session.specs.Marks.{erases, programs, is_marked, marks_of, counts_of}
use Rattle.flush.specs.Actions.{Action, erase, program, pages_from, block_actions, actions_from, flush_actions, perform, perform_all}
use Rattle.chip.specs.Actions.{erase_block, program_page}
use Rattle.flush.specs.Locate.{nth_of, start_of}

-- ---- performing
pub perform_none : (memory flash : List ℕ) → perform_all memory [] flash ≡ flash
unfolding perform_all
perform_none memory flash = refl

pub perform_one : (memory : List ℕ) (a : Action) (flash : List ℕ) → perform_all memory (a ∷ []) flash ≡ perform memory a flash
unfolding perform_all
perform_one memory a flash = refl

pub perform_append : (memory : List ℕ) (xs ys : List Action) (flash : List ℕ)
    → perform_all memory (xs ++ ys) flash ≡ perform_all memory ys (perform_all memory xs flash)
unfolding perform_all
perform_append memory [] ys flash = refl
perform_append memory (x ∷ xs) ys flash = perform_append memory xs ys (perform memory x flash)

pub erase_is : (memory : List ℕ) (b : ℕ) (flash : List ℕ) → perform_all memory (erase b ∷ []) flash ≡ erase_block b flash
unfolding perform_all perform
erase_is memory b flash = refl

-- past the end of the list nothing is done
pub none_left : (memory flash : List ℕ) (actions : List Action) (done : ℕ) → length actions ≤ done → perform_all memory (take 1 (drop done actions)) flash ≡ flash
none_left memory flash actions done h = ap (λ (xs : List Action). perform_all memory (take 1 xs) flash) (drop_of_length-le actions h) ∙ perform_none memory flash

-- ---- the pages of a block
pub pages_length : (b p n : ℕ) → length (pages_from b p n) ≡ n
pages_length b p zero = refl
pages_length b p (suc n) = ap suc (pages_length b (suc p) n)

pub pages_more : (b p n : ℕ) → pages_from b p (n + 1) ≡ pages_from b p n ++ (program b (p + n) ∷ [])
pages_more b p n = ap (pages_from b p) (add-one n) ∙ grow p n
  where
    grow : (p n : ℕ) → pages_from b p (suc n) ≡ pages_from b p n ++ (program b (p + n) ∷ [])
    grow p zero = ap (λ (q : ℕ). program b q ∷ []) (omega arith)
    grow p (suc n) =
        ap (λ (t : List Action). program b p ∷ t)
        (grow (suc p) n ∙ ap (λ (q : ℕ). pages_from b (suc p) n ++ (program b q ∷ [])) (omega arith))

pub pages_at : (b p n j : ℕ) → j < n → take 1 (drop j (pages_from b p n)) ≡ program b (p + j) ∷ []
pages_at b p zero j h = absurd (not-suc-le-zero h)
pages_at b p (suc n) zero h = ap (λ (q : ℕ). program b q ∷ []) (omega arith)
pages_at b p (suc n) (suc j) h =
    pages_at b (suc p) n j (le_of_suc-le-suc h) ∙ ap (λ (q : ℕ). program b q ∷ []) (omega arith)

-- ---- the actions of a block, by what its mark asks
pub by_asked : (P : List Action → Type 0) (b mark : ℕ)
    → (erases mark ≡ true → programs mark ≡ true → P (erase b ∷ pages_from b 0 16))
    → (erases mark ≡ true → programs mark ≡ false → P (erase b ∷ []))
    → (erases mark ≡ false → programs mark ≡ true → P (pages_from b 0 16))
    → (erases mark ≡ false → programs mark ≡ false → P [])
    → P (block_actions b mark)
unfolding block_actions
by_asked P b mark whole erased programmed none =
    chosen (λ xs. P (xs ++ cond (programs mark) (pages_from b 0 16) [])) (erases mark) (erase b ∷ []) []
    (λ e. chosen (λ xs. P ((erase b ∷ []) ++ xs)) (programs mark) (pages_from b 0 16) [] (whole e) (erased e))
    (λ e. chosen P (programs mark) (pages_from b 0 16) [] (programmed e) (none e))

-- a mark that asks for neither has none
neither : (p q : Bool) → (p || q) ≡ false → (p ≡ false) × (q ≡ false)
neither true q e = (e, absurd (true≢false e))
neither false q e = (refl, e)

pub unmarked_none : (b mark : ℕ) → is_marked mark ≡ false → block_actions b mark ≡ []
unfolding block_actions
unmarked_none b mark m =
    let n = neither (erases mark) (programs mark) m in
    ap (λ (t : Bool). cond t (erase b ∷ []) [] ++ cond (programs mark) (pages_from b 0 16) []) n.0
    ∙ ap (λ (t : Bool). cond t (pages_from b 0 16) []) n.1

-- so 0 has none
pub clear_none : (b mark : ℕ) → mark ≤ 0 → block_actions b mark ≡ []
clear_none b mark h = let z : mark ≡ 0 = omega arith in unmarked_none b mark (ap is_marked z)

-- the erase, and then the pages
pub block_is : (memory : List ℕ) (b mark : ℕ) (flash : List ℕ)
    → perform_all memory (cond (programs mark) (pages_from b 0 16) []) (cond (erases mark) (erase_block b flash) flash)
    ≡ perform_all memory (block_actions b mark) flash
unfolding block_actions
block_is memory b mark flash =
    ap (perform_all memory (cond (programs mark) (pages_from b 0 16) [])) erased
    ∙ sym (perform_append memory (cond (erases mark) (erase b ∷ []) []) (cond (programs mark) (pages_from b 0 16) []) flash)
  where
    erased : cond (erases mark) (erase_block b flash) flash ≡ perform_all memory (cond (erases mark) (erase b ∷ []) []) flash
    erased =
        ⊎_elim
        (λ (t : erases mark ≡ true). rw t (sym (erase_is memory b flash)))
        (λ (t : erases mark ≡ false). rw t (sym (perform_none memory flash)))
        (decided (erases mark))

-- "17 for each dirty block plus 1 for each erased one"
pub count_of : ℕ → ℕ
count_of mark = cond (erases mark) 1 0 + cond (programs mark) 16 0

-- the number of some actions, or of others
either_length : (t : Bool) (xs ys : List Action) → length (cond t xs ys) ≡ cond t (length xs) (length ys)
either_length true xs ys = refl
either_length false xs ys = refl

pub block_count : (b mark : ℕ) → length (block_actions b mark) ≡ count_of mark
unfolding block_actions count_of
block_count b mark =
    length-append (cond (erases mark) (erase b ∷ []) []) (cond (programs mark) (pages_from b 0 16) [])
    ∙ ap (λ (n : ℕ). n + length (cond (programs mark) (pages_from b 0 16) [])) (either_length (erases mark) (erase b ∷ []) [])
    ∙ ap (λ (n : ℕ). cond (erases mark) 1 0 + n) (either_length (programs mark) (pages_from b 0 16) [])

pub block_sum : (b mark : ℕ) → cond (erases mark) 1 0 + cond (programs mark) 16 0 ≡ length (block_actions b mark)
unfolding count_of
block_sum b mark = sym (block_count b mark)

dirty_nth : (b k : ℕ) → k < 17 → take 1 (drop k (erase b ∷ pages_from b 0 16)) ≡ nth_of b k ∷ []
dirty_nth b zero h = refl
dirty_nth b (suc p) h = pages_at b 0 16 p (le_of_suc-le-suc h) ∙ ap (λ (q : ℕ). program b q ∷ []) (omega arith)

erased_nth : (b k : ℕ) → k < 1 → take 1 (drop k (erase b ∷ [])) ≡ nth_of b k ∷ []
erased_nth b zero h = refl
erased_nth b (suc k) h = absurd (omega arith)

-- counted from the action that the mark begins with
from_start : {t : Bool} (mark k : ℕ) → erases mark ≡ t → start_of mark + k ≡ cond t 0 1 + k
from_start mark k e = ap (λ (s : Bool). cond s 0 1 + k) e

pub block_nth : (b mark k : ℕ) → k < length (block_actions b mark) → take 1 (drop k (block_actions b mark)) ≡ nth_of b (start_of mark + k) ∷ []
block_nth b mark k =
    by_asked (λ xs. k < length xs → take 1 (drop k xs) ≡ nth_of b (start_of mark + k) ∷ []) b mark
    (λ e p h. dirty_nth b k h ∙ there (sym (from_start mark k e ∙ front)))
    (λ e p h. erased_nth b k h ∙ there (sym (from_start mark k e ∙ front)))
    (λ e p h. pages_at b 0 16 k h ∙ ap (λ (q : ℕ). program b q ∷ []) front ∙ there (sym (from_start mark k e ∙ behind)))
    (λ e p h. absurd (not-suc-le-zero h))
  where
    there : {m n : ℕ} → m ≡ n → ◌≡◌ {A = List Action} (nth_of b m ∷ []) (nth_of b n ∷ [])
    there q = ap (λ (n : ℕ). nth_of b n ∷ []) q

    front : 0 + k ≡ k
    front = omega arith

    behind : 1 + k ≡ suc k
    behind = omega arith

-- ---- the actions of several marks
-- "17 for each dirty block plus 1 for each erased one"
pub actions_count : (b : ℕ) (marks : List ℕ) → length (actions_from b marks) ≡ 17 * marks_of 1 marks + marks_of 2 marks
unfolding actions_from count_of
actions_count b [] = refl
actions_count b (m ∷ ms) =
    length-append (block_actions b m) (actions_from (suc b) ms)
    ∙ ap (λ (n : ℕ). n + length (actions_from (suc b) ms)) (block_count b m)
    ∙ ap (λ (n : ℕ). count_of m + n) (actions_count (suc b) ms)
    ∙ sum (marks_of 1 ms) (marks_of 2 ms)
  where
    sum : (d e : ℕ) → count_of m + (17 * d + e) ≡ 17 * (cond (eqb m 1) 1 0 + d) + (cond (eqb m 2) 1 0 + e)
    sum d e =
        ⊎_elim
        (λ (t : eqb m 1 ≡ true). let u : eqb m 2 ≡ false = ne_eqb m 2 (λ q. two (eqb-true m 1 t) q) in rw (t, u) (omega arith))
        (λ (t : eqb m 1 ≡ false).
        ⊎_elim (λ (u : eqb m 2 ≡ true). rw (t, u) (omega arith)) (λ (u : eqb m 2 ≡ false). rw (t, u) (omega arith)) (decided (eqb m 2)))
        (decided (eqb m 1))
      where
        two : m ≡ 1 → m ≡ 2 → ⊥
        two p q = omega arith

pub actions_append : (b : ℕ) (xs ys : List ℕ) → actions_from b (xs ++ ys) ≡ actions_from b xs ++ actions_from (b + length xs) ys
unfolding actions_from
actions_append b [] ys = ap (λ (c : ℕ). actions_from c ys) (omega arith)
actions_append b (x ∷ xs) ys =
    ap (λ (t : List Action). block_actions b x ++ t)
    (actions_append (suc b) xs ys ∙ ap (λ (c : ℕ). actions_from (suc b) xs ++ actions_from c ys) (omega arith))
    ∙ sym (append_assoc (block_actions b x) (actions_from (suc b) xs) (actions_from (b + suc (length xs)) ys))

pub flush_count : (marks : List ℕ) → length (flush_actions marks) ≡ 17 * marks_of 1 marks + marks_of 2 marks
unfolding flush_actions
flush_count marks = actions_count 0 marks

pub count_most : (mark : ℕ) → count_of mark ≤ 17
unfolding count_of
count_most mark =
    ⊎_elim
    (λ (t : eqb mark 1 ≡ true). rw t (omega arith))
    (λ (t : eqb mark 1 ≡ false).
    ⊎_elim (λ (u : eqb mark 2 ≡ true). rw (t, u) (omega arith)) (λ (u : eqb mark 2 ≡ false). rw (t, u) (omega arith)) (decided (eqb mark 2)))
    (decided (eqb mark 1))

-- marks that are all 0 have none
none_marked_lem : (b : ℕ) (ms : List ℕ) → marks_sound zero ms ≡ true → actions_from b ms ≡ []
unfolding actions_from
none_marked_lem b [] e = refl
none_marked_lem b (m ∷ ms) e =
    let p = both (leb m 0) (marks_sound zero ms) e in
    let z : m ≤ 0 = leb-true m 0 p.0 in
    ap (λ (xs : List Action). xs ++ actions_from (suc b) ms) (clear_none b m z) ∙ none_marked_lem (suc b) ms p.1

-- marks that are 0 from block n on have at most 17 for each block before it
actions_few : (n b : ℕ) (ms : List ℕ) → marks_sound n ms ≡ true → length (actions_from b ms) ≤ 17 * n
unfolding actions_from
actions_few n b [] e = omega arith
actions_few zero b (m ∷ ms) e = omega (arith, ap length (none_marked_lem b (m ∷ ms) e))
actions_few (suc n) b (m ∷ ms) e =
    rw (length-append, block_count b m) (omega (arith, count_most m, actions_few n (suc b) ms (both (leb m 2) (marks_sound n ms) e).1))

pub flush_unmarked : (ms : List ℕ) → marks_sound zero ms ≡ true → flush_actions ms ≡ []
unfolding flush_actions
flush_unmarked ms e = none_marked_lem 0 ms e

pub flush_uncounted : (ms : List ℕ) → counts_of ms ≡ counts_of [] → flush_actions ms ≡ []
flush_uncounted ms e =
    empty (flush_actions ms) (flush_count ms ∙ ap (λ (n : Counts). 17 * n.dirty + n.erased) e)
  where
    empty : (actions : List Action) → length actions ≡ 0 → actions ≡ []
    empty [] e = refl
    empty (action ∷ actions) e = absurd (omega arith)

-- "at most 1,088": 17 for each block of a window of up to 64
pub flush_few : (n : ℕ) (ms : List ℕ) → marks_sound n ms ≡ true → length (flush_actions ms) ≤ 17 * n
unfolding flush_actions
flush_few n ms e = actions_few n 0 ms e

module _ (marks : List ℕ) (i : ℕ) (h : i < length marks) where
  -- those of the blocks before i, of block i, and of the blocks after it
  pub actions_split : flush_actions marks
      ≡ flush_actions (take i marks) ++ (block_actions i (get_or marks i 0) ++ actions_from (suc i) (drop (suc i) marks))
  unfolding flush_actions actions_from
  actions_split =
      ap (actions_from 0) (split_at marks i 0 h)
      ∙ actions_append 0 (take i marks) (get_or marks i 0 ∷ drop (suc i) marks)
      ∙ ap (λ (c : ℕ). actions_from 0 (take i marks) ++ (block_actions c (get_or marks i 0) ++ actions_from (suc c) (drop (suc i) marks)))
      (ap (λ (n : ℕ). 0 + n) (length-take-le i marks (omega arith)) ∙ none)
    where
      none : 0 + i ≡ i
      none = omega arith

  -- one mark more
  pub actions_more : flush_actions (take (i + 1) marks) ≡ flush_actions (take i marks) ++ block_actions i (get_or marks i 0)
  unfolding flush_actions actions_from
  actions_more =
      ap (λ (n : ℕ). actions_from 0 (take n marks)) (add-one i)
      ∙ ap (actions_from 0) (take-suc marks i 0 h)
      ∙ actions_append 0 (take i marks) (get_or marks i 0 ∷ [])
      ∙ ap (λ (t : List Action). actions_from 0 (take i marks) ++ t) (append-nil (block_actions (0 + length (take i marks)) (get_or marks i 0)))
      ∙ ap (λ (c : ℕ). actions_from 0 (take i marks) ++ block_actions c (get_or marks i 0))
      (ap (λ (n : ℕ). 0 + n) (length-take-le i marks (omega arith)) ∙ none)
    where
      none : 0 + i ≡ i
      none = omega arith

  pub count_more : length (flush_actions (take (i + 1) marks)) ≡ length (flush_actions (take i marks)) + count_of (get_or marks i 0)
  count_more = ap length actions_more ∙ length-append (flush_actions (take i marks)) (block_actions i (get_or marks i 0))
      ∙ ap (λ (n : ℕ). length (flush_actions (take i marks)) + n) (block_count i (get_or marks i 0))

  -- the action at a place within block i
  pub nth_of_lem : (left : ℕ) → left < length (block_actions 0 (get_or marks i 0))
      → (left + length (flush_actions (take i marks)) < length (flush_actions marks))
      × (take 1 (drop (left + length (flush_actions (take i marks))) (flush_actions marks)) ≡ nth_of i (start_of (get_or marks i 0) + left) ∷ [])
  nth_of_lem left k = (within, found)
    where
      A : List Action
      A = flush_actions (take i marks)

      B : List Action
      B = block_actions i (get_or marks i 0)

      R : List Action
      R = actions_from (suc i) (drop (suc i) marks)

      few : left < length B
      few = rw (block_count i (get_or marks i 0), sym (block_count 0 (get_or marks i 0))) k

      lengths : length (flush_actions marks) ≡ length A + (length B + length R)
      lengths = ap length actions_split ∙ length-append A (B ++ R) ∙ ap (λ (n : ℕ). length A + n) (length-append B R)

      within : left + length A < length (flush_actions marks)
      within = omega (arith, few, lengths)

      order : left + length A ≡ length A + left
      order = omega arith

      there : 1 ≤ length (drop left B)
      there = rw length-drop (omega (arith, few))

      found : take 1 (drop (left + length A) (flush_actions marks)) ≡ nth_of i (start_of (get_or marks i 0) + left) ∷ []
      found =
          ap (λ (xs : List Action). take 1 (drop (left + length A) xs)) actions_split
          ∙ ap (λ (n : ℕ). take 1 (drop n (A ++ (B ++ R)))) order
          ∙ ap (take 1) (drop-append-add A (B ++ R) left ∙ drop-append-le left B R (omega (arith, few)))
          ∙ take-append-le 1 (drop left B) R there
          ∙ block_nth i (get_or marks i 0) left few

-- ---- one page more
pub pages_done : (memory flash : List ℕ) (b n : ℕ)
    → program_page b n memory (perform_all memory (pages_from b 0 n) flash) ≡ perform_all memory (pages_from b 0 (n + 1)) flash
unfolding perform
pages_done memory flash b n =
    let page : 0 + n ≡ n = omega arith in
    sym
    (ap (λ (xs : List Action). perform_all memory xs flash) (pages_more b 0 n)
    ∙ perform_append memory (pages_from b 0 n) (program b (0 + n) ∷ []) flash
    ∙ perform_one memory (program b (0 + n)) (perform_all memory (pages_from b 0 n) flash)
    ∙ ap (λ (p : ℕ). perform memory (program b p) (perform_all memory (pages_from b 0 n) flash)) page)

-- ---- for the functions over 64 marks
pub flush_none : flush_actions [] ≡ []
unfolding flush_actions actions_from
flush_none = refl

-- the marks of one block more are flushed
pub flushed_more : (memory flash : List ℕ) (marks : List ℕ) (i : ℕ) → i < length marks
    → perform_all memory (block_actions i (get_or marks i 0)) (perform_all memory (flush_actions (take i marks)) flash)
    ≡ perform_all memory (flush_actions (take (i + 1) marks)) flash
flushed_more memory flash marks i h =
    sym
    (ap (λ (xs : List Action). perform_all memory xs flash) (actions_more marks i h)
    ∙ perform_append memory (flush_actions (take i marks)) (block_actions i (get_or marks i 0)) flash)

pub program_is : (memory : List ℕ) (b p : ℕ) (flash : List ℕ) → perform memory (program b p) flash ≡ program_page b p memory flash
unfolding perform
program_is memory b p flash = refl
