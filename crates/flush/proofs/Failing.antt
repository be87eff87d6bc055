-- A flush on a chip with worn blocks: what is done before the first failure, by the actions and by the marks, and what is left to do.
use mathlib.Core.Path.{◌≡◌, refl, sym, ap, ◌∙◌}
use mathlib.Core.Bool.{Bool, true, false, ◌&&◌, ◌||◌, true≢false}
use mathlib.Core.List.{List, [], ◌∷◌, ◌++◌, append-nil}
use mathlib.Core.Logic.{⊎_elim}
use Prim.Native.Nat.{ℕ, zero, suc, ◌+◌, ◌-◌, ◌≤◌, ◌<◌}
use native.Mathlib.Omega.{arith}
use lib.Dec.{ltb}
use lib.ListN.{length, get_or, take, drop, replicate, length-replicate, drop_of_length-le, take-append-drop}
use lib.Seq.{length-take-le, drop-cons}
use Rattle.std.proofs.lemmas.Bool.Decides.{nat_tests}
use borrow.Author.Tests.{lt-ltb, ltb-false}
use Rattle.std.specs.Prelude.{cond, None, Some, is_some}
use Rattle.session.specs.Record.{clean}
use Rattle.flush.specs.Window.{left_marks}
use Rattle.units.proofs.Cases.{decided, both}
use Rattle.buffers.specs.Ranges.{replace}
use Rattle.session.specs.Marks.{erases}
use Rattle.flush.specs.Actions.{Action, erase, pages_from, block_actions, actions_from, flush_actions}
use Rattle.flush.specs.Worn.{is_worn, fails, until_failure, some_fail, finished_from, finished_blocks, failing_block, finished_by, marks_kept}
use Rattle.flush.proofs.Lists.{by_asked, clear_none, actions_append}

-- one more on both sides
pub less_suc : (a b : ℕ) → ltb (suc a) (suc b) ≡ ltb a b
less_suc a b = grind (arith, nat_tests)

-- ---- lists of actions
module _ (worn : List ℕ) where
  -- of no action none fails
  pub some_none : some_fail worn [] ≡ false
  unfolding some_fail
  some_none = refl

  -- where none fails all are done
  pub until_all : (xs : List Action) → some_fail worn xs ≡ false → until_failure worn xs ≡ xs
  unfolding until_failure some_fail
  until_all [] e = refl
  until_all (x ∷ xs) e =
      ⊎_elim
      (λ (t : fails worn x ≡ true). absurd (true≢false (sym (ap (λ (u : Bool). u || some_fail worn xs) t) ∙ e)))
      (λ (t : fails worn x ≡ false). rw t (ap (λ (ys : List Action). x ∷ ys) (until_all xs (sym (ap (λ (u : Bool). u || some_fail worn xs) t) ∙ e))))
      (decided (fails worn x))

  -- those done are the first so many
  pub until_first : (xs : List Action) → until_failure worn xs ≡ take (length (until_failure worn xs)) xs
  unfolding until_failure
  until_first [] = refl
  until_first (x ∷ xs) =
      ⊎_elim
      (λ (t : fails worn x ≡ true). rw t refl)
      (λ (t : fails worn x ≡ false). rw t (ap (λ (ys : List Action). x ∷ ys) (until_first xs)))
      (decided (fails worn x))

  -- and fewer than all exactly where one fails
  pub until_few : (xs : List Action) → some_fail worn xs ≡ ltb (length (until_failure worn xs)) (length xs)
  unfolding until_failure some_fail
  until_few [] = refl
  until_few (x ∷ xs) =
      ⊎_elim
      (λ (t : fails worn x ≡ true). rw t (sym (lt-ltb 0 (suc (length xs)) (omega arith))))
      (λ (t : fails worn x ≡ false). rw t (until_few xs ∙ sym (less_suc (length (until_failure worn xs)) (length xs))))
      (decided (fails worn x))

  -- one list after another
  some_append : (xs ys : List Action) → some_fail worn (xs ++ ys) ≡ (some_fail worn xs || some_fail worn ys)
  unfolding some_fail
  some_append [] ys = refl
  some_append (x ∷ xs) ys =
      ⊎_elim
      (λ (t : fails worn x ≡ true). rw t refl)
      (λ (t : fails worn x ≡ false). rw t (some_append xs ys))
      (decided (fails worn x))

  until_append : (xs ys : List Action) → some_fail worn xs ≡ false → until_failure worn (xs ++ ys) ≡ xs ++ until_failure worn ys
  unfolding until_failure some_fail
  until_append [] ys e = refl
  until_append (x ∷ xs) ys e =
      ⊎_elim
      (λ (t : fails worn x ≡ true). absurd (true≢false (sym (ap (λ (u : Bool). u || some_fail worn xs) t) ∙ e)))
      (λ (t : fails worn x ≡ false).
      rw t (ap (λ (zs : List Action). x ∷ zs) (until_append xs ys (sym (ap (λ (u : Bool). u || some_fail worn xs) t) ∙ e))))
      (decided (fails worn x))

  -- ---- a block: it fails where its erase does, before anything is done
  pages_pass : (b p n : ℕ) → some_fail worn (pages_from b p n) ≡ false
  unfolding some_fail
  pages_pass b p zero = refl
  pages_pass b p (suc n) = pages_pass b (suc p) n

  first_fails : (b : ℕ) (xs : List Action) → some_fail worn xs ≡ false → some_fail worn (erase b ∷ xs) ≡ is_worn worn b
  unfolding some_fail
  first_fails b xs e =
      ⊎_elim
      (λ (t : is_worn worn b ≡ true). rw t refl)
      (λ (t : is_worn worn b ≡ false). rw t e)
      (decided (is_worn worn b))

  block_fails : (b mark : ℕ) → some_fail worn (block_actions b mark) ≡ (erases mark && is_worn worn b)
  block_fails b mark =
      by_asked (λ xs. some_fail worn xs ≡ (erases mark && is_worn worn b)) b mark
      (λ e p. rw e (first_fails b (pages_from b 0 16) (pages_pass b 0 16)))
      (λ e p. rw e (first_fails b [] some_none))
      (λ e p. rw e (pages_pass b 0 16))
      (λ e p. rw e some_none)

  stops : (b : ℕ) (xs ys : List Action) → is_worn worn b ≡ true → until_failure worn ((erase b ∷ xs) ++ ys) ≡ []
  unfolding until_failure
  stops b xs ys t = rw t refl

  block_stops : (b mark : ℕ) (ys : List Action) → erases mark ≡ true → is_worn worn b ≡ true → until_failure worn (block_actions b mark ++ ys) ≡ []
  block_stops b mark ys h t =
      by_asked (λ xs. until_failure worn (xs ++ ys) ≡ []) b mark
      (λ e p. stops b (pages_from b 0 16) ys t)
      (λ e p. stops b [] ys t)
      (λ e p. absurd (true≢false (sym h ∙ e)))
      (λ e p. absurd (true≢false (sym h ∙ e)))

  -- ---- marks
  pub finished_few : (b : ℕ) (marks : List ℕ) → finished_from worn b marks ≤ length marks
  unfolding finished_from
  finished_few b [] = omega arith
  finished_few b (mark ∷ marks) =
      ⊎_elim
      (λ (t : (erases mark && is_worn worn b) ≡ true). rw t (omega arith))
      (λ (t : (erases mark && is_worn worn b) ≡ false). rw t (omega (arith, finished_few (suc b) marks)))
      (decided (erases mark && is_worn worn b))

  -- counted block by block
  pub finished_start : (marks : List ℕ) → finished_blocks worn marks ≡ 0 + finished_from worn 0 marks
  unfolding finished_blocks
  finished_start marks = omega arith

  module _ (marks : List ℕ) (i : ℕ) where
    pub finished_none : length marks ≤ i → finished_from worn i (drop i marks) ≡ 0
    unfolding finished_from
    finished_none h = ap (finished_from worn i) (drop_of_length-le marks h)

    pub finished_here : i < length marks → (erases (get_or marks i 0) && is_worn worn i) ≡ true → finished_from worn i (drop i marks) ≡ 0
    unfolding finished_from
    finished_here h t = ap (finished_from worn i) (drop-cons marks i 0 h) ∙ rw t refl

    pub finished_past : i < length marks → (erases (get_or marks i 0) && is_worn worn i) ≡ false
        → finished_from worn i (drop i marks) ≡ suc (finished_from worn (suc i) (drop (suc i) marks))
    unfolding finished_from
    finished_past h t = ap (finished_from worn i) (drop-cons marks i 0 h) ∙ rw t refl

  -- the actions before the first failure are those of the blocks that are finished
  until_from : (b : ℕ) (marks : List ℕ) → until_failure worn (actions_from b marks) ≡ actions_from b (take (finished_from worn b marks) marks)
  unfolding actions_from finished_from
  until_from b [] = until_all [] some_none
  until_from b (mark ∷ marks) =
      ⊎_elim
      (λ (t : (erases mark && is_worn worn b) ≡ true).
      let h = both (erases mark) (is_worn worn b) t in
      rw t (block_stops b mark (actions_from (suc b) marks) h.0 h.1))
      (λ (t : (erases mark && is_worn worn b) ≡ false).
      rw t
      (until_append (block_actions b mark) (actions_from (suc b) marks) (block_fails b mark ∙ t)
      ∙ ap (λ (xs : List Action). block_actions b mark ++ xs) (until_from (suc b) marks)))
      (decided (erases mark && is_worn worn b))

  -- and one fails exactly where not all blocks are
  some_from : (b : ℕ) (marks : List ℕ) → some_fail worn (actions_from b marks) ≡ ltb (finished_from worn b marks) (length marks)
  unfolding actions_from finished_from
  some_from b [] = some_none
  some_from b (mark ∷ marks) =
      ⊎_elim
      (λ (t : (erases mark && is_worn worn b) ≡ true).
      rw t
      (some_append (block_actions b mark) (actions_from (suc b) marks)
      ∙ ap (λ (u : Bool). u || some_fail worn (actions_from (suc b) marks)) (block_fails b mark ∙ t)
      ∙ sym (lt-ltb 0 (suc (length marks)) (omega arith))))
      (λ (t : (erases mark && is_worn worn b) ≡ false).
      rw t
      (some_append (block_actions b mark) (actions_from (suc b) marks)
      ∙ ap (λ (u : Bool). u || some_fail worn (actions_from (suc b) marks)) (block_fails b mark ∙ t)
      ∙ some_from (suc b) marks
      ∙ sym (less_suc (finished_from worn (suc b) marks) (length marks))))
      (decided (erases mark && is_worn worn b))

  -- no worn block that is to be erased
  good_from : (b : ℕ) (marks : List ℕ) → ((c : ℕ) → erases (get_or marks c 0) ≡ true → is_worn worn (b + c) ≡ false)
      → some_fail worn (actions_from b marks) ≡ false
  unfolding actions_from
  good_from b [] good = some_none
  good_from b (mark ∷ marks) good =
      some_append (block_actions b mark) (actions_from (suc b) marks)
      ∙ ap (λ (u : Bool). u || some_fail worn (actions_from (suc b) marks)) (block_fails b mark ∙ here)
      ∙ good_from (suc b) marks (λ c e. ap (λ (n : ℕ). is_worn worn n) (omega arith) ∙ good (suc c) e)
    where
      place : b + 0 ≡ b
      place = omega arith

      here : (erases mark && is_worn worn b) ≡ false
      here =
          ⊎_elim
          (λ (t : erases mark ≡ true). rw t (ap (λ (n : ℕ). is_worn worn n) (sym place) ∙ good 0 t))
          (λ (t : erases mark ≡ false). rw t refl)
          (decided (erases mark))

-- marks of 0 ask for nothing
zeros_none : (b n : ℕ) (marks : List ℕ) → actions_from b (replicate n 0 ++ marks) ≡ actions_from (b + n) marks
unfolding actions_from
zeros_none b zero marks = ap (λ (c : ℕ). actions_from c marks) (omega arith)
zeros_none b (suc n) marks =
    ap (λ (xs : List Action). xs ++ actions_from (suc b) (replicate n 0 ++ marks)) (clear_none b 0 (omega arith))
    ∙ zeros_none (suc b) n marks
    ∙ ap (λ (c : ℕ). actions_from c marks) (omega arith)

-- ---- of a flush
module _ (worn marks : List ℕ) where
  pub finished_most : finished_blocks worn marks ≤ length marks
  unfolding finished_blocks
  finished_most = finished_few worn 0 marks

  pub until_finished : until_failure worn (flush_actions marks) ≡ flush_actions (take (finished_blocks worn marks) marks)
  unfolding flush_actions finished_blocks
  until_finished = until_from worn 0 marks

  pub some_unfinished : some_fail worn (flush_actions marks) ≡ ltb (finished_blocks worn marks) (length marks)
  unfolding flush_actions finished_blocks
  some_unfinished = some_from worn 0 marks

  -- where no block that is to be erased is worn none fails
  pub none_worn_lem : ((b : ℕ) → erases (get_or marks b 0) ≡ true → is_worn worn b ≡ false) → some_fail worn (flush_actions marks) ≡ false
  unfolding flush_actions
  none_worn_lem good = good_from worn 0 marks (λ b e. ap (λ (n : ℕ). is_worn worn n) (omega arith) ∙ good b e)

-- ---- the block that fails, as the code has it
module _ (part marks : List ℕ) (long : length marks ≡ 64) where
  pub before_failing : finished_by (failing_block part marks) ≡ finished_blocks part marks
  before_failing =
      ⊎_elim
      (λ (t : ltb (finished_blocks part marks) 64 ≡ true). rw t refl)
      (λ (t : ltb (finished_blocks part marks) 64 ≡ false).
      rw t (let most = finished_most part marks in let past = ltb-false (finished_blocks part marks) 64 t in omega arith))
      (decided (ltb (finished_blocks part marks) 64))

  pub failing_some : is_some (failing_block part marks) ≡ some_fail part (flush_actions marks)
  failing_some = both_ways (ltb (finished_blocks part marks) 64) ∙ ap (ltb (finished_blocks part marks)) (sym long) ∙ sym (some_unfinished part marks)
    where
      both_ways : (t : Bool) → is_some (cond t (Some (finished_blocks part marks)) None) ≡ t
      both_ways true = refl
      both_ways false = refl

  pub left_as : left_marks (failing_block part marks) marks ≡ cond (is_some (failing_block part marks)) (marks_kept part marks) clean
  left_as =
      ⊎_elim
      (λ (t : ltb (finished_blocks part marks) 64 ≡ true). rw (t, t) refl)
      (λ (t : ltb (finished_blocks part marks) 64 ≡ false). rw t refl)
      (decided (ltb (finished_blocks part marks) 64))

-- the actions of the blocks before a place, and of those from there on
pub split_flush : (n : ℕ) (marks : List ℕ) → n ≤ length marks
    → flush_actions marks ≡ flush_actions (take n marks) ++ flush_actions (replicate n 0 ++ drop n marks)
unfolding flush_actions
split_flush n marks h =
    ap (actions_from 0) (sym (take-append-drop n marks))
    ∙ actions_append 0 (take n marks) (drop n marks)
    ∙ ap (λ (c : ℕ). actions_from 0 (take n marks) ++ actions_from c (drop n marks)) (ap (λ (k : ℕ). 0 + k) (length-take-le n marks h))
    ∙ ap (λ (xs : List Action). actions_from 0 (take n marks) ++ xs) (sym (zeros_none 0 n (drop n marks)))

-- what is done, and what the marks that are kept ask for, is all
pub done_and_kept : (worn marks : List ℕ) → flush_actions marks ≡ until_failure worn (flush_actions marks) ++ flush_actions (marks_kept worn marks)
done_and_kept worn marks =
    split_flush (finished_blocks worn marks) marks (finished_most worn marks)
    ∙ ap (λ (xs : List Action). xs ++ flush_actions (marks_kept worn marks)) (sym (until_finished worn marks))

-- the marks of the blocks from a place on cleared: the actions of those before it
zeros_clear : (b n : ℕ) → actions_from b (replicate n 0) ≡ []
unfolding actions_from
zeros_clear b zero = refl
zeros_clear b (suc n) = ap (λ (xs : List Action). xs ++ actions_from (suc b) (replicate n 0)) (clear_none b 0 (omega arith)) ∙ zeros_clear (suc b) n

pub cleared_behind : (n : ℕ) (marks : List ℕ) → n ≤ length marks
    → flush_actions (replace n (replicate (length marks - n) 0) marks) ≡ flush_actions (take n marks)
unfolding flush_actions
cleared_behind n marks h =
    ap (λ (xs : List ℕ). actions_from 0 (take n marks ++ (replicate (length marks - n) 0 ++ xs))) (drop_of_length-le marks past)
    ∙ ap (λ (xs : List ℕ). actions_from 0 (take n marks ++ xs)) (append-nil (replicate (length marks - n) 0))
    ∙ actions_append 0 (take n marks) (replicate (length marks - n) 0)
    ∙ ap (λ (xs : List Action). actions_from 0 (take n marks) ++ xs) (zeros_clear (0 + length (take n marks)) (length marks - n))
    ∙ append-nil (actions_from 0 (take n marks))
  where
    past : length marks ≤ n + length {A = ℕ} (replicate (length marks - n) 0)
    past = rw (length-replicate {0} {A = ℕ} (length marks - n) 0) (omega arith)
