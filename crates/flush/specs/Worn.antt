-- Worn blocks: document 02, Ticket 8. `part` is the window's part of the map that is lent, so that blocks are counted within the window. Past its end a block counts
-- as good, which a sound session never asks: only blocks of the window are marked.
use Rattle.std.specs.Prelude.{ℕ, suc, Option, None, Some, ltb, Bool, false, cond, not, ◌&&◌, ◌||◌, List, [], ◌∷◌, ◌++◌, eqb, get_or, drop, replicate}
use Rattle.session.specs.Marks.{erases}
use Rattle.flush.specs.Actions.{Action, erase, program}

-- "a map of worn blocks, one byte a block, 0 good"
abbrev pub is_worn : List ℕ → ℕ → Bool
is_worn part b = not (eqb (get_or part b 0) 0)

-- "An erase of a worn block fails ..; page actions never fail"
abbrev pub fails : List ℕ → Action → Bool
fails part (erase b) = is_worn part b
fails part (program b p) = false

-- "A flush stops at the first failure": the actions before it, which are all where none fails
unfoldable pub until_failure : List ℕ → List Action → List Action
until_failure part [] = []
until_failure part (action ∷ actions) = cond (fails part action) [] (action ∷ until_failure part actions)

-- one of the actions fails
unfoldable pub some_fail : List ℕ → List Action → Bool
some_fail part [] = false
some_fail part (action ∷ actions) = fails part action || some_fail part actions

-- how many blocks of these marks, the first of which is block b, come before the first whose erase fails; all of them where none does
unfoldable pub finished_from : List ℕ → ℕ → List ℕ → ℕ
finished_from part b [] = 0
finished_from part b (mark ∷ marks) = cond (erases mark && is_worn part b) 0 (suc (finished_from part (suc b) marks))

unfoldable pub finished_blocks : List ℕ → List ℕ → ℕ
finished_blocks part marks = finished_from part 0 marks

-- the block that fails, if one does, as the code has it
abbrev pub failing_block : List ℕ → List ℕ → Option ℕ
failing_block part marks = cond (ltb (finished_blocks part marks) 64) (Some (finished_blocks part marks)) None

-- and how many of the 64 blocks come before it
abbrev pub finished_by : Option ℕ → ℕ
finished_by None = 64
finished_by (Some block) = block

-- "Finished blocks become clean; the failing one and those behind it keep their marks": the marks where so many blocks are finished
abbrev pub marks_behind : ℕ → List ℕ → List ℕ
marks_behind finished marks = replicate finished 0 ++ drop finished marks

abbrev pub marks_kept : List ℕ → List ℕ → List ℕ
marks_kept part marks = marks_behind (finished_blocks part marks) marks
