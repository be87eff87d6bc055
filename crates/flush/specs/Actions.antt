-- The chip actions of a flush: document 01, "Chip actions". Blocks are counted within the window.
use Rattle.std.specs.Prelude.{ℕ, zero, suc, cond, List, [], ◌∷◌, ◌++◌}
use Rattle.session.specs.Marks.{erases, programs}
use Rattle.chip.specs.Actions.{block_pages, erase_block, program_page}

-- the erase of a block, and the programming of a page of a block
pub data Action : Type 0 where
  erase : ℕ → Action
  program : ℕ → ℕ → Action

-- so many pages of block b in rising order, from page p on
abbrev pub pages_from : ℕ → ℕ → ℕ → List Action
pages_from b p zero = []
pages_from b p (suc n) = program b p ∷ pages_from b (suc p) n

-- "A dirty block needs one erase and then 16 page actions in rising order; an erased block needs the erase only": what its mark asks
unfoldable pub block_actions : ℕ → ℕ → List Action
block_actions b mark = cond (erases mark) (erase b ∷ []) [] ++ cond (programs mark) (pages_from b 0 block_pages) []

-- "A flush takes the marked window blocks in rising order": the actions of these marks, the first of which is block b's
unfoldable pub actions_from : ℕ → List ℕ → List Action
actions_from b [] = []
actions_from b (mark ∷ marks) = block_actions b mark ++ actions_from (suc b) marks

-- the list of chip actions of a set of marks
unfoldable pub flush_actions : List ℕ → List Action
flush_actions marks = actions_from 0 marks

-- what an action makes of the flash under the window
unfoldable pub perform : List ℕ → Action → List ℕ → List ℕ
perform memory (erase b) flash = erase_block b flash
perform memory (program b p) flash = program_page b p memory flash

-- what a list of actions makes of it
unfoldable pub perform_all : List ℕ → List Action → List ℕ → List ℕ
perform_all memory [] flash = flash
perform_all memory (action ∷ actions) flash = perform_all memory actions (perform memory action flash)
