-- A flush that is cut after j of its actions: document 01, "Demand 3 is a single claim about lists".
use Rattle.std.specs.Prelude.{ℕ, Bool, true, false, cond, List, [], ◌∷◌, eqb, take, drop}
use Rattle.buffers.specs.Ranges.{range}
use Rattle.units.specs.Units.{block_bytes, to_bytes}
use Rattle.flush.specs.Actions.{Action, erase, program, perform_all}

-- the block that an action works on
abbrev pub block_of : Action → ℕ
block_of (erase b) = b
block_of (program b p) = b

-- the actions of one block among a list
abbrev pub own : ℕ → List Action → List Action
own b [] = []
own b (action ∷ actions) = cond (eqb (block_of action) b) (action ∷ own b actions) (own b actions)

-- a list without actions
abbrev pub none : List Action → Bool
none [] = true
none (action ∷ actions) = false

-- how far a marked block is
pub data Progress : Type 0 where
  passed under_work ahead : Progress

-- "passed if it has no action after the first j, under work if action j + 1 is its own, otherwise ahead"
abbrev pub progress : ℕ → ℕ → List Action → Progress
progress b j actions =
    cond (none (own b (drop j actions))) passed (cond (none (own b (take 1 (drop j actions)))) ahead under_work)

-- the bytes of block b
abbrev pub block_at : ℕ → List ℕ → List ℕ
block_at b part = range (to_bytes b) block_bytes part

-- what block b holds after a list of actions: "what its actions .. make of its old bytes"
abbrev pub leaves : List ℕ → ℕ → List Action → List ℕ → List ℕ
leaves memory b actions old = block_at b (perform_all memory (own b actions) old)
