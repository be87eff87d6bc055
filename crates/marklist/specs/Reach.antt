-- How far the pairs of a list reach: what two private functions say of each other. Nothing that the call promises names it.
use Rattle.std.specs.Prelude.{ℕ, zero, suc, ◌+◌, max, List, [], ◌∷◌, get_or, set, replicate}
use Rattle.marklist.specs.MarkList.{Pair}

-- for each block the farthest end of the pairs that begin there, from those of the pairs before
abbrev pub ends_from : List Pair → List ℕ → List ℕ
ends_from [] ends = ends
ends_from (pair ∷ pairs) ends = ends_from pairs (set ends pair.block (max (get_or ends pair.block 0) (pair.block + pair.count)))

-- those of no pairs
unfoldable pub no_ends : List ℕ
no_ends = replicate 65 0

-- the farthest of the first so many
abbrev pub farthest : ℕ → List ℕ → ℕ
farthest zero ends = 0
farthest (suc n) ends = max (farthest n ends) (get_or ends n 0)
