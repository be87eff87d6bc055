-- Where an action stands in a flush, for the contracts of the private functions.
use Rattle.std.specs.Prelude.{ℕ, zero, suc, ◌≤◌, ◌<◌, cond, Option, None, Some, List, [], ◌∷◌, ◌≡◌, length, take, drop}
use Rattle.session.specs.Marks.{erases}
use Rattle.flush.specs.declared.marked.Place.{Place}
use Rattle.flush.specs.Actions.{Action, erase, program}

-- which action of a block that is erased and then programmed a mark begins with, and the nth of them
abbrev pub start_of : ℕ → ℕ
start_of mark = cond (erases mark) 0 1

abbrev pub nth_of : ℕ → ℕ → Action
nth_of b zero = erase b
nth_of b (suc p) = program b p

-- the action after the first so many of a list is the nth of block b, or there is none
abbrev pub Located : List Action → ℕ → Option Place → Type 0
Located actions done (Some p) = (done < length actions) × (take 1 (drop done actions) ≡ nth_of p.block p.nth ∷ [])
Located actions done None = length actions ≤ done
