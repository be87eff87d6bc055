-- What is left of the pairs, on the ends so far, gives what the whole list gives.
use Rattle.std.proofs.Common.{◌≡◌, ℕ, length}
use Rattle.marklist.specs.MarkList.{Marked, pairs_of, first_outside}
use Rattle.marklist.specs.Reach.{ends_from, no_ends}
use Rattle.marklist.proofs.pairs.farthest_ends.Given as goal

abbrev pub invariant-loop-pair : goal.invariant-loop-pair
invariant-loop-pair l =
    (l.pair-iterator.size ≡ 2)
    × (length l.ends ≡ 65)
    × (ends_from (pairs_of l.pair-iterator.rest.now) l.ends ≡ ends_from (pairs_of l.list) no_ends)
    × ((place : ℕ) × (first_outside 64 place (pairs_of l.pair-iterator.rest.now) ≡ Marked))
