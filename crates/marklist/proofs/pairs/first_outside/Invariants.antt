-- The answer for the whole list is that for the pairs that are left, from this place on.
use Rattle.std.proofs.Common.{◌≡◌, ◌+◌, ◌*◌, ◌≤◌, length}
use Rattle.marklist.specs.MarkList.{pairs_of, first_outside}
use Rattle.marklist.proofs.pairs.first_outside.Given as goal

abbrev pub invariant-loop-place : goal.invariant-loop-place
invariant-loop-place l =
    let left = l.place-iterator.iter in
    (left.size ≡ 2)
    × (2 * l.place-iterator.count + length left.rest.now ≤ 128)
    × (first_outside l.size l.place-iterator.count (pairs_of left.rest.now) ≡ first_outside l.size 0 (pairs_of l.list))
