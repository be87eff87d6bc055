-- `vectors::count`: no more were counted than there were.
use Rattle.std.proofs.Common.{◌≤◌}
use Rattle.vectors.proofs.count.Given as goal

abbrev pub invariant-loop-byte : goal.invariant-loop-byte
invariant-loop-byte l = l.count ≤ l.byte-index
