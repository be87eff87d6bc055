-- `buffers::copy`: after i turns the first i of the bytes that both have are copied.
use Rattle.std.proofs.Common.{◌≡◌}
use Rattle.buffers.proofs.Each.{part_way, second}
use Rattle.buffers.proofs.copy.Given as goal

abbrev pub invariant-loop-i : goal.invariant-loop-i
invariant-loop-i l = l.byte-items ≡ part_way second l.i l.initial.byte-items l.other
