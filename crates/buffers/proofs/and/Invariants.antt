-- `buffers::and`: after i turns the first i of the bytes that both have are ANDed.
use Rattle.std.proofs.Common.{◌≡◌, bit_and}
use Rattle.buffers.proofs.Each.{part_way}
use Rattle.buffers.proofs.and.Given as goal

abbrev pub invariant-loop-i : goal.invariant-loop-i
invariant-loop-i l = l.byte-items ≡ part_way bit_and l.i l.initial.byte-items l.other
