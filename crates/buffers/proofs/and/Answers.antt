-- `buffers::and`: one turn more, and the last.
use Rattle.std.proofs.Common.{bit_and, arith}
use lib.Seq.{length-take-le}
use Rattle.buffers.proofs.Each.{each_turn, each_back}
use Rattle.buffers.proofs.and.Goals as goal

pub loop-i-preserved : goal.loop-i-preserved
loop-i-preserved c =
    let n = c.min-end.result in
    let xs = c.args.part.now in
    let long = length-take-le n xs (omega arith) in
    each_turn bit_and n c.loop-i.i xs c.args.other.now c.loop-i.byte-items c.min-end.ensures (omega arith) c.loop-i.invariant

pub returns : goal.returns
returns c =
    let n = c.min-end.result in
    let xs = c.args.part.now in
    let long = length-take-le n xs (omega arith) in
    each_back bit_and n c.loop-i.i xs c.args.other.now c.loop-i.byte-items c.min-end.ensures (omega arith) c.loop-i.invariant
