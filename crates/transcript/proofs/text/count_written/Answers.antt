-- `transcript::text::count_written`: one byte more, and the last.
use Rattle.std.proofs.Common.{arith}
use Rattle.transcript.proofs.Others.{others_turn, others_none}
use Rattle.transcript.proofs.text.count_written.Goals as goal

pub loop-byte-preserved : goal.loop-byte-preserved
loop-byte-preserved c =
    let turn = others_turn c.args.part.now c.loop-byte.byte-index c.from-count.result c.loop-byte-test.true c.from-count.ensures in
    omega (arith, turn.0, turn.1, c.loop-byte.invariant.0, c.loop-byte.invariant.1)

pub returns : goal.returns
returns c = omega (arith, others_none c.args.part.now c.loop-byte.byte-index (omega arith), c.loop-byte.invariant.1)
