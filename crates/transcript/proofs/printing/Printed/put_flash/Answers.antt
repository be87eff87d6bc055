use Rattle.std.proofs.Common.{arith}
use Rattle.transcript.proofs.FlashLine.{counts_more, counts_none, flash_line_lem}
use Rattle.transcript.proofs.Written.{joined, puts_as, left_put, left_as, left_none}
use Rattle.transcript.proofs.printing.Printed.put_flash.Goals as goal

pub loop-block-preserved : goal.loop-block-preserved
loop-block-preserved c =
    let l = c.loop-block in (
      omega (arith, l.invariant.0, c.put_count.ensures.bound),
      left_put (left_as (counts_more l.block c.args.flash.now c.loop-block-test.true) l.invariant.1) c.put_count.ensures.puts,
    )

pub returns : goal.returns
returns c =
    let l = c.loop-block in
    let flash = c.args.flash.now in
    record {
      puts = puts_as (flash_line_lem flash) (joined c.put.ensures
          (left_none (left_put (left_as (counts_none l.block flash c.loop-block-test.false) l.invariant.1) c.put-2.ensures)));
      bound = omega (arith, c.put.ensures.end, c.put-2.ensures.end, l.invariant.0, c.loop-block.auto);
    }
