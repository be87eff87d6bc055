-- `chip::erase_block`: the block's own bytes are all that is lent on.
use Rattle.std.proofs.Common.{arith}
use Rattle.chip.proofs.Lent.{erase_done}
use Rattle.chip.proofs.erase_block.Goals as goal

pub returns : goal.returns
returns c =
    let start = c.bytes-start in
    erase_done c.args.block.0 start.result.0 c.args.flash.now start.ensures c.fill.new.part (omega arith) c.fill.ensures
