-- `chip::program_page`: the page's own bytes are all that is lent on.
use Rattle.std.proofs.Common.{arith}
use Rattle.chip.proofs.Lent.{page_done}
use Rattle.chip.proofs.program_page.Goals as goal

pub returns : goal.returns
returns c =
    let a = c.args in
    let start = c.bytes-start in
    page_done a.block.0 start.result.0 a.flash.now start.ensures a.page a.window.now c.and.new.part
    (omega arith) (omega arith) (omega arith) c.and.ensures
