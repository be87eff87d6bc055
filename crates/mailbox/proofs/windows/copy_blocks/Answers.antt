-- `mailbox::windows::copy_blocks`: only the front of the window memory is lent on.
use Rattle.std.proofs.Common.{ap, ◌∙◌, arith}
use Rattle.units.specs.Units.{to_bytes}
use Rattle.mailbox.proofs.Front.{copied_front}
use Rattle.mailbox.proofs.windows.copy_blocks.Goals as goal

pub returns : goal.returns
returns c =
    let a = c.args in
    let start = c.bytes-start in
    let bytes = c.bytes-bytes in
    copied_front a.flash.now a.memory.now c.copy.new.part start.result.0 bytes.result.0 a.first a.size (start.ensures ∙ ap to_bytes c.from.ensures) (bytes.ensures ∙ ap to_bytes c.from-2.ensures) (omega arith) (omega arith) c.copy.ensures
