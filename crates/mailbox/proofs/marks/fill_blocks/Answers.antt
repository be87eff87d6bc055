-- `mailbox::marks::fill_blocks`: only the named blocks' bytes are lent on.
use Rattle.std.proofs.Common.{ℕ, ◌+◌, refl, ap, ◌∙◌, arith}
use Rattle.units.specs.Units.{to_bytes}
use Rattle.chip.specs.Actions.{erased}
use Rattle.chip.proofs.Lent.{erased_part}
use Rattle.mailbox.proofs.marks.fill_blocks.Goals as goal

pub returns : goal.returns
returns c =
    let a = c.args in
    let from = c.bytes-start.result.0 in
    let size = c.bytes.result.0 in
    erased_part from (from + size) size a.memory.now c.fill.new.part refl (omega (arith, c.requires)) c.fill.ensures
    ∙ ap (λ (t : ℕ). erased t size a.memory.now) c.bytes-start.ensures
    ∙ ap (λ (t : ℕ). erased (to_bytes a.named.start) t a.memory.now) c.bytes.ensures
