use Rattle.std.proofs.Common.{◌≡◌, ◌∙◌, ℕ, ◌+◌, ◌-◌, ap, arith}
use Rattle.buffers.specs.Ranges.{range}
use Rattle.units.specs.Units.{block_bytes, to_bytes}
use Rattle.transcript.specs.Text.{other_than_ff}
use Rattle.transcript.specs.Printing.{decimal}
use Rattle.transcript.proofs.Written.{joined, puts_as}
use Rattle.transcript.proofs.printing.Printed.put_count.Goals as goal

pub returns-clause-puts : goal.returns-clause-puts
returns-clause-puts c =
    let flash = c.args.flash.now in
    let from = c.bytes-start.result.0 in
    let size : from + 4096 - from ≡ 4096 = omega arith in
    let same : c.count_written.result ≡ other_than_ff (range (to_bytes c.args.block.0) block_bytes flash) =
    c.count_written.ensures
    ∙ ap (λ (k : ℕ). other_than_ff (range from k flash)) size
    ∙ ap (λ (at : ℕ). other_than_ff (range at block_bytes flash)) c.bytes-start.ensures in
    joined c.put.ensures (puts_as (ap decimal same) c.put_decimal.ensures.puts)
