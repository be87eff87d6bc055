use Rattle.std.proofs.Common.{◌≡◌, ◌∙◌, take, sym, arith}
use Rattle.transcript.specs.Printing.{decimal}
use Rattle.transcript.proofs.Decimal.{decimal_digits, few_digits}
use Rattle.transcript.proofs.Written.{puts_as}
use Rattle.transcript.proofs.printing.Printed.put_decimal.Goals as goal

pub returns : goal.returns
returns c =
    let n = c.args.n in
    let d = c.decimal-count in
    let same : take d.result d.new.out ≡ decimal n = d.ensures.digits ∙ decimal_digits d.result n d.ensures.len in
    record {
      puts = puts_as same c.put.ensures;
      bound = omega (arith, c.put.ensures.end, sym d.ensures.in_bounds.1, few_digits 19 d.result n d.ensures.len (omega arith));
    }
