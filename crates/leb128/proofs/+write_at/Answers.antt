use Rattle.std.proofs.Common.{◌∙◌, ℕ, ◌%◌, ◌+◌, List, sym, ap, arith}
use Rattle.std.proofs.Math.ListN.{set}
use Rattle.leb128.proofs.Encode.{write_large, write_unfit}
use Rattle.leb128.proofs.+write_at.Goals as goal

pub returns-in_err-next : goal.returns-in_err-next
returns-in_err-next t c =
    let a = c.args in
    let w = write_unfit a.bytes.now a.at a.value (omega arith) (sym c.in_err-next.ensures.answer) in
    record { answer = c.from_residual.ensures ∙ sym w.0; bytes = c.in_err-next.ensures.bytes ∙ w.2 ∙ sym w.1 }

pub returns : goal.returns
returns t c =
    let a = c.args in
    let w = write_large a.bytes.now a.at a.value c.if-bytes-at.false (omega arith) (sym c.in_ok-next.ensures.answer) in
    record { answer = sym w.0; bytes = ap (λ (xs : List ℕ). set xs a.at (a.value % 128 + 128)) c.in_ok-next.ensures.bytes ∙ sym w.1 }
