use Rattle.std.proofs.Common.{◌≡◌, ◌≤◌, ◌∙◌, ◌-◌, ◌+◌, ℕ, sym, ap, rules}
use Rattle.std.proofs.Math.ListN.{set}
use Rattle.std.specs.Prelude.{Ok}
use Rattle.leb128.specs.Groups.{read_at}
use Rattle.records.specs.Records.{values_at}
use Rattle.records.proofs.Numbers.{number_read, within, values_next}
use Rattle.records.proofs.values_at.Goals as goal

pub loop-i-preserved : goal.loop-i-preserved
loop-i-preserved c =
    let a = c.args in
    let l = c.loop-i in
    let number = c.in_ok-register.register in
    let read : Ok number ≡ read_at a.bytes.now l.next = search rules in
    let fits : number.value ≤ 255 = search rules in
    let same : c.in_ok-registers.field-0 ≡ number.value = search rules in
    ap (λ (v : ℕ). values_at a.bytes.now (a.count - (l.i + 1)) (l.i + 1) (set l.registers l.i v) number.next) same
    ∙ sym (values_next a.bytes.now a.count l.i l.registers l.next c.loop-i-test.true ∙ number_read _ read ∙ within _ 255 _ _ fits)
    ∙ l.invariant
