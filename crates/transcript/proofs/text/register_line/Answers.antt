use Rattle.std.proofs.Common.{◌≡◌, ◌∙◌, ℕ, ◌+◌, ◌*◌, ◌/◌, ◌%◌, List, length, get_or, ap, rules, arith}
use lib.ListN.{set}
use Rattle.transcript.specs.Text.{hex_digit}
use Rattle.transcript.proofs.Lines.{part_way, line_more, line_ends}
use Rattle.transcript.proofs.text.register_line.Goals as goal

pub loop-i-preserved : goal.loop-i-preserved
loop-i-preserved c =
    let rs = c.args.registers in
    let l = c.loop-i in
    let long : length rs ≡ 16 = search rules in
    ap (λ (t : List ℕ). set (set t (3 * l.i) c.hex_digit.result) (3 * l.i + 1) c.hex_digit-in-loop-i.result) l.invariant
    ∙ ap (λ (d : ℕ). set (set (part_way l.i rs) (3 * l.i) d) (3 * l.i + 1) c.hex_digit-in-loop-i.result) c.hex_digit.ensures
    ∙ ap (λ (d : ℕ). set (set (part_way l.i rs) (3 * l.i) (hex_digit (get_or rs l.i 0 / 16 % 16))) (3 * l.i + 1) d) c.hex_digit-in-loop-i.ensures
    ∙ line_more rs l.i (omega arith)

pub returns : goal.returns
returns c =
    let l = c.loop-i in
    let rs = c.args.registers in
    let long : length rs ≡ 16 = search rules in
    let all : l.i ≡ 16 = omega arith in
    ap (λ (t : List ℕ). set t 47 10) (l.invariant ∙ ap (λ (i : ℕ). part_way i rs) all) ∙ line_ends rs long
