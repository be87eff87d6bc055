use Rattle.std.proofs.Common.{◌≡◌, ◌∙◌, ◌-◌, ◌≤◌, ◌<◌, length, drop, rules, tests, arith}
use Rattle.std.proofs.Math.ListN.{length-drop}
use Rattle.std.proofs.lemmas.Iterator.{IsFirst-from_position, YieldsList-from_slice}
use Rattle.std.proofs.option.Match.{if_some}
use lib.Seq.{take_all}
use Rattle.leb128.proofs.Decode.{run_to_first}
use Rattle.leb128.proofs.last_group.Goals as goal

pub returns-clause-ends : goal.returns-clause-ends
returns-clause-ends c =
    let s = c.args.bytes.now in
    let at = c.args.at in
    let rest : c.in_ok-get.field-0.now ≡ drop at s =
    c.in_ok-get.ensures.lookup.0.2 ∙ take_all (length s - at) (drop at s) (omega (arith, length-drop at s)) in
    let first = if_some _ _ _ c.in_ok-passed.was (IsFirst-from_position _ _ _ (λ b. b < 128) (λ b. 128 ≤ b) c.position.ensures.ran (YieldsList-from_slice (drop at s) (c.iter.ensures.rest ∙ rest)) (λ x q k. search (rules, tests)) (λ x q k. search (rules, tests))) in
    run_to_first s at c.in_ok-passed.passed first
