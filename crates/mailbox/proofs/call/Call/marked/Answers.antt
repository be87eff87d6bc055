-- `mailbox::call::Call::marked`: one block more, and its mark is among those counted.
use Rattle.std.proofs.Common.{◌≡◌, ℕ, List, ◌+◌, ◌-◌, refl, ap, ◌∙◌, set, replicate, length-set, arith}
use Rattle.buffers.specs.Ranges.{replace}
use Rattle.session.specs.declared.Counts.{Counts}
use Rattle.soundness.proofs.Counting.{marks_most, marks_some}
use Rattle.buffers.proofs.Stores.{replaced_more}
use Rattle.mailbox.proofs.call.Call.marked.Goals as goal

pub recount-counts-requires-clause-counted : goal.recount-counts-requires-clause-counted
recount-counts-requires-clause-counted c =
    let l = c.loop-at in
    let long = l.invariant.2 in
    let dirty = ap (λ (n : Counts). n.dirty) l.invariant.1 in
    let erased = ap (λ (n : Counts). n.erased) l.invariant.1 in
    let dirty_there = marks_some 1 l.marks l.at (omega arith) in
    let erased_there = marks_some 2 l.marks l.at (omega arith) in
    (omega (arith, dirty, dirty_there), omega (arith, erased, erased_there))

pub recount-counts-requires-clause-few : goal.recount-counts-requires-clause-few
recount-counts-requires-clause-few c =
    let l = c.loop-at in
    let long = l.invariant.2 in
    let dirty = ap (λ (n : Counts). n.dirty) l.invariant.1 in
    let erased = ap (λ (n : Counts). n.erased) l.invariant.1 in
    let dirty_few = marks_most 1 l.marks in
    let erased_few = marks_most 2 l.marks in
    (omega (arith, dirty, dirty_few, long), omega (arith, erased, erased_few, long))

pub loop-at-preserved : goal.loop-at-preserved
loop-at-preserved c =
    let l = c.loop-at in
    let start = c.args.named.start in
    let mark = c.args.mark in
    let marks = c.args.self.session.marks in
    let whole = l.invariant.2 in
    let place : l.at ≡ start + (l.at - start) = omega arith in
    let more : (l.at - start) + 1 ≡ (l.at + 1) - start = omega arith in (
      ap (λ (t : List ℕ). set t l.at mark) l.invariant.0
          ∙ ap (λ (n : ℕ). set (replace start (replicate (l.at - start) mark) marks) n mark) place
          ∙ replaced_more start (l.at - start) mark marks (omega arith)
          ∙ ap (λ (n : ℕ). replace start (replicate n mark) marks) more,
      c.recount-counts.ensures l.marks l.at (omega arith) refl l.invariant.1,
      simp length-set whole,
    )
