use Rattle.std.proofs.Common.{◌≡◌, ◌∙◌, ◌+◌, length, get_or, drop, refl, sym, ap}
use lib.ListN.{set, length-set}
use lib.Seq.{set_out}
use Rattle.transcript.specs.declared.printing.Printed.{Printed}
use Rattle.transcript.specs.Printing.{written}
use Rattle.transcript.proofs.Written.{written_more, written_none}
use Rattle.transcript.proofs.printing.Printed.put.Goals as goal
use Rattle.transcript.proofs.printing.Printed.put.Goals.{then-at-i, else-at-i}

pub loop-i-preserved : goal.loop-i-preserved
loop-i-preserved c =
    let at = c.args.self.now.end in
    let part = c.args.part.now in
    let l = c.loop-i in
    let text = l.self.text.now in
    let b = get_or part l.i 0 in
    let stored : (c.if-at-i.self.text.now ≡ set text (at + l.i) b) × (c.if-at-i.self.text.ghost_name ≡ l.self.text.ghost_name) =
    elim c.if-at-i.branch [
      | then-at-i w ↦ (ap (λ (p : Printed). p.text.now) w.self-is, ap (λ (p : Printed). p.text.ghost_name) w.self-is)
      | else-at-i w ↦ (ap (λ (p : Printed). p.text.now) w.self-is ∙ sym (set_out text (at + l.i) b w.if-at-i.false), ap (λ (p : Printed). p.text.ghost_name) w.self-is)
    ] in (
      ap (written (at + (l.i + 1)) (drop (l.i + 1) part)) stored.0
          ∙ sym (written_more at l.i part text c.loop-i-test.true)
          ∙ l.invariant.0,
      ap length stored.0 ∙ length-set text (at + l.i) b ∙ l.invariant.1,
      stored.1 ∙ l.invariant.2,
    )

pub returns : goal.returns
returns c =
    let l = c.loop-i in
    record {
      end = refl;
      text = sym (written_none c.args.self.now.end l.i c.args.part.now l.self.text.now c.loop-i-test.false) ∙ l.invariant.0;
      same_buffer = l.invariant.2;
    }
