use Rattle.std.proofs.Common.{◌≡◌, ◌∙◌, ℕ, ◌+◌, ◌-◌, ◌*◌, sym, ap, arith}
use Rattle.leb128.specs.Groups.{found}
use Rattle.leb128.proofs.Decode.{decode_last, read_more, read_whole}
use Rattle.leb128.proofs.read_groups.Goals as goal

pub loop-i-init : goal.loop-i-init
loop-i-init c =
    let s = c.args.bytes.now in
    let last = c.args.last in
    let run = c.requires.run in
    let value = c.from-value in (
      run.rises,
      omega arith,
      omega (arith, c.type_inv.bytes last),
      decode_last s last c.requires.last_in_bounds (run.clear c.requires.last_in_bounds)
          ∙ ap (λ (v : ℕ). found v 1) (sym value.ensures)
          ∙ ap (λ (n : ℕ). found value.result n) (omega arith),
    )

pub loop-i-preserved : goal.loop-i-preserved
loop-i-preserved c =
    let a = c.args in
    let l = c.loop-i in (
      omega arith,
      omega arith,
      omega arith,
      read_more a.bytes.now a.at a.last c.requires.run l.i l.value (omega arith) l.invariant.1 l.invariant.3 (omega arith)
          ∙ ap (λ (b : ℕ). found (l.value * 128 + b) (a.last + 1 - (l.i - 1))) (sym c.from.ensures),
    )

pub returns : goal.returns
returns c =
    let a = c.args in
    let l = c.loop-i in
    let e : l.i ≡ a.at = omega arith in
    sym (read_whole a.bytes.now a.at a.last c.requires.run l.value (rw e at l.invariant.3) l.invariant.2)
