use Rattle.std.proofs.Common.{◌<◌, arith, rules}
use Rattle.session.specs.Machine.{lent}
use Rattle.script.specs.Effects.{none_worn}
use Rattle.transcript.proofs.Turns.{goes_on, moved_on, over_bad, over_none}
use Rattle.transcript.proofs.run_records.Goals as goal

pub returns-in_default : goal.returns-in_default
returns-in_default c =
    let a = c.args in
    let l = c.loop-at in
    let here = c.loop-at-test.true in
    let gone =
    over_bad a.input.now a.flash.now a.memory.now a.printed.now l.at (lent l.session l.flash none_worn l.memory) l.printed l.invariant.4 here
    c.serve_at.new.flash c.serve_at.new.memory c.put_bad.new.self c.in_default.ensures.effect c.put_bad.ensures.puts in
    record { puts = gone.0; flash = gone.1; bound = omega (arith, c.put_bad.ensures.bound, l.invariant.0, here, c.requires.input) }

pub loop-at-smaller : goal.loop-at-smaller
loop-at-smaller c =
    let a = c.args in
    let l = c.loop-at in
    let step = c.in-Some.step in
    let past : l.at < step.next =
    moved_on a.input.now a.flash.now a.memory.now a.printed.now l.at (lent l.session l.flash none_worn l.memory) l.printed l.invariant.4 c.loop-at-test.true
    c.serve_at.new.flash c.serve_at.new.memory step.served c.in-Some.ensures.effect step.next c.in-Some.ensures.next in
    omega (arith, past, c.loop-at-test.true)

pub loop-at-preserved : goal.loop-at-preserved
loop-at-preserved c =
    let a = c.args in
    let l = c.loop-at in
    let here = c.loop-at-test.true in
    let step = c.in-Some.step in
    let answer = c.put_answer in
    let past : l.at < step.next =
    moved_on a.input.now a.flash.now a.memory.now a.printed.now l.at (lent l.session l.flash none_worn l.memory) l.printed l.invariant.4 here
    c.serve_at.new.flash c.serve_at.new.memory step.served c.in-Some.ensures.effect step.next c.in-Some.ensures.next in (
      omega (arith, past, answer.ensures.bound, l.invariant.0),
      omega (arith, here, answer.ensures.bound, l.invariant.0),
      search rules,
      search rules,
      goes_on a.input.now a.flash.now a.memory.now a.printed.now l.at (lent l.session l.flash none_worn l.memory) l.printed l.invariant.4 here
          c.serve_at.new.flash c.serve_at.new.memory step.served c.in-Some.ensures.effect step.next c.in-Some.ensures.next answer.new.self answer.ensures.puts,
    )

pub returns : goal.returns
returns c =
    let a = c.args in
    let l = c.loop-at in
    let gone = over_none a.input.now a.flash.now a.memory.now a.printed.now l.at (lent l.session l.flash none_worn l.memory) l.printed c.loop-at-test.false l.invariant.4 in
    record { puts = gone.0; flash = gone.1; bound = omega (arith, l.invariant.1, c.requires.input) }
