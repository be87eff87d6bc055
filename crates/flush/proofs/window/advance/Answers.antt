-- `flush::window::advance`: the erase that fails, one action more, and none.
use Rattle.std.proofs.Common.{sym, ◌∙◌, rules}
use Rattle.session.specs.Machine.{lent}
use Rattle.flush.proofs.InWindow.{advanced_by}
use Rattle.flush.proofs.window.advance.Goals as goal
use Rattle.flush.proofs.window.advance.Goals.{else-not-acted-via-then-not-acted+else-is_some, else-not-acted-via-else-not-acted}

pub returns-then-is_some : goal.returns-then-is_some
returns-then-is_some c =
    let a = c.args in
    let call = c.step_part-acted in
    let stopped = c.failing_in-failed in
    let step = advanced_by (lent a.session a.flash.now a.worn.now a.memory.now) (sym c.is_sound.ensures ∙ c.if-not-is_sound.false) (search rules)
    stopped.result stopped.ensures c.first_marks.result c.first_marks.ensures call.new.flash c.if-session.false a.done call.result call.ensures.0 call.ensures.1 in
    let none = c.if-not-acted.true in
    let fails = sym c.is_some.ensures ∙ c.if-is_some.true in
    rw none at step 3 (rw fails)

pub returns : goal.returns
returns c =
    let a = c.args in
    let call = c.step_part-acted in
    let stopped = c.failing_in-failed in
    let step = advanced_by (lent a.session a.flash.now a.worn.now a.memory.now) (sym c.is_sound.ensures ∙ c.if-not-is_sound.false) (search rules)
    stopped.result stopped.ensures c.first_marks.result c.first_marks.ensures call.new.flash c.if-session.false a.done call.result call.ensures.0 call.ensures.1 in
    step 1
    (elim c.else-not-acted.branch [
      | else-not-acted-via-then-not-acted+else-is_some w ↦ rw (w.if-not-acted.true, sym w.is_some.ensures ∙ w.if-is_some.false)
      | else-not-acted-via-else-not-acted w ↦ rw w.if-not-acted.false
    ])
