-- `flush::window::flush_window`: nothing is marked, and all of the flush.
use Rattle.std.proofs.Common.{sym, ◌∙◌, rules}
use Rattle.session.specs.Machine.{lent}
use Rattle.flush.proofs.InWindow.{flushed, flushed_unmarked}
use Rattle.flush.proofs.window.flush_window.Goals as goal

pub returns-then-none_marked : goal.returns-then-none_marked
returns-then-none_marked c =
    let a = c.args in
    flushed_unmarked (lent a.session a.flash.now a.worn.now a.memory.now) (sym c.is_sound.ensures ∙ c.if-not-is_sound.false) (sym c.none_marked.ensures ∙ c.if-none_marked.true)

pub returns : goal.returns
returns c =
    let a = c.args in
    let call = c.flush_part-actions in
    let stopped = c.failing_in-failed in
    flushed (lent a.session a.flash.now a.worn.now a.memory.now) (sym c.is_sound.ensures ∙ c.if-not-is_sound.false) (search rules)
    stopped.result stopped.ensures c.first_marks.result c.first_marks.ensures call.new.flash call.result call.ensures.0 call.ensures.1
