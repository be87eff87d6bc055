-- `mailbox::command`: SYSTEM_ERROR, or what the command of the registers' code answers.
use Rattle.std.proofs.Common.{sym, ◌∙◌}
use Rattle.session.specs.Machine.{set_up, lent}
use Rattle.mailbox.proofs.Mediating.{unsound_as, call_fits, mediated_by}
use Rattle.mailbox.proofs.command.Goals as goal

pub returns-then-not-is_sound_at : goal.returns-then-not-is_sound_at
returns-then-not-is_sound_at c =
    let a = c.args in
    let m = lent a.session a.flash.now a.worn.now a.memory.now in
    rw (c.replied.ensures, c.from.ensures) (sym (unsound_as (set_up a.board) a.registers m (sym c.is_sound_at.ensures ∙ c.if-not-is_sound_at.true)))

pub invariant_of-call : goal.invariant_of-call
invariant_of-call c =
    let a = c.args in
    let m = lent a.session a.flash.now a.worn.now a.memory.now in
    let f = call_fits (set_up a.board) m (sym c.is_sound_at.ensures ∙ c.if-not-is_sound_at.false) in
    record { few = f.few; counted = f.counts }

pub run-requires-clause-sizes : goal.run-requires-clause-sizes
run-requires-clause-sizes c =
    let a = c.args in
    let m = lent a.session a.flash.now a.worn.now a.memory.now in
    let f = call_fits (set_up a.board) m (sym c.is_sound_at.ensures ∙ c.if-not-is_sound_at.false) in
    (f.flash_sound, f.memory_sound)

pub run-requires-clause-room : goal.run-requires-clause-room
run-requires-clause-room c =
    let a = c.args in
    let m = lent a.session a.flash.now a.worn.now a.memory.now in
    let f = call_fits (set_up a.board) m (sym c.is_sound_at.ensures ∙ c.if-not-is_sound_at.false) in
    f.room

pub returns-in-Ok : goal.returns-in-Ok
returns-in-Ok c =
    let a = c.args in
    let m = lent a.session a.flash.now a.worn.now a.memory.now in
    rw c.in-Ok.is at c.run.ensures ∙ mediated_by (set_up a.board) a.registers m (sym c.is_sound_at.ensures ∙ c.if-not-is_sound_at.false)

pub returns-in-Err : goal.returns-in-Err
returns-in-Err c =
    let a = c.args in
    let m = lent a.session a.flash.now a.worn.now a.memory.now in
    c.refused.ensures c.run.new.flash a.worn.now c.run.new.memory
    ∙ (rw c.in-Err.is at c.run.ensures)
    ∙ mediated_by (set_up a.board) a.registers m (sym c.is_sound_at.ensures ∙ c.if-not-is_sound_at.false)
