-- `mailbox::run`: each arm is the row of the table with its code.
use Rattle.std.proofs.Common.{◌∙◌}
use Rattle.mailbox.specs.Table.{reset, get_info, get_flash_info, close_window, mark_dirty, flush, ack}
use Rattle.mailbox.specs.Mediator.{command_at}
use Rattle.mailbox.proofs.Arms.{at_row}
use Rattle.mailbox.proofs.run.Goals as goal

pub returns-in-0 : goal.returns-in-0
unfolding command_at
returns-in-0 c =
    let a = c.args in
    c.unknown.ensures a.flash.now a.worn.now a.memory.now ∙ at_row a.call a.flash.now a.worn.now a.memory.now 0 c.in-0.is

pub returns-in-1 : goal.returns-in-1
unfolding command_at
returns-in-1 c =
    let a = c.args in
    c.reset.ensures a.flash.now a.worn.now a.memory.now ∙ at_row a.call a.flash.now a.worn.now a.memory.now reset.code c.in-1.is

pub returns-in-2 : goal.returns-in-2
unfolding command_at
returns-in-2 c =
    let a = c.args in
    c.get_info.ensures a.flash.now a.worn.now ∙ at_row a.call a.flash.now a.worn.now a.memory.now get_info.code c.in-2.is

pub returns-in-3 : goal.returns-in-3
unfolding command_at
returns-in-3 c =
    let a = c.args in
    c.get_flash_info.ensures a.worn.now a.memory.now ∙ at_row a.call a.flash.now a.worn.now a.memory.now get_flash_info.code c.in-3.is

pub returns-in-5 : goal.returns-in-5
unfolding command_at
returns-in-5 c =
    let a = c.args in
    c.close_window.ensures ∙ at_row a.call a.flash.now a.worn.now a.memory.now close_window.code c.in-5.is

pub returns-in-7 : goal.returns-in-7
unfolding command_at
returns-in-7 c =
    let a = c.args in
    c.mark_dirty.ensures a.flash.now a.worn.now a.memory.now ∙ at_row a.call a.flash.now a.worn.now a.memory.now mark_dirty.code c.in-7.is

pub returns-in-8 : goal.returns-in-8
unfolding command_at
returns-in-8 c =
    let a = c.args in
    c.flush.ensures ∙ at_row a.call a.flash.now a.worn.now a.memory.now flush.code c.in-8.is

pub returns-in-9 : goal.returns-in-9
unfolding command_at
returns-in-9 c =
    let a = c.args in
    c.acknowledge.ensures a.flash.now a.worn.now a.memory.now ∙ at_row a.call a.flash.now a.worn.now a.memory.now ack.code c.in-9.is
