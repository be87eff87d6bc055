-- `mailbox::windows::close_window`: refused, or the window flushed and dropped.
use Rattle.std.proofs.Common.{◌≡◌, ◌∙◌, refl, length, rules}
use Rattle.units.specs.Units.{round_up}
use Rattle.refusals.specs.Refusals.{Accepted}
use Rattle.mailbox.specs.Table.{close_window}
use Rattle.mailbox.proofs.Ran.{turned_down, served}
use Rattle.mailbox.proofs.windows.close_window.Goals as goal

pub returns-in_err-check : goal.returns-in_err-check
returns-in_err-check c =
    let a = c.args in
    let f = turned_down close_window a.call a.flash.now a.worn.now a.memory.now refl c.check.ensures
    (c.undefined_flags-undefined.ensures (round_up (length a.flash.now))) refl in search rules

pub returns : goal.returns
returns c =
    let a = c.args in
    let e : c.check.result ≡ Accepted = search rules in
    let s = served close_window a.call a.flash.now a.worn.now a.memory.now refl c.check.ensures (c.undefined_flags-undefined.ensures (round_up (length a.flash.now))) e in
    rw (c.numbered.ensures.session, c.numbered.ensures.registers) at c.close.ensures ∙ s
