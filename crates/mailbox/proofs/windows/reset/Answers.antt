-- `mailbox::windows::reset`: refused, or the window dropped.
use Rattle.std.proofs.Common.{◌≡◌, refl, rules}
use Rattle.refusals.specs.Refusals.{Accepted}
use Rattle.mailbox.specs.Table.{reset}
use Rattle.mailbox.proofs.Ran.{known_always, refused_first, served_last}
use Rattle.mailbox.proofs.windows.reset.Goals as goal

pub returns-in_err-check : goal.returns-in_err-check
returns-in_err-check c flash worn memory =
    let f = refused_first reset c.args.call flash worn memory (known_always c.args.call.session.version) c.check.ensures in search rules

pub returns : goal.returns
returns c flash worn memory =
    let a : c.check.result ≡ Accepted = search rules in
    let s = served_last reset c.args.call flash worn memory (known_always c.args.call.session.version) c.check.ensures a refl in
    rw (c.dropped.ensures, c.numbered.ensures.session, c.numbered.ensures.registers) s
