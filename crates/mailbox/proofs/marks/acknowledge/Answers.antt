-- `mailbox::marks::acknowledge`: refused, or the named events cleared.
use Rattle.std.proofs.Common.{◌≡◌, refl, rules}
use Rattle.refusals.specs.Refusals.{Accepted}
use Rattle.mailbox.specs.Table.{ack}
use Rattle.mailbox.proofs.Ran.{known_always, refused_first, served_last}
use Rattle.mailbox.proofs.marks.acknowledge.Goals as goal

pub returns-in_err-check : goal.returns-in_err-check
returns-in_err-check c flash worn memory =
    let f = refused_first ack c.args.call flash worn memory (known_always c.args.call.session.version) c.check.ensures in search rules

pub returns : goal.returns
returns c flash worn memory =
    let a : c.check.result ≡ Accepted = search rules in
    let s = served_last ack c.args.call flash worn memory (known_always c.args.call.session.version) c.check.ensures a refl in
    rw (c.answer.ensures, c.with_access-cleared.ensures, c.acknowledge_events-events.ensures, c.numbered.ensures.session) s
