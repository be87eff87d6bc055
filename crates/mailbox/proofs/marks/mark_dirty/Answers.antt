-- `mailbox::marks::mark_dirty`: refused, by the table or for its argument, or the named blocks marked.
use Rattle.std.proofs.Common.{◌≡◌, refl, ap, not, Ok, Err, rules}
use Rattle.refusals.specs.Refusals.{Accepted, blocks_named}
use Rattle.mailbox.specs.Table.{mark_dirty}
use Rattle.mailbox.proofs.Marking.{range_refused, range_given}
use Rattle.mailbox.proofs.Ran.{refused_first, broken_last, served_last}
use Rattle.mailbox.proofs.marks.mark_dirty.Goals as goal

pub returns-in_err-check : goal.returns-in_err-check
returns-in_err-check c flash worn memory =
    let f = refused_first mark_dirty c.args.call flash worn memory refl c.check.ensures in search rules

pub returns-in_err-named : goal.returns-in_err-named
returns-in_err-named c flash worn memory =
    let a : c.check.result ≡ Accepted = search rules in
    let q = c.in_err-named.field-0.0 in
    let none : c.or.result ≡ Err q = search rules in
    let n = range_refused (blocks_named c.args.call.session c.args.call.registers) c.blocks_named.result c.or.result q c.blocks_named.ensures c.or.ensures none in
    let argument = n.1 in
    let b = broken_last mark_dirty c.args.call flash worn memory refl c.check.ensures a (ap not n.0) in search rules

pub returns : goal.returns
returns c flash worn memory =
    let a : c.check.result ≡ Accepted = search rules in
    let named = c.in_ok-named.named in
    let given : c.or.result ≡ Ok named = search rules in
    let n = range_given (blocks_named c.args.call.session c.args.call.registers) c.blocks_named.result c.or.result named c.blocks_named.ensures c.or.ensures given in
    let s = served_last mark_dirty c.args.call flash worn memory refl c.check.ensures a (ap not n.0) in
    rw (c.answer.ensures, c.marked-marked.ensures.session, c.marked-marked.ensures.registers, c.numbered.ensures.session, c.numbered.ensures.registers, n.1) s
