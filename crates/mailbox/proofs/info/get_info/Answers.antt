-- `mailbox::info::get_info`: refused, or a version agreed.
use Rattle.std.proofs.Common.{◌≡◌, refl, length, rules}
use Rattle.units.specs.Units.{round_up}
use Rattle.soundness.proofs.Facts.{block_count}
use Rattle.refusals.specs.Refusals.{Accepted}
use Rattle.mailbox.specs.Table.{get_info}
use Rattle.mailbox.proofs.Ran.{known_always, turned_down, served}
use Rattle.mailbox.proofs.info.get_info.Goals as goal

pub returns-in_err-check : goal.returns-in_err-check
returns-in_err-check c flash worn =
    let f = turned_down get_info c.args.call flash worn c.args.memory.now (known_always c.args.call.session.version) c.check.ensures refl refl in search rules

pub returns : goal.returns
returns c flash worn =
    let a : c.check.result ≡ Accepted = search rules in
    let s = served get_info c.args.call flash worn c.args.memory.now (known_always c.args.call.session.version) c.check.ensures refl a in
    let blocks : c.blocks-blocks.result.0 ≡ round_up (length c.args.memory.now) = search (rules, block_count) in
    rw (c.agree.ensures, c.numbered.ensures.session, c.numbered.ensures.registers, c.numbered.ensures.board, blocks) s
