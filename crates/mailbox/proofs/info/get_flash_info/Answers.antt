-- `mailbox::info::get_flash_info`: refused, or the flash's size told.
use Rattle.std.proofs.Common.{◌≡◌, refl, length, rules}
use Rattle.units.specs.Units.{round_up}
use Rattle.soundness.proofs.Facts.{block_count}
use Rattle.refusals.specs.Refusals.{Accepted}
use Rattle.mailbox.specs.Table.{get_flash_info}
use Rattle.mailbox.proofs.Ran.{refused_first, served_last}
use Rattle.mailbox.proofs.info.get_flash_info.Goals as goal

pub returns-in_err-check : goal.returns-in_err-check
returns-in_err-check c worn memory =
    let f = refused_first get_flash_info c.args.call c.args.flash.now worn memory refl c.check.ensures in search rules

pub returns : goal.returns
returns c worn memory =
    let a : c.check.result ≡ Accepted = search rules in
    let s = served_last get_flash_info c.args.call c.args.flash.now worn memory refl c.check.ensures a refl in
    let blocks : c.blocks-blocks.result.0 ≡ round_up (length c.args.flash.now) = search (rules, block_count) in
    rw (c.tell_flash.ensures, c.numbered.ensures.session, c.numbered.ensures.registers, blocks) s
