-- `mailbox::numbering::unknown`: refused for its number, or as unknown.
use Rattle.std.proofs.Common.{rules}
use Rattle.mailbox.proofs.Ran.{unknown_checked, unknown_passed}
use Rattle.mailbox.proofs.numbering.unknown.Goals as goal

pub returns-in_err-check : goal.returns-in_err-check
returns-in_err-check c flash worn memory = let f = unknown_checked c.args.call flash worn memory c.check.ensures in search rules

pub returns : goal.returns
returns c flash worn memory = let f = unknown_passed c.args.call flash worn memory c.check.ensures in search rules
