-- For private functions: what a command leaves of a call as the code has it, once the lent sizes, B and the session are sound.
use Rattle.std.specs.Prelude.{true, Result, Ok, Err, List, ℕ}
use Rattle.session.specs.Machine.{set_up, lent}
use Rattle.mailbox.specs.declared.call.Call.{Call}
use Rattle.mailbox.specs.declared.Answer.{Answer}
use Rattle.refusals.specs.declared.Reason.{Reason}
use Rattle.refusals.specs.Refusals.{code_for}
use Rattle.mailbox.specs.Commands.{Outcome, outcome, refused, numbered_in}
use Rattle.mailbox.specs.Table.{Command}
use Rattle.mailbox.specs.Mediator.{obeyed}

-- by a command, of a call, the flash, its map and the window memory
abbrev pub obeyed_by : Command → Call → List ℕ → List ℕ → List ℕ → Outcome
obeyed_by c call flash worn memory = obeyed c true (set_up call.board) call.registers (lent call.session flash worn memory)

-- as a command's function has it: an answer, or the check that refuses the call, whose number is the previous one then
abbrev pub ran : Result Answer Reason → Call → List ℕ → List ℕ → List ℕ → Outcome
ran (Ok answer) call flash worn memory = outcome answer flash worn memory
ran (Err reason) call flash worn memory =
    refused (code_for call.session.version (Err reason)) call.registers (numbered_in call.registers (lent call.session flash worn memory))
