-- What a mailbox command leaves, for every content of the registers, every session and every buffer: document 01, "Registers" and "Commands".
use Rattle.std.specs.Prelude.{ℕ, Bool, cond, Err, List, [], ◌∷◌, eqb, length, get_or}
use Rattle.units.specs.Units.{round_up}
use Rattle.session.specs.Machine.{Setup, Machine}
use Rattle.soundness.specs.Soundness.{sound_in}
use Rattle.refusals.specs.declared.Reason.TheVariants.{System, Repeated, Unknown, Suspended, Windowless, Argument}
use Rattle.registers.specs.Registers.{command_of}
use Rattle.refusals.specs.Refusals.{Checked, Accepted, reason_for, code_for}
use Rattle.mailbox.specs.Commands.{Outcome, refused, numbered_in}
use Rattle.mailbox.specs.Table.{Command, published, unknown}

-- the command of a code: the row of the table that has it
abbrev pub row_of : ℕ → List Command → Command
row_of code [] = unknown
row_of code (row ∷ rows) = cond (eqb code row.code) row (row_of code rows)

unfoldable pub command_at : ℕ → Command
command_at code = row_of code published

-- the first check that refuses a command, from whether the lent sizes, B and the session keep the numbers
abbrev pub reason_of : Command → Bool → List ℕ → Machine → Checked
reason_of c sound registers m =
    reason_for sound m.session registers (c.known m.session.version) c.needs (c.broken m.session registers (round_up (length m.flash)))

-- what is left, by that check; "SYSTEM_ERROR keeps even that", the previous number
unfoldable pub answer_to : Checked → Command → Setup → List ℕ → Machine → Outcome
answer_to Accepted c setup registers m = c.leaves setup registers (numbered_in registers m)
answer_to (Err System) c setup registers m = refused (code_for m.session.version (Err System)) registers m
answer_to (Err Repeated) c setup registers m = refused (code_for m.session.version (Err Repeated)) registers (numbered_in registers m)
answer_to (Err Unknown) c setup registers m = refused (code_for m.session.version (Err Unknown)) registers (numbered_in registers m)
answer_to (Err Suspended) c setup registers m = refused (code_for m.session.version (Err Suspended)) registers (numbered_in registers m)
answer_to (Err Windowless) c setup registers m = refused (code_for m.session.version (Err Windowless)) registers (numbered_in registers m)
answer_to (Err Argument) c setup registers m = c.when_broken (code_for m.session.version (Err Argument)) registers (numbered_in registers m)

-- what one command leaves, refused or carried out
unfoldable pub obeyed : Command → Bool → Setup → List ℕ → Machine → Outcome
obeyed c sound setup registers m = answer_to (reason_of c sound registers m) c setup registers m

-- the command that the registers hold, and the first check that refuses it
abbrev pub command_in : List ℕ → Command
command_in registers = command_at (command_of registers)

abbrev pub reason_in : Setup → List ℕ → Machine → Checked
reason_in setup registers m = reason_of (command_in registers) (sound_in setup m) registers m

-- what a call leaves of what it is given
unfoldable pub mediate : Setup → List ℕ → Machine → Outcome
mediate setup registers m = obeyed (command_in registers) (sound_in setup m) setup registers m

-- the response, "13 the response", that it leaves in the registers
abbrev pub response : Setup → List ℕ → Machine → ℕ
response setup registers m = get_or (mediate setup registers m).registers 13 0
