-- "the same command by mailbox and by KCS leaves the same session, flash and window memory and the same answer values": document 02, Ticket 6, here of the
-- message itself; Kcs.antt has its way through the port. Proved in proofs/Same.antt.
use Rattle.std.specs.Prelude.{Option, None, Some, ℕ, ◌+◌, ◌-◌, ◌*◌, ◌<◌, ◌≡◌, cond, List, [], ◌∷◌, eqb, length, get_or, drop, replicate}
use Rattle.buffers.specs.Ranges.{range}
use Rattle.session.specs.Machine.{Setup, Machine}
use Rattle.registers.specs.Registers.{command_of, sequence_of}
use Rattle.messages.specs.declared.Pair.{Pair}
use Rattle.messages.specs.Parameters.{Parameter, Row, row_of, bytes_in}
use Rattle.messages.specs.Messages.{unpacked, packed_from, headed, status_of}
use Rattle.mailbox.specs.Commands.{Outcome}
use Rattle.mailbox.specs.Mediator.{mediate}
use Rattle.ipmi.specs.Served.{Served, served}

-- ---- the message made of a mailbox command

-- its parameters, each from its M offset to its I offset; of a command that the version does not know all 11 arguments
abbrev pub given_by : Option Row → List ℕ → List ℕ
given_by None registers = range 2 11 registers
given_by (Some r) registers = packed_from r.request registers

-- for a board's pair, with any LUN, at a version
abbrev pub message_of : Pair → ℕ → ℕ → List ℕ → List ℕ
message_of pair lun version registers =
    (pair.netfn * 4 + lun)
    ∷ pair.command
    ∷ command_of registers
    ∷ sequence_of registers
    ∷ given_by (row_of (command_of registers) version) registers

-- ---- the answer's values in a response

abbrev pub completion_in : List ℕ → ℕ
completion_in response = get_or response 2 0

-- the status that a completion code stands for: 00 is 1, any other "80 hex + s" is s
abbrev pub status_told : ℕ → ℕ
status_told completion = cond (eqb completion 0) 1 (completion - 0x80)

-- the parameters of a response
abbrev pub answers : Option Row → List Parameter
answers None = []
answers (Some r) = r.response

-- each has the same bytes at its I offset of the response, behind the completion code, the command and the sequence number, and at its M offset of the
-- registers' arguments
abbrev pub Equal : List Parameter → List ℕ → List ℕ → Type 0
Equal [] response registers = Unit
Equal (p ∷ ps) response registers =
    (range (5 + p.message) p.size response ≡ range (2 + p.mailbox) p.size registers) × Equal ps response registers

-- a response with these parameters, beside the registers with the same answer
pub record Equals (ps : List Parameter) (response registers : List ℕ) : Type 0 where
  pub completion : completion_in response ≡ 0x00
  pub long : length response ≡ 5 + bytes_in ps
  pub command : get_or response 3 0 ≡ command_of registers
  pub sequence : get_or response 4 0 ≡ sequence_of registers
  pub values : Equal ps response registers
  -- and nothing is left out: moved back to their M offsets they are all 11 arguments
  pub whole : unpacked ps (drop 5 response) (replicate 11 0) ≡ range 2 11 registers

-- ---- what a mailbox command leaves, and what the message leaves
pub record Same (message : List ℕ) (o : Outcome) (s : Served) : Type 0 where
  -- "the same session, flash and window memory", the same map, and the same number of chip actions
  pub machine : s.machine ≡ o.machine
  pub actions : s.actions ≡ o.actions
  -- "the same answer values": the status is 1 exactly if the completion code is 00, else it is the code less 80 hex,
  pub status : status_of o.registers ≡ status_told (completion_in s.response)
  pub success : status_of o.registers ≡ 1
      → Equals (answers (row_of (command_of o.registers) o.machine.session.version)) s.response o.registers
  -- "in three bytes"
  pub refused : (status_of o.registers ≡ 1 → ⊥) → s.response ≡ headed message (0x80 + status_of o.registers)

-- the claim, of every content of the registers, known to the version or not, every session, sound or not, every buffer and every map of worn blocks
abbrev pub SameByMessage : Type 0
SameByMessage =
    (setup : Setup) (pair : Pair) (lun : ℕ) (registers : List ℕ) (m : Machine) → lun < 4 → length registers ≡ 16
    → Same (message_of pair lun m.session.version registers) (mediate setup registers m)
    (served setup pair (message_of pair lun m.session.version registers) m)
