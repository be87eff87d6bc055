-- What a message leaves, for every message, session and buffer: document 02, Ticket 6.
use Rattle.std.specs.Prelude.{ℕ, ◌≤◌, Err, List, length}
use Rattle.session.specs.Machine.{Setup, Machine}
use Rattle.messages.specs.declared.Pair.{Pair}
use Rattle.messages.specs.declared.Refusal.TheVariants.{Short, Foreign, Malformed}
use Rattle.messages.specs.Messages.{Taken, Command, taken_as, registers_of, refusal, response_of}
use Rattle.mailbox.specs.Commands.{Outcome}
use Rattle.mailbox.specs.Mediator.{mediate}

-- what a message leaves: the session, the flash with its map and the window memory, the response and the number of chip actions
pub record Served : Type 0 where
  pub machine : Machine
  pub response : List ℕ
  pub actions : ℕ

-- "none touches session or buffers"
abbrev pub untouched : List ℕ → Machine → Served
untouched response m = record { machine = m; response = response; actions = 0 }

-- "call the mediator and pack the response": the parameters of the response are those of the version after the command, since GET_INFO's are laid out by the
-- version just agreed
abbrev pub mediated : List ℕ → Outcome → Served
mediated message o =
    record { machine = o.machine; response = response_of o.machine.session.version message o.registers; actions = o.actions }

-- what is left of a message, by what became of it
abbrev pub served_as : Taken → Setup → List ℕ → Machine → Served
served_as (Err Short) setup message m = untouched (refusal Short message) m
served_as (Err Foreign) setup message m = untouched (refusal Foreign message) m
served_as (Err Malformed) setup message m = untouched (refusal Malformed message) m
served_as Command setup message m = mediated message (mediate setup (registers_of m.session.version message) m)

unfoldable pub served : Setup → Pair → List ℕ → Machine → Served
served setup pair message m = served_as (taken_as pair m.session.version message) setup message m

-- no response has more than 16 bytes, which is the room that the code has; the longest today has 13. Proved in proofs/Few.antt
abbrev pub FewBytes : Type 0
FewBytes = (setup : Setup) (pair : Pair) (message : List ℕ) (m : Machine) → length (served setup pair message m).response ≤ 16
