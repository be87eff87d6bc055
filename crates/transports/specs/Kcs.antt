-- A message through the KCS port: document 02, Tickets 3 and 6. The host is the published one of crate kcshost. Proved in proofs/Kcs.antt.
use Rattle.std.specs.Prelude.{ℕ, suc, ◌≤◌, ◌<◌, ◌≡◌, List, [], ◌∷◌, length}
use Rattle.session.specs.Machine.{Setup, Machine}
use Rattle.kcs.specs.Port.{Port}
use Rattle.kcs.specs.Accesses.{answered}
use Rattle.kcshost.specs.Host.{begin, write_transfer, read_transfer, read_on}
use Rattle.kcshost.specs.Transfers.{Written, Read}
use Rattle.messages.specs.declared.Pair.{Pair}
use Rattle.mailbox.specs.Runs.{send, Call, called_all}
use Rattle.mailbox.specs.Mediator.{mediate}
use Rattle.ipmi.specs.Served.{served}
use Rattle.transports.specs.Same.{message_of, Same}

-- ---- one message

-- the port with a message written by the published host, and answered by the board's loop
abbrev pub written : List ℕ → Port → Port
written message p = (write_transfer message (begin p)).port

abbrev pub answered_to : Setup → Pair → List ℕ → Machine → Port → Port
answered_to setup pair message m p = answered (served setup pair message m).response (written message p)

-- "a host that sends such a message by the published KCS write and reads by the published read gets exactly that response": any message of 1 to 64 bytes, from
-- every port, idle, after the published recovery or any other, by a host that allows a turn more than the 16 bytes that a response may have. The message that is
-- handed over is the one that is served, and status reads may stand anywhere between (`Written`, `Read`)
abbrev pub MessageByKcs : Type 0
MessageByKcs =
    (setup : Setup) (pair : Pair) (message : List ℕ) (m : Machine) (turns : ℕ) (p : Port) → 1 ≤ length message → length message ≤ 64 → 16 < turns
    → Written message p × Read (served setup pair message m).response turns (answered_to setup pair message m p)

-- a host that waits for OBF already when the answer comes gets it too, if the message has two bytes or more: only a shorter one is answered with the empty
-- response (`EmptyRaces`, crate kcshost)
abbrev pub AnswerGoesOn : Type 0
AnswerGoesOn =
    (setup : Setup) (pair : Pair) (message : List ℕ) (m : Machine) (turns : ℕ) (p : Port) → 2 ≤ length message → length message ≤ 64
    → read_on turns (begin (answered_to setup pair message m p)) ≡ read_transfer (suc turns) (begin (answered_to setup pair message m p))

-- ---- a list of mailbox commands, sent as messages through the port one after the other

-- what is left of the port, of the session, of both buffers and of the map of worn blocks, and the responses that the host has read
pub record Line : Type 0 where
  pub port : Port
  pub machine : Machine
  pub got : List (List ℕ)

-- the host writes the message of a command, made at the version that is agreed then; the board's loop serves and answers it; the host reads
abbrev pub exchanged_all : Setup → Pair → ℕ → ℕ → List (List ℕ) → Port → Machine → Line
exchanged_all setup pair lun turns [] p m = record { port = p; machine = m; got = [] }
exchanged_all setup pair lun turns (registers ∷ rest) p m =
    let message = message_of pair lun m.session.version registers in
    let read = read_transfer turns (begin (answered_to setup pair message m p)) in
    let after = exchanged_all setup pair lun turns rest read.port (served setup pair message m).machine in
    record { port = after.port; machine = after.machine; got = read.got ∷ after.got }

-- the same commands by mailbox
abbrev pub send_all : List (List ℕ) → List Call
send_all [] = []
send_all (registers ∷ rest) = send registers ∷ send_all rest

-- each response that was read is that of its message, and stands beside what the mailbox command leaves and answers there (`Same`)
abbrev pub SameAnswers : Setup → Pair → ℕ → List (List ℕ) → List (List ℕ) → Machine → Type 0
SameAnswers setup pair lun [] [] m = Unit
SameAnswers setup pair lun [] (response ∷ responses) m = ⊥
SameAnswers setup pair lun (registers ∷ rest) [] m = ⊥
SameAnswers setup pair lun (registers ∷ rest) (response ∷ responses) m =
    (response ≡ (served setup pair (message_of pair lun m.session.version registers) m).response)
    × Same (message_of pair lun m.session.version registers) (mediate setup registers m)
    (served setup pair (message_of pair lun m.session.version registers) m)
    × SameAnswers setup pair lun rest responses (mediate setup registers m).machine

abbrev pub AllOf16 : List (List ℕ) → Type 0
AllOf16 [] = Unit
AllOf16 (registers ∷ rest) = (length registers ≡ 16) × AllOf16 rest

-- the claim: through the port from every state of it, any list of commands leaves the session, both buffers and the map of the same list by mailbox, and the host
-- reads the same answers
abbrev pub KcsAsMailbox : Type 0
KcsAsMailbox =
    (setup : Setup) (pair : Pair) (lun turns : ℕ) (list : List (List ℕ)) (p : Port) (m : Machine) → lun < 4 → 16 < turns → AllOf16 list
    → ((exchanged_all setup pair lun turns list p m).machine ≡ called_all setup (send_all list) m)
    × SameAnswers setup pair lun list (exchanged_all setup pair lun turns list p m).got m
