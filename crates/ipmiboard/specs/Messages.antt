-- What a message leaves, over the record that C keeps: document 02, Ticket 6.
use Rattle.std.specs.Prelude.{◌≡◌, ℕ, ◌-◌, ◌≤◌, true, false, Err, List, ◌++◌, length, replicate}
use Rattle.session.specs.Machine.{Setup, lent}
use Rattle.messages.specs.declared.Pair.{Pair}
use Rattle.messages.specs.declared.Refusal.{Refusal}
use Rattle.messages.specs.declared.Refusal.TheVariants.{Short, Foreign, Malformed}
use Rattle.messages.specs.declared.Response.{Response}
use Rattle.messages.specs.Messages.{Taken, Command, taken_as, registers_of, headed, refusal, response_of, laid}
use Rattle.ipmi.specs.Served.{served}
use Rattle.ipmiboard.specs.declared.MessageReply.{MessageReply}
use Rattle.board.specs.declared.Record.{Record}
use Rattle.ipmiboard.specs.declared.message.ServedMessage.{ServedMessage}
use Rattle.board.specs.Calls.{Left, commanded}
use Rattle.board.specs.Record.{is_regular, session_of, record_of}

-- a response and a number of chip actions, as C has them
abbrev pub reply_of : Response → ℕ → MessageReply
reply_of response actions = record { response = response.bytes; length = response.length; actions = actions }

-- what a message leaves: the record, what it gives back, and both buffers; the map of worn blocks is only read
pub record Messaged : Type 0 where
  pub held : Record
  pub reply : MessageReply
  pub flash : List ℕ
  pub memory : List ℕ

abbrev pub tells_message : ServedMessage → List ℕ → List ℕ → Messaged
tells_message r flash memory = record { held = r.held; reply = r.reply; flash = flash; memory = memory }

-- a refusal: "none touches session or buffers"
abbrev pub untouched_record : Response → Record → List ℕ → List ℕ → Messaged
untouched_record response h flash memory = record { held = h; reply = reply_of response 0; flash = flash; memory = memory }

-- a command, its answer packed at the version after it
abbrev pub mediated_record : List ℕ → Left → Messaged
mediated_record message l =
    record {
      held = l.held;
      reply = reply_of (laid (response_of l.held.version message l.registers)) l.actions;
      flash = l.flash;
      memory = l.memory;
    }

-- a message, by what became of it
abbrev pub messaged_as : Taken → Setup → List ℕ → Record → List ℕ → List ℕ → List ℕ → Messaged
messaged_as (Err Short) setup message h flash worn memory = untouched_record (laid (refusal Short message)) h flash memory
messaged_as (Err Foreign) setup message h flash worn memory = untouched_record (laid (refusal Foreign message)) h flash memory
messaged_as (Err Malformed) setup message h flash worn memory = untouched_record (laid (refusal Malformed message)) h flash memory
messaged_as Command setup message h flash worn memory =
    mediated_record message (commanded setup h (registers_of h.version message) flash worn memory)

-- a message is looked at by the record's version, whatever its other numbers; a record with a number that stands for nothing is SYSTEM_ERROR then (house)
unfoldable pub messaged_record : Setup → Pair → List ℕ → Record → List ℕ → List ℕ → List ℕ → Messaged
messaged_record setup pair message h flash worn memory = messaged_as (taken_as pair h.version message) setup message h flash worn memory

-- ---- beside the session. Proved in proofs/Messaging.antt

-- a reply has this response, zero behind it, its length, and this number of chip actions
pub record Tells (response : List ℕ) (actions : ℕ) (reply : MessageReply) : Type 0 where
  pub bytes : reply.response ≡ response ++ replicate (16 - length response) 0
  pub long : reply.length ≡ length response
  pub few : reply.length ≤ 16
  pub acted : reply.actions ≡ actions

-- what a message leaves of a regular record stands for what it leaves of the session that the record stands for, with the same response, chip actions and
-- buffers; and the record stays regular
abbrev pub MessageFollows : Type 0
MessageFollows =
    (setup : Setup) (pair : Pair) (message : List ℕ) (h : Record) (flash worn memory : List ℕ) → is_regular h ≡ true
    → (let o = messaged_record setup pair message h flash worn memory in
    let s = served setup pair message (lent (session_of h) flash worn memory) in
    (o.held ≡ record_of h.previous s.machine.session)
    × Tells s.response s.actions o.reply
    × (o.flash ≡ s.machine.flash)
    × (o.memory ≡ s.machine.memory)
    × (is_regular o.held ≡ true))

-- a record with a number that stands for nothing stays exactly as it is, and so do both buffers; a message that is taken is SYSTEM_ERROR, 84 hex in three
-- bytes, and any other is refused as for every record
abbrev pub MessageIrregular : Type 0
MessageIrregular =
    (setup : Setup) (pair : Pair) (message : List ℕ) (h : Record) (flash worn memory : List ℕ) → is_regular h ≡ false
    → (let o = messaged_record setup pair message h flash worn memory in
    (o.held ≡ h)
    × (o.flash ≡ flash)
    × (o.memory ≡ memory)
    × (taken_as pair h.version message ≡ Command → Tells (headed message 0x84) 0 o.reply)
    × ((refused : Refusal) → taken_as pair h.version message ≡ Err refused → Tells (refusal refused message) 0 o.reply))
