-- What a message gets, with the ticket's own numbers and the bytes written out: document 02, Ticket 6. Proved in proofs/Answered.antt.
use Rattle.std.specs.Prelude.{ℕ, ◌+◌, ◌/◌, ◌%◌, ◌≤◌, ◌<◌, ◌≡◌, Bool, true, cond, ◌&&◌, ◌||◌, List, [], ◌∷◌, ◌++◌, eqb, leb, length, get_or, drop}
use Rattle.session.specs.Machine.{Setup, Machine}
use Rattle.buffers.specs.Ranges.{range}
use Rattle.registers.specs.Registers.{padded}
use Rattle.messages.specs.declared.Pair.{Pair}
use Rattle.mailbox.specs.Commands.{Outcome}
use Rattle.mailbox.specs.Mediator.{mediate}
use Rattle.invariants.specs.Codes.{knows, is_create}
use Rattle.ipmi.specs.Served.{Served, served}

-- ---- the numbers

-- how many parameter bytes a command has by message, read off 000 once more: GET_INFO (2) and ACK (9) one at every version; of versions 1 and 2 a create (4, 6)
-- two and four, CLOSE (5) none and one, MARK_DIRTY (7) six and four, FLUSH (8) six and none; ERASE (10) four; RESET and GET_FLASH_INFO none
abbrev pub parameter_bytes : ℕ → ℕ → ℕ
parameter_bytes version code =
    cond (eqb code 2 || eqb code 9) 1
    (cond (is_create code) (cond (eqb version 1) 2 4)
    (cond (eqb code 5) (cond (eqb version 1) 0 1)
    (cond (eqb code 7) (cond (eqb version 1) 6 4) (cond (eqb code 8) (cond (eqb version 1) 6 0) (cond (eqb code 10) 4 0)))))

-- and how many its response has, at the version after it: of versions 1 and 2 GET_INFO five and four, GET_FLASH_INFO (3) eight and four, a create two and
-- six; no other has one
abbrev pub response_bytes : ℕ → ℕ → ℕ
response_bytes version code =
    cond (eqb version 1) (cond (eqb code 2) 5 (cond (eqb code 3) 8 (cond (is_create code) 2 0)))
    (cond (eqb version 2) (cond (eqb code 2) 4 (cond (eqb code 3) 4 (cond (is_create code) 6 0))) 0)

-- those bytes, from the registers that the mediator leaves: the arguments from 0 on, but GET_INFO's of version 2 are arguments 0 and 5 to 7: "0 version, 5 the
-- shift 12, 6-7 T" (01)
abbrev pub said : ℕ → ℕ → List ℕ → List ℕ
said version code registers =
    cond (eqb code 2 && eqb version 2) (get_or registers 2 0 ∷ get_or registers 7 0 ∷ get_or registers 8 0 ∷ get_or registers 9 0 ∷ [])
    (range 2 (response_bytes version code) registers)

-- "a known command at its version"; a version above 2 does not exist, and knows none
abbrev pub known_at : ℕ → ℕ → Bool
known_at version code = leb version 2 && knows version code

-- "the board's pair": the network function is six bits above the LUN
abbrev pub Own : Pair → List ℕ → Type 0
Own pair message = (get_or message 0 0 / 4 ≡ pair.netfn) × (get_or message 1 0 ≡ pair.command)

-- ---- the answers

-- "the network function made odd and the request's LUN, unchecked", and its command: of byte 0 only the network function's lowest bit may differ
pub record Heads (message response : List ℕ) : Type 0 where
  pub function : get_or response 0 0 / 8 ≡ get_or message 0 0 / 8
  pub odd : get_or response 0 0 / 4 % 2 ≡ 1
  pub lun : get_or response 0 0 % 4 ≡ get_or message 0 0 % 4
  pub command : get_or response 1 0 ≡ get_or message 1 0

-- "in three bytes; none touches session or buffers"
pub record Refused (code : ℕ) (message : List ℕ) (m : Machine) (s : Served) : Type 0 where
  pub machine : s.machine ≡ m
  pub actions : s.actions ≡ 0
  pub heads : Heads message s.response
  pub three : length s.response ≡ 3
  pub completion : get_or s.response 2 0 ≡ code

-- "call the mediator": with the hiomap command, its number, and the parameter bytes as arguments, 11 at most and zero behind them
abbrev pub as_mailbox : List ℕ → List ℕ
as_mailbox message = get_or message 2 0 ∷ get_or message 3 0 ∷ (padded (drop 4 message) ++ (0 ∷ 0 ∷ 0 ∷ []))

-- "Status 1 becomes completion code 00; any other status s becomes 80 hex + s (house), in three bytes"; with 00 come the hiomap command, its number and the
-- response's parameters, of the version after the command
pub record Mediated (message : List ℕ) (o : Outcome) (s : Served) : Type 0 where
  pub machine : s.machine ≡ o.machine
  pub actions : s.actions ≡ o.actions
  pub heads : Heads message s.response
  pub success : get_or o.registers 13 0 ≡ 1
      → (get_or s.response 2 0 ≡ 0x00)
      × (get_or s.response 3 0 ≡ get_or message 2 0)
      × (get_or s.response 4 0 ≡ get_or message 3 0)
      × (drop 5 s.response ≡ said o.machine.session.version (get_or message 2 0) o.registers)
      × (5 ≤ length s.response)
  pub refused : (get_or o.registers 13 0 ≡ 1 → ⊥)
      → (length s.response ≡ 3) × (get_or s.response 2 0 ≡ 0x80 + get_or o.registers 13 0)

-- "Refusals, in order: under two bytes, the empty response; foreign pair, C1 hex; under four bytes, or a wrong length for a known command at its version, C7
-- hex"; "A command unknown at the version goes to the mediator at any length". Of every message, session, buffer and map of worn blocks, sound or not
abbrev pub AnsweredAsSaid : Type 0
AnsweredAsSaid =
    (setup : Setup) (pair : Pair) (message : List ℕ) (m : Machine)
    → (length message < 2 → served setup pair message m ≡ record { machine = m; response = []; actions = 0 })
    × (2 ≤ length message → (Own pair message → ⊥) → Refused 0xc1 message m (served setup pair message m))
    × (2 ≤ length message → Own pair message → length message < 4 → Refused 0xc7 message m (served setup pair message m))
    × (4 ≤ length message → Own pair message → known_at m.session.version (get_or message 2 0) ≡ true
    → (length message ≡ 4 + parameter_bytes m.session.version (get_or message 2 0) → ⊥) → Refused 0xc7 message m (served setup pair message m))
    × (4 ≤ length message → Own pair message
    → (known_at m.session.version (get_or message 2 0) ≡ true → length message ≡ 4 + parameter_bytes m.session.version (get_or message 2 0))
    → Mediated message (mediate setup (as_mailbox message) m) (served setup pair message m))
