-- What each access does, by the numbers of the papers: 02, Ticket 3. The definitions of crates/kcs have these rules as a table; here they are claims about what is
-- seen. Proved in proofs/Registers.antt, Rows.antt and Lengths.antt.
use Rattle.std.specs.Prelude.{ℕ, ◌/◌, ◌%◌, ◌≤◌, ◌<◌, ◌≡◌, true, false, List, [], ◌∷◌, ◌⊎◌, eqb, length, get_or}
use Rattle.kcs.specs.Port.{Port, idle, writing, ending, awaiting, reading, aborting, failed, phase_of, fresh}
use Rattle.kcs.specs.Accesses.{status_read, byte_read, data_read, command_written, data_written, length_told, answers, answered}
use Rattle.kcshost.specs.Runs.{Step, stepped_all}
use Rattle.kcshost.specs.Host.{state_seen, obf_seen}

-- ---- the status register

-- "all status bits are 0 at first, IBF, SMS_ATN and OEM always": bits 1, 2, and 5 and 4
abbrev pub StatusBits : Type 0
StatusBits =
    (status_read fresh ≡ 0) × ((p : Port) → (status_read p / 2 % 2 ≡ 0) × (status_read p / 4 % 2 ≡ 0) × (status_read p / 16 % 4 ≡ 0))

-- C/D#, bit 3, follows every write, refused ones too, and no read and no answer
pub record CommandBit (p : Port) : Type 0 where
  pub command : (code : ℕ) → status_read (command_written code p) / 8 % 2 ≡ 1
  pub datum : (byte : ℕ) → status_read (data_written byte p) / 8 % 2 ≡ 0
  pub read : status_read (data_read p) / 8 % 2 ≡ status_read p / 8 % 2
  pub answer : (response : List ℕ) → status_read (answered response p) / 8 % 2 ≡ status_read p / 8 % 2

-- OBF: "a write that completes a message clears OBF, each other sets it"
pub record FullBit (p : Port) : Type 0 where
  pub command : (code : ℕ) → obf_seen (status_read (command_written code p)) ≡ true
  pub datum : (byte : ℕ) → obf_seen (status_read (data_written byte p)) ≡ eqb (length_told byte p) 0

abbrev pub WritesShow : Type 0
WritesShow = (p : Port) → CommandBit p × FullBit p

-- ---- the table: the state afterwards, the status that 60 tells then, and the byte that a read gets

abbrev pub Shows : (state fault byte : ℕ) → Port → Type 0
Shows state fault byte q = (state_seen (status_read q) ≡ state) × (q.control.fault ≡ fault) × (byte_read q ≡ byte)

-- "60 and 61 are taken in every state, 62 once in the write phase that 61 opens; any other command .. is a wrong code"
pub record CommandsTaken (p : Port) : Type 0 where
  pub sixty : Shows 2 p.control.fault 0x00 (command_written 0x60 p)
  pub sixty_one : Shows 2 0x01 0x00 (command_written 0x61 p)
  pub sixty_two : phase_of p.control.phase ≡ writing → Shows 2 p.control.fault 0x00 (command_written 0x62 p)
  pub sixty_two_elsewhere : (phase_of p.control.phase ≡ writing → ⊥) → Shows 3 0x02 0x00 (command_written 0x62 p)
  pub others : (code : ℕ) → (code ≡ 0x60 → ⊥) → (code ≡ 0x61 → ⊥) → (code ≡ 0x62 → ⊥) → Shows 3 0x02 0x00 (command_written code p)

-- the bytes of a message are taken, "64 bytes" at most; after 60 only 00, which gets the status; while reading only 68, which gets the next byte or ends in idle; "data
-- while a response is awaited, and data the published flow doesn't write there, is a wrong code, OBF aside": nothing here asks for OBF
pub record DataTaken (byte : ℕ) (p : Port) : Type 0 where
  pub kept : phase_of p.control.phase ≡ writing → p.control.length < 64 → Shows 2 p.control.fault 0x00 (data_written byte p)
  pub long : phase_of p.control.phase ≡ writing → 64 ≤ p.control.length → Shows 3 0x06 0x00 (data_written byte p)
  pub last : phase_of p.control.phase ≡ ending → p.control.length < 64 → Shows 1 p.control.fault 0x00 (data_written byte p)
  pub last_long : phase_of p.control.phase ≡ ending → 64 ≤ p.control.length → Shows 3 0x06 0x00 (data_written byte p)
  pub asked : phase_of p.control.phase ≡ aborting → byte ≡ 0x00 → Shows 1 p.control.fault p.control.fault (data_written byte p)
  pub not_asked : phase_of p.control.phase ≡ aborting → (byte ≡ 0x00 → ⊥) → Shows 3 0x02 0x00 (data_written byte p)
  pub next
      : phase_of p.control.phase ≡ reading → byte ≡ 0x68 → p.control.next < p.control.end → p.control.next < 64
      → Shows 1 p.control.fault (get_or p.response p.control.next 0) (data_written byte p)
  pub finished
      : phase_of p.control.phase ≡ reading → byte ≡ 0x68 → (p.control.end ≤ p.control.next) ⊎ (64 ≤ p.control.next) → Shows 0 0x00 0x00 (data_written byte p)
  pub not_read : phase_of p.control.phase ≡ reading → (byte ≡ 0x68 → ⊥) → Shows 3 0x02 0x00 (data_written byte p)
  pub in_idle : phase_of p.control.phase ≡ idle → Shows 3 0x02 0x00 (data_written byte p)
  pub in_awaiting : phase_of p.control.phase ≡ awaiting → Shows 3 0x02 0x00 (data_written byte p)
  pub in_error : phase_of p.control.phase ≡ failed → Shows 3 0x02 0x00 (data_written byte p)

-- a response sets OBF on its first byte, "An empty response leads to idle with OBF set on 00"
pub record AnswerTaken (p : Port) : Type 0 where
  pub empty : (answers [] p ≡ true) × Shows 0 0x00 0x00 (answered [] p)
  pub some
      : (byte : ℕ) (rest : List ℕ) → length (byte ∷ rest) ≤ 64
      → (answers (byte ∷ rest) p ≡ true) × Shows 1 p.control.fault byte (answered (byte ∷ rest) p)

abbrev pub TakenAsSaid : Type 0
TakenAsSaid = (p : Port) → CommandsTaken p × ((byte : ℕ) → DataTaken byte p) × (phase_of p.control.phase ≡ awaiting → AnswerTaken p)

-- a read of Data_Out clears OBF, and leaves all else but Data_Out itself
pub record ReadClears (p : Port) : Type 0 where
  pub clear : obf_seen (status_read (data_read p)) ≡ false
  pub state : state_seen (status_read (data_read p)) ≡ state_seen (status_read p)
  pub phase : (data_read p).control.phase ≡ p.control.phase
  pub command : (data_read p).control.command ≡ p.control.command
  pub fault : (data_read p).control.fault ≡ p.control.fault
  pub length : (data_read p).control.length ≡ p.control.length
  pub next : (data_read p).control.next ≡ p.control.next
  pub end : (data_read p).control.end ≡ p.control.end
  pub request : (data_read p).request ≡ p.request
  pub response : (data_read p).response ≡ p.response

abbrev pub ReadAsSaid : Type 0
ReadAsSaid = (p : Port) → ReadClears p

-- ---- what the numbers of a record stand for, also those that no access leaves (decided)

-- a phase above 5 is the error phase, and shows ERROR_STATE; any number but 0 is a bit that is set
abbrev pub OtherNumbers : Type 0
OtherNumbers =
    (p : Port)
    → (5 < p.control.phase → (phase_of p.control.phase ≡ failed) × (state_seen (status_read p) ≡ 3))
    × ((p.control.command ≡ 0 → ⊥) → status_read p / 8 % 2 ≡ 1)
    × ((p.control.full ≡ 0 → ⊥) → obf_seen (status_read p) ≡ true)

-- ---- what changes nothing

-- "a read with OBF clear gives 00 and changes nothing"
abbrev pub ClearRead : Type 0
ClearRead = (p : Port) → obf_seen (status_read p) ≡ false → (byte_read p ≡ 0x00) × (data_read p ≡ p)

-- a response "over 64 bytes or not awaited is refused, changing nothing"
abbrev pub RefusedAnswer : Type 0
RefusedAnswer =
    (response : List ℕ) (p : Port) → (64 < length response) ⊎ (phase_of p.control.phase ≡ awaiting → ⊥) → (answers response p ≡ false) × (answered response p ≡ p)

-- ---- the buffers

-- a port's two buffers have 64 bytes each, and keep them: a record that C lends stands for such a port
abbrev pub Long : Port → Type 0
Long p = (length p.request ≡ 64) × (length p.response ≡ 64)

abbrev pub StaysLong : Type 0
StaysLong = (steps : List Step) (p : Port) → Long p → Long (stepped_all steps p)
