-- What a port has of its history, over any list of accesses and answers: which messages it hands over and whether an answer is awaited, said by the list itself; how long a
-- message stays, and in which order a response is shown; and the status that 60 tells, by the errors and idle states that the port shows on the way (which these are is
-- `TakenAsSaid`, Rows.antt). 02, Ticket 3. Proved in proofs/Messages.antt, Staying.antt, Shown.antt and Naming.antt.
use Rattle.std.specs.Prelude.{ℕ, suc, ◌≤◌, ◌<◌, ◌≡◌, Bool, true, false, cond, not, ◌&&◌, List, [], ◌∷◌, ◌++◌, eqb, ltb, leb, length, get_or}
use Rattle.kcs.specs.Port.{Port, Phase, idle, writing, ending, awaiting, reading, aborting, failed, phase_of}
use Rattle.kcs.specs.Accesses.{status_read, byte_read, command_written, data_written, answers, answered}
use Rattle.kcshost.specs.Runs.{Access, read_status, read_data, write_command, write_data, accessed_all, Step, access, answer, stepped, stepped_all, handed_in}
use Rattle.kcshost.specs.Host.{state_seen}

-- ---- the message, of any host: what is handed over is what its writes alone tell

-- how far a message has come: there is none, its bytes so far in the write phase that 61 opens, and those after 62; and then "a response is awaited"
pub data Request : Type 0 where
  none : Request
  opened closing : List ℕ → Request
  awaited : Request

-- "62 once in the write phase that 61 opens"
abbrev pub closed : Request → Request
closed none = none
closed (opened bytes) = closing bytes
closed (closing bytes) = none
closed awaited = none

-- a byte more, of "64 bytes" at most; after 62 it is the last
abbrev pub added : ℕ → Request → Request
added byte none = none
added byte (opened bytes) = cond (ltb (length bytes) 64) (opened (bytes ++ (byte ∷ []))) none
added byte (closing bytes) = cond (ltb (length bytes) 64) awaited none
added byte awaited = none

-- an answer; "one over 64 bytes .. is refused, changing nothing"
abbrev pub replied : List ℕ → Request → Request
replied response none = none
replied response (opened bytes) = opened bytes
replied response (closing bytes) = closing bytes
replied response awaited = cond (leb (length response) 64) none awaited

-- a step: any other command ends the phase, and no read touches it
abbrev pub request_after : Step → Request → Request
request_after (access read_status) r = r
request_after (access read_data) r = r
request_after (access (write_command code)) r = cond (eqb code 0x61) (opened []) (cond (eqb code 0x62) (closed r) none)
request_after (access (write_data byte)) r = added byte r
request_after (answer response) r = replied response r

-- "A message is handed over with its last byte"
abbrev pub completed : ℕ → Request → List (List ℕ)
completed byte none = []
completed byte (opened bytes) = []
completed byte (closing bytes) = cond (ltb (length bytes) 64) ((bytes ++ (byte ∷ [])) ∷ []) []
completed byte awaited = []

abbrev pub message_of : Step → Request → List (List ℕ)
message_of (access read_status) r = []
message_of (access read_data) r = []
message_of (access (write_command code)) r = []
message_of (access (write_data byte)) r = completed byte r
message_of (answer response) r = []

abbrev pub messages_of : List Step → Request → List (List ℕ)
messages_of [] r = []
messages_of (step ∷ rest) r = message_of step r ++ messages_of rest (request_after step r)

-- and how far it has come after all of them
abbrev pub requests_after : List Step → Request → Request
requests_after [] r = r
requests_after (step ∷ rest) r = requests_after rest (request_after step r)

abbrev pub is_awaited : Request → Bool
is_awaited none = false
is_awaited (opened bytes) = false
is_awaited (closing bytes) = false
is_awaited awaited = true

-- a port with no message under way, as a fresh one
pub record Outside (p : Port) : Type 0 where
  pub not_writing : phase_of p.control.phase ≡ writing → ⊥
  pub not_ending : phase_of p.control.phase ≡ ending → ⊥
  pub not_awaiting : phase_of p.control.phase ≡ awaiting → ⊥

-- it hands over, in any steps, exactly the messages that the steps tell, in their order
abbrev pub MessagesExact : Type 0
MessagesExact = (steps : List Step) (p : Port) → Outside p → handed_in steps p ≡ messages_of steps none

-- and then takes an answer exactly if they tell that one is awaited, and it has 64 bytes at most
abbrev pub AnswersExact : Type 0
AnswersExact =
    (steps : List Step) (response : List ℕ) (p : Port) → Outside p
    → answers response (stepped_all steps p) ≡ (is_awaited (requests_after steps none) && leb (length response) 64)

-- ---- the message stays in the record until the next 61

abbrev pub is_start : Step → Bool
is_start (access read_status) = false
is_start (access read_data) = false
is_start (access (write_command code)) = eqb code 0x61
is_start (access (write_data byte)) = false
is_start (answer response) = false

abbrev pub no_start : List Step → Bool
no_start [] = true
no_start (step ∷ rest) = not (is_start step) && no_start rest

-- of a port outside a write phase, as it is when the message was handed over
abbrev pub MessageStays : Type 0
MessageStays =
    (steps : List Step) (p : Port) → (phase_of p.control.phase ≡ writing → ⊥) → (phase_of p.control.phase ≡ ending → ⊥) → no_start steps ≡ true
    → (stepped_all steps p).request ≡ p.request

-- ---- a response is shown byte by byte, read or not: "OBF aside"

-- reads and READs alone, and how many READs there are
abbrev pub only_reads : List Access → Bool
only_reads [] = true
only_reads (read_status ∷ rest) = only_reads rest
only_reads (read_data ∷ rest) = only_reads rest
only_reads (write_command code ∷ rest) = false
only_reads (write_data byte ∷ rest) = eqb byte 0x68 && only_reads rest

abbrev pub reads_of : List Access → ℕ
reads_of [] = 0
reads_of (read_status ∷ rest) = reads_of rest
reads_of (read_data ∷ rest) = reads_of rest
reads_of (write_command code ∷ rest) = reads_of rest
reads_of (write_data byte ∷ rest) = suc (reads_of rest)

-- after k READs one more shows byte k + 1, from 0, and after the last byte leads to idle, with 00
abbrev pub ShownInOrder : Type 0
ShownInOrder =
    (response : List ℕ) (accesses : List Access) (p : Port) → phase_of p.control.phase ≡ awaiting → length response ≤ 64 → only_reads accesses ≡ true
    → reads_of accesses < length response
    → (byte_read (data_written 0x68 (accessed_all accesses (answered response p))) ≡ get_or response (suc (reads_of accesses)) 0x00)
    × (state_seen (status_read (data_written 0x68 (accessed_all accesses (answered response p)))) ≡ cond (ltb (suc (reads_of accesses)) (length response)) 1 0)

-- ---- "reads the status that the rules name": over any list of accesses and answers

-- what a step is for that status
pub data Mark : Type 0 where
  -- an error, with its status
  fault : ℕ → Mark
  -- 61, and idle
  began rested : Mark
  -- neither
  passed : Mark

-- a write: it is an error where ERROR_STATE follows, "a wrong code (02), then a request beyond 64 bytes (06)", the second of a data byte in the write phase that 61
-- opens; else it is 61, or idle follows, or neither
abbrev pub of_write : (is_start : Bool) (status state : ℕ) → Mark
of_write is_start status state = cond (eqb state 3) (fault status) (cond is_start began (cond (eqb state 0) rested passed))

-- data in the write phase that 61 opens is no wrong code (`DataTaken`, Rows.antt)
abbrev pub data_fault : Phase → ℕ
data_fault writing = 0x06
data_fault ending = 0x06
data_fault idle = 0x02
data_fault awaiting = 0x02
data_fault reading = 0x02
data_fault aborting = 0x02
data_fault failed = 0x02

abbrev pub mark_of : Step → Port → Mark
mark_of (access read_status) p = passed
mark_of (access read_data) p = passed
mark_of (access (write_command code)) p = of_write (eqb code 0x61) 0x02 (state_seen (status_read (command_written code p)))
mark_of (access (write_data byte)) p = of_write false (data_fault (phase_of p.control.phase)) (state_seen (status_read (data_written byte p)))
mark_of (answer []) p = cond (answers [] p) rested passed
mark_of (answer (byte ∷ rest)) p = passed

-- the marks of a list of steps, the newest first, before older ones
abbrev pub marks_of : List Step → Port → List Mark → List Mark
marks_of [] p older = older
marks_of (step ∷ rest) p older = marks_of rest (stepped step p) (mark_of step p ∷ older)

-- "its status that of the last error since idle or 61, otherwise 01 if 61 came since idle, else 00": back from the newest; before all of them it is the port's own
abbrev pub named : ℕ → List Mark → ℕ
named first [] = first
named first (fault status ∷ older) = status
named first (began ∷ older) = 0x01
named first (rested ∷ older) = 0x00
named first (passed ∷ older) = named first older

-- so the status that a port keeps is the named one, after any steps from any port. Of a record that no access leaves it is what stands there, also in idle
abbrev pub StatusNamed : Type 0
StatusNamed = (steps : List Step) (p : Port) → (stepped_all steps p).control.fault ≡ named p.control.fault (marks_of steps p [])
