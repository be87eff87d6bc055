-- Each access of the host, and the controller's answer: what it leaves of the port, and what it gives. 001, 9.5 to 9.9; 02, Ticket 3.
use Rattle.std.specs.Prelude.{ℕ, Bool, cond, ◌&&◌, List, [], ◌∷◌, eqb, leb, length, get_or, take, Option}
use Rattle.buffers.specs.Ranges.{replace}
use Rattle.kcs.specs.Port.{Control, Port, idle, awaiting, reading, phase_of, number_of, is_set, status_of}
use Rattle.kcs.specs.Effects.{Effect, on_command, has_next, data_effect, left, is_kept, told_length, told_message, showing, with_command, with_fault, with_place}

-- the port with other controls
abbrev pub with_control : Control → Port → Port
with_control c p = record { control = c; request = p.request; response = p.response }

-- ---- the host reads

-- the status register; nothing changes
abbrev pub status_read : Port → ℕ
status_read p = status_of p.control

-- Data_Out: "a read with OBF clear gives 00"
abbrev pub output_of : Control → ℕ
output_of c = cond (is_set c.full) c.output 0x00

abbrev pub byte_read : Port → ℕ
byte_read p = output_of p.control

-- a read clears OBF (001, 9.18: "Clear OBF by reading Data_Out register"); where it is clear, this "changes nothing"
abbrev pub after_read : Control → Control
after_read c =
    record { phase = c.phase; command = c.command; full = 0; output = c.output; fault = c.fault; length = c.length; next = c.next; end = c.end }

abbrev pub data_read : Port → Port
data_read p = with_control (after_read p.control) p

-- ---- the host writes

-- a control code, to the command register: C/D# is 1, also where it is refused
abbrev pub after_command : ℕ → Control → Control
after_command code c = left (on_command (phase_of c.phase) code) 0x00 (with_command 1 c)

abbrev pub command_written : ℕ → Port → Port
command_written code p = with_control (after_command code p.control) p

-- the response's next byte, if it has one more
abbrev pub next_byte : Port → ℕ
next_byte p = cond (has_next p.control) (get_or p.response p.control.next 0) 0x00

-- what an effect of a data byte leaves: a byte that is kept stands behind those before it
abbrev pub effected : Effect → (given byte : ℕ) → Port → Port
effected effect given byte p =
    record {
      control = left effect given p.control;
      request = cond (is_kept effect) (replace p.control.length (byte ∷ []) p.request) p.request;
      response = p.response;
    }

-- a data byte, to Data_In: C/D# is 0, also where it is refused
abbrev pub data_written : ℕ → Port → Port
data_written byte p = effected (data_effect byte p.control) (next_byte p) byte (with_control (with_command 0 p.control) p)

-- the caller is told the length of the message that this write completes, else 0
abbrev pub length_told : ℕ → Port → ℕ
length_told byte p = told_length (data_effect byte p.control) p.control

abbrev pub message_told : ℕ → Port → Option ℕ
message_told byte p = told_message (data_effect byte p.control) p.control

-- the message: so many bytes from the front of the request
abbrev pub message : ℕ → Port → List ℕ
message n p = take n p.request

-- ---- the controller answers

-- whether a response of this length is taken: "one over 64 bytes or not awaited is refused"
abbrev pub is_taken : ℕ → Control → Bool
is_taken n c = leb n 64 && eqb c.phase (number_of awaiting)

abbrev pub answers : List ℕ → Port → Bool
answers response p = is_taken (length response) p.control

-- OBF is set on the first byte; "An empty response leads to idle with OBF set on 00", and what 60 tells is 00 "since idle". No response changes C/D#
abbrev pub after_answer : (length first : ℕ) → Control → Control
after_answer n first c = cond (eqb n 0) (showing idle 0x00 (with_fault 0x00 c)) (showing reading first (with_place 1 n c))

-- a refused one is "changing nothing"
abbrev pub answered : List ℕ → Port → Port
answered response p =
    cond
    (answers response p)
    (record {
      control = after_answer (length response) (get_or response 0 0) p.control;
      request = p.request;
      response = replace 0 response p.response;
    })
    p
