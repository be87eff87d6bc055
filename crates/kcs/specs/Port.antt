-- A KCS port: its phases with their state bits, and the status register. 001 (IPMI, section 9), 9.5 and 9.7; 02, Ticket 3, "House". Codes and bits are hex.
use Rattle.std.specs.Prelude.{ℕ, ◌+◌, ◌*◌, Bool, cond, not, List, eqb, replicate}

-- all of a port but its two buffers
pub record Control : Type 0 where
  -- the number of the phase
  pub phase : ℕ
  -- the status bits C/D# and OBF
  pub command : ℕ
  pub full : ℕ
  -- Data_Out: the byte that a read gets while OBF is set
  pub output : ℕ
  -- the status that a GET_STATUS/ABORT tells
  pub fault : ℕ
  -- how many bytes of the request there are
  pub length : ℕ
  -- which byte of the response is the next, and how many it has
  pub next : ℕ
  pub end : ℕ

-- a port: its controls and its two buffers
pub record Port : Type 0 where
  pub control : Control
  pub request : List ℕ
  pub response : List ℕ

-- the phases
pub data Phase : Type 0 where
  -- "Interface is idle"
  idle : Phase
  -- "the write phase that 61 opens": before 62, where it is taken once, and after it
  writing ending : Phase
  -- the message was handed over, and "a response is awaited"
  awaiting : Phase
  -- a response is read, or the status that 60 asks for
  reading : Phase
  -- 60 was taken, and the host's 00 is awaited
  aborting : Phase
  -- "the error state"
  failed : Phase

-- the phase of a number in the record: "Every host access in every state has one outcome", and a number that no access leaves is the error phase (decided)
abbrev pub phase_of : ℕ → Phase
phase_of n =
    cond (eqb n 0) idle (cond (eqb n 1) writing (cond (eqb n 2) ending (cond (eqb n 3) awaiting (cond (eqb n 4) reading (cond (eqb n 5) aborting failed)))))

-- the number of each
abbrev pub number_of : Phase → ℕ
number_of idle = 0
number_of writing = 1
number_of ending = 2
number_of awaiting = 3
number_of reading = 4
number_of aborting = 5
number_of failed = 6

-- "Bits 7:6 are state bits": idle 0, read 1, write 2, error 3. "60 leads to the write state", and while a response is awaited the state is READ
abbrev pub state_bits : Phase → ℕ
state_bits idle = 0
state_bits reading = 1
state_bits awaiting = 1
state_bits writing = 2
state_bits ending = 2
state_bits aborting = 2
state_bits failed = 3

-- a number that stands for a bit: 0 clear, any other set (decided)
abbrev pub is_set : ℕ → Bool
is_set n = not (eqb n 0)

-- the status register: state in bits 7 and 6, C/D# in bit 3, OBF in bit 0. "IBF, SMS_ATN and OEM always" 0: bits 1, 2, 5 and 4
abbrev pub register : Phase → Bool → Bool → ℕ
register phase command full = state_bits phase * 64 + (cond command 8 0 + cond full 1 0)

abbrev pub status_of : Control → ℕ
status_of c = register (phase_of c.phase) (is_set c.command) (is_set c.full)

-- a fresh port: "all status bits are 0 at first", and nothing came since idle
abbrev pub fresh_control : Control
fresh_control = record { phase = 0; command = 0; full = 0; output = 0; fault = 0; length = 0; next = 0; end = 0 }

unfoldable pub fresh : Port
fresh = record { control = fresh_control; request = replicate 64 0; response = replicate 64 0 }
