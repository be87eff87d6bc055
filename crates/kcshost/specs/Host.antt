-- The published host: its transfers box by box. 001 has the summaries 9.16 to 9.18 and, in 9.15, the notes on the flow charts; the boxes between are those of the
-- charts themselves, figures 9-6 to 9-8 of IPMI 2.0, which 001's text leaves out. The host goes by what it sees in the status register alone: IBF before each write
-- (9.8, 9.9), OBF before each read (9.9), and the state where the charts ask for it.
use Rattle.std.specs.Prelude.{ℕ, zero, suc, ◌/◌, ◌%◌, Bool, cond, List, [], ◌∷◌, ◌++◌, eqb}
use Rattle.kcs.specs.Port.{Port}
use Rattle.kcs.specs.Accesses.{status_read, byte_read}
use Rattle.kcshost.specs.Runs.{Access, read_data, write_command, write_data, accessed}

-- ---- what the host sees in the status register (001, 9.7)

-- bits 7 and 6: idle 0, read 1, write 2, error 3
abbrev pub state_seen : ℕ → ℕ
state_seen status = status / 64

-- bit 1
abbrev pub ibf_seen : ℕ → Bool
ibf_seen status = eqb (status / 2 % 2) 1

-- bit 0
abbrev pub obf_seen : ℕ → Bool
obf_seen status = eqb (status % 2) 1

-- ---- how far the host has come

-- it is on its way, or at the chart's end, or at its error exit, or at a wait that nothing of its own can end
pub data Met : Type 0 where
  goes ends error_exit waits : Met

-- the port as the host has left it, its accesses so far, status reads left out, and the bytes that it has read as data
pub record Transfer : Type 0 where
  pub port : Port
  pub made : List Access
  pub got : List ℕ
  pub met : Met

-- before its first access
abbrev pub begin : Port → Transfer
begin p = record { port = p; made = []; got = []; met = goes }

-- the host looks at the status register
abbrev pub seen : Transfer → ℕ
seen t = status_read t.port

-- ---- the boxes of the charts, each with what comes next

-- a chart, or the rest of one
abbrev pub Chart : Type 0
Chart = Transfer → Transfer

-- an exit
abbrev pub leaves : Met → Chart
leaves met t = record { port = t.port; made = t.made; got = t.got; met = met }

-- an access
abbrev pub does : Access → Chart → Chart
does access next t = next record { port = accessed access t.port; made = t.made ++ (access ∷ []); got = t.got; met = t.met }

-- "wait for IBF=0"
abbrev pub wait_ibf : Chart → Chart
wait_ibf next t = cond (ibf_seen (seen t)) (leaves waits t) (next t)

-- "Wait for OBF=1"
abbrev pub wait_obf : Chart → Chart
wait_obf next t = cond (obf_seen (seen t)) (next t) (leaves waits t)

-- a write: the registers "must only be written from the system side when the IBF flag is clear"
abbrev pub put : Access → Chart → Chart
put access next = wait_ibf (does access next)

-- "If OBF=1, Clear OBF by reading Data_Out register"
abbrev pub clear_obf : Chart → Chart
clear_obf next t = cond (obf_seen (seen t)) (does read_data next t) (next t)

-- "State should be ..": else the error exit
abbrev pub expect : ℕ → Chart → Chart
expect state next t = cond (eqb (state_seen (seen t)) state) (next t) (leaves error_exit t)

-- "READ_STATE", or not
abbrev pub if_reading : Chart → Chart → Chart
if_reading next other t = cond (eqb (state_seen (seen t)) 1) (next t) (other t)

-- a byte of data is read from Data_Out
abbrev pub receive : Chart → Chart
receive next t = next record { port = accessed read_data t.port; made = t.made ++ (read_data ∷ []); got = t.got ++ (byte_read t.port ∷ []); met = t.met }

-- ---- the charts

-- 9.16, figure 9-6, from WRITE_START on: "Write data bytes", and "Issue an 'WRITE_END' control code then the last data byte". There is no message of no bytes
abbrev pub write_bytes : List ℕ → Chart
write_bytes [] t = leaves error_exit t
write_bytes (last ∷ []) t =
    wait_ibf (expect 2 (clear_obf (put (write_command 0x62) (wait_ibf (expect 2 (clear_obf (put (write_data last) (leaves ends)))))))) t
write_bytes (byte ∷ more ∷ rest) t = wait_ibf (expect 2 (clear_obf (put (write_data byte) (λ u. write_bytes (more ∷ rest) u)))) t

-- the whole of it: OBF is cleared, and "Issue a 'WRITE_START' control code to the Command register"
abbrev pub write_transfer : List ℕ → Chart
write_transfer bytes = wait_ibf (clear_obf (put (write_command 0x61) (write_bytes bytes)))

-- IDLE_STATE, at the end of a read and of a recovery: "Read dummy data byte from DATA_OUT"
abbrev pub conclude : Chart
conclude = expect 0 (wait_obf (does read_data (leaves ends)))

-- 9.17, figure 9-7: "Read Data_Out when OBF set", "Issue READ command to request additional bytes", "If READ_STATE (after IBF = 0), repeat previous two steps". So
-- many turns at most
abbrev pub read_transfer : ℕ → Chart
read_transfer zero t = t
read_transfer (suc turns) t = wait_ibf (if_reading (wait_obf (receive (put (write_data 0x68) (λ u. read_transfer turns u)))) conclude) t

-- the same host where it stands at "wait for OBF=1", having seen READ_STATE before the controller answered
abbrev pub read_on : ℕ → Chart
read_on turns = wait_obf (receive (put (write_data 0x68) (read_transfer turns)))

-- 9.18, figure 9-8: "Conclude by writing READ to data register, wait for IBF=0. State should be IDLE"
abbrev pub receive_status : Chart
receive_status = wait_ibf (expect 1 (wait_obf (receive (put (write_data 0x68) (wait_ibf conclude)))))

-- "Write 00h to data register, wait for IBF=0. State should now be READ_STATE", "Wait for OBF=1. Read status from Data_Out"
abbrev pub request_status : Chart
request_status = wait_ibf (expect 2 (clear_obf (put (write_data 0x00) receive_status)))

-- "Issue a 'GET_STATUS/ABORT' control code to the Command register. Wait for IBF=0. State should be WRITE_STATE", "If OBF=1, Clear OBF"
abbrev pub recovery : Chart
recovery = put (write_command 0x60) request_status
