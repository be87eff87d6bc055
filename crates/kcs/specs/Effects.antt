-- The table of writes: in this phase, this write, what happens; and what each effect leaves. 02, Ticket 3, "House".
use Rattle.std.specs.Prelude.{ℕ, ◌+◌, Bool, true, false, cond, ◌&&◌, eqb, ltb, Option, Some, None}
use Rattle.kcs.specs.Port.{Control, Phase, idle, writing, ending, awaiting, reading, aborting, failed, phase_of, number_of}

-- what a write does
pub data Effect : Type 0 where
  -- 61 opens a write phase, 62 closes it (one data byte is left), 60 gives the transfer up
  Opens Closes Aborts : Effect
  -- a byte of the request is kept, and the last one, which completes the message
  Keeps Completes : Effect
  -- the status is put out; the response's next byte is; all was read, and the port is idle
  Tells Continues Finishes : Effect
  -- "Refusals: a wrong code (02), then a request beyond 64 bytes (06)"
  WrongCode TooLong : Effect

-- ---- the table

-- WRITE_END: "62 once in the write phase that 61 opens"
abbrev pub on_end : Phase → Effect
on_end writing = Closes
on_end idle = WrongCode
on_end ending = WrongCode
on_end awaiting = WrongCode
on_end reading = WrongCode
on_end aborting = WrongCode
on_end failed = WrongCode

-- a command: "60 and 61 are taken in every state"; "any other command .. is a wrong code"
abbrev pub on_command : Phase → ℕ → Effect
on_command phase code = cond (eqb code 0x60) Aborts (cond (eqb code 0x61) Opens (cond (eqb code 0x62) (on_end phase) WrongCode))

-- data, by whether the request has room for a byte and whether the response has one more. The published flow writes a message's bytes in the write phase, 00 after
-- 60, and READ, 68, while it reads; "data while a response is awaited, and data the published flow doesn't write there, is a wrong code, OBF aside"
abbrev pub on_data : Phase → Bool → Bool → ℕ → Effect
on_data writing room more byte = cond room Keeps TooLong
on_data ending room more byte = cond room Completes TooLong
on_data aborting room more byte = cond (eqb byte 0x00) Tells WrongCode
on_data reading room more byte = cond (eqb byte 0x68) (cond more Continues Finishes) WrongCode
on_data idle room more byte = WrongCode
on_data awaiting room more byte = WrongCode
on_data failed room more byte = WrongCode

-- "a request beyond 64 bytes" has no room for this one
abbrev pub has_room : Control → Bool
has_room c = ltb c.length 64

-- whether the response has a byte more; a port has 64 at most
abbrev pub has_next : Control → Bool
has_next c = ltb c.next c.end && ltb c.next 64

-- a write of data to a port
abbrev pub data_effect : ℕ → Control → Effect
data_effect byte c = on_data (phase_of c.phase) (has_room c) (has_next c) byte

-- ---- what each effect leaves

-- OBF set on a byte of Data_Out, in this phase
abbrev pub shown : (phase byte : ℕ) → Control → Control
shown phase byte c =
    record { phase = phase; command = c.command; full = 1; output = byte; fault = c.fault; length = c.length; next = c.next; end = c.end }

abbrev pub showing : Phase → ℕ → Control → Control
showing phase = shown (number_of phase)

-- OBF clear, in this phase; nobody sees the byte behind it, which is 00 (decided)
abbrev pub clearing : Phase → Control → Control
clearing phase c =
    record { phase = number_of phase; command = c.command; full = 0; output = 0x00; fault = c.fault; length = c.length; next = c.next; end = c.end }

-- another C/D#, another status that 60 tells, another length of the request, another place in the response and another length of it
abbrev pub with_command : ℕ → Control → Control
with_command n c =
    record { phase = c.phase; command = n; full = c.full; output = c.output; fault = c.fault; length = c.length; next = c.next; end = c.end }

abbrev pub with_fault : ℕ → Control → Control
with_fault n c =
    record { phase = c.phase; command = c.command; full = c.full; output = c.output; fault = n; length = c.length; next = c.next; end = c.end }

abbrev pub with_length : ℕ → Control → Control
with_length n c =
    record { phase = c.phase; command = c.command; full = c.full; output = c.output; fault = c.fault; length = n; next = c.next; end = c.end }

abbrev pub with_place : ℕ → ℕ → Control → Control
with_place next end c =
    record { phase = c.phase; command = c.command; full = c.full; output = c.output; fault = c.fault; length = c.length; next = next; end = end }

-- row by row. After 00 the status is the only byte that is read: the response that may have been there is forgotten, so that 68 leads to idle. OBF: "a write
-- that completes a message clears OBF, each other sets it, with 00 where the standard names no byte": it names the status and the response's bytes, and here
-- the next one is given. The status that 60 tells: "that of the last error since idle or 61, otherwise 01 if 61 came since idle, else 00"; 60 itself forgets
-- nothing. "Refusals: a wrong code (02), then a request beyond 64 bytes (06), both the error state, with that status after 60"
abbrev pub left : Effect → (given : ℕ) → Control → Control
left Opens given c = showing writing 0x00 (with_fault 0x01 (with_length 0 c))
left Closes given c = showing ending 0x00 c
left Aborts given c = showing aborting 0x00 c
left Keeps given c = showing writing 0x00 (with_length (c.length + 1) c)
left Completes given c = clearing awaiting (with_length (c.length + 1) c)
left Tells given c = showing reading c.fault (with_place c.next 0 c)
left Continues given c = showing reading given (with_place (c.next + 1) c.end c)
left Finishes given c = showing idle 0x00 (with_fault 0x00 c)
left WrongCode given c = showing failed 0x00 (with_fault 0x02 c)
left TooLong given c = showing failed 0x00 (with_fault 0x06 c)

-- whether the byte is kept in the request: a message is "exactly the bytes of its write phase"
abbrev pub is_kept : Effect → Bool
is_kept Opens = false
is_kept Closes = false
is_kept Aborts = false
is_kept Keeps = true
is_kept Completes = true
is_kept Tells = false
is_kept Continues = false
is_kept Finishes = false
is_kept WrongCode = false
is_kept TooLong = false

-- whether it is the last: "A message is handed over with its last byte"
abbrev pub is_last : Effect → Bool
is_last Opens = false
is_last Closes = false
is_last Aborts = false
is_last Keeps = false
is_last Completes = true
is_last Tells = false
is_last Continues = false
is_last Finishes = false
is_last WrongCode = false
is_last TooLong = false

-- the length of the message that a write completes, and 0 with every other write
abbrev pub told_length : Effect → Control → ℕ
told_length effect c = cond (is_last effect) (c.length + 1) 0

-- the same as an option: none with every other write
abbrev pub told_message : Effect → Control → Option ℕ
told_message effect c = cond (is_last effect) (Some (c.length + 1)) None
