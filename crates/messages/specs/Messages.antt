-- Hiomap commands as messages: 000 and 002, "IPMI Transport", and document 02, Ticket 6. A message is taken or refused, unpacked to the registers of a mailbox
-- command, and answered from the registers that the mediator leaves.
use Rattle.std.specs.Prelude.{Option, None, Some, Result, Ok, Err, ℕ, ◌+◌, ◌-◌, ◌*◌, ◌/◌, ◌%◌, Bool, false, cond, not, ◌&&◌, ◌||◌, List, [], ◌∷◌, ◌++◌, eqb, ltb, length, get_or, take, drop, replicate}
use Rattle.buffers.specs.Ranges.{range, replace}
use Rattle.registers.specs.Registers.{command_of, sequence_of, padded}
use Rattle.messages.specs.declared.Pair.{Pair}
use Rattle.messages.specs.declared.Refusal.{Refusal}
use Rattle.messages.specs.declared.Refusal.TheVariants.{Short, Foreign, Malformed}
use Rattle.messages.specs.declared.Response.{Response}
use Rattle.messages.specs.Parameters.{Parameter, Row, row_of, bytes_in}

-- ---- a message: the network function in the high six bits of byte 0 with the LUN in the low two, the command, then 000's "wire command framing": the hiomap
-- command, its sequence number, and the parameters
abbrev pub network_function_of : List ℕ → ℕ
network_function_of message = get_or message 0 0 / 4

abbrev pub lun_of : List ℕ → ℕ
lun_of message = get_or message 0 0 % 4

abbrev pub ipmi_command_of : List ℕ → ℕ
ipmi_command_of message = get_or message 1 0

abbrev pub hiomap_command_of : List ℕ → ℕ
hiomap_command_of message = get_or message 2 0

abbrev pub number_of : List ℕ → ℕ
number_of message = get_or message 3 0

abbrev pub parameters_of : List ℕ → List ℕ
parameters_of message = drop 4 message

-- ---- "Refusals, in order"

-- "check network function and command against the board's pair"; the LUN is unchecked
abbrev pub is_own : Pair → List ℕ → Bool
is_own pair message = eqb (network_function_of message) pair.netfn && eqb (ipmi_command_of message) pair.command

-- "a wrong length for a known command at its version"; "A command unknown at the version goes to the mediator at any length"
abbrev pub wrong_length : Option Row → ℕ → Bool
wrong_length None count = false
wrong_length (Some r) count = not (eqb count (bytes_in r.request))

-- "under four bytes, or a wrong length"
abbrev pub malformed : ℕ → List ℕ → Bool
malformed version message = ltb (length message) 4 || wrong_length (row_of (hiomap_command_of message) version) (length message - 4)

-- what becomes of a message: it is a command for the mediator, or it is refused
abbrev pub Taken : Type 0
Taken = Result Unit Refusal

-- no check refuses it
pattern abbrev pub Command : Taken
Command = Ok tt

-- "under two bytes, the empty response; foreign pair, C1 hex; under four bytes, or a wrong length .., C7 hex"; otherwise it is a command for the mediator
unfoldable pub taken_as : Pair → ℕ → List ℕ → Taken
taken_as pair version message =
    cond (ltb (length message) 2) (Err Short)
    (cond (not (is_own pair message)) (Err Foreign)
    (cond (malformed version message) (Err Malformed) Command))

-- ---- "unpack the hiomap command as the I columns of 000 and 002 say"

-- each parameter goes from its I offset to its M offset
abbrev pub unpacked : List Parameter → List ℕ → List ℕ → List ℕ
unpacked [] given arguments = arguments
unpacked (p ∷ ps) given arguments = unpacked ps given (replace p.mailbox (range p.message p.size given) arguments)

-- the 11 arguments, zero where no parameter stands; of an unknown command byte for byte, those past the eleventh dropped (house)
abbrev pub arguments_of : Option Row → List ℕ → List ℕ
arguments_of None given = padded given
arguments_of (Some r) given = unpacked r.request given (replicate 11 0)

-- the registers that the mediator gets: 13 to 15, which it only fills or hands back, are zero (house)
abbrev pub registers_of : ℕ → List ℕ → List ℕ
registers_of version message =
    hiomap_command_of message
    ∷ number_of message
    ∷ (arguments_of (row_of (hiomap_command_of message) version) (parameters_of message) ++ (0 ∷ 0 ∷ 0 ∷ []))

-- a message that is refused has none
abbrev pub opened_as : Taken → ℕ → List ℕ → Result (List ℕ) Refusal
opened_as Command version message = Ok (registers_of version message)
opened_as (Err refused) version message = Err refused

-- whether a message is taken, and its registers
abbrev pub opened : Pair → ℕ → List ℕ → Result (List ℕ) Refusal
opened pair version message = opened_as (taken_as pair version message) version message

-- ---- "pack the response with the network function made odd and the request's LUN, unchecked"

abbrev pub made_odd : ℕ → ℕ
made_odd n = n + (1 - n % 2)

-- its first three bytes: the request's network function made odd, with its LUN, its command, and the completion code
abbrev pub headed : List ℕ → ℕ → List ℕ
headed message completion = (made_odd (network_function_of message) * 4 + lun_of message) ∷ ipmi_command_of message ∷ completion ∷ []

-- a refusal, by its completion code; "under two bytes, the empty response"
abbrev pub refusal : Refusal → List ℕ → List ℕ
refusal Short message = []
refusal Foreign message = headed message 0xc1
refusal Malformed message = headed message 0xc7

-- what is answered by what became of a message. A message that is taken has no refusal: it is never asked for (house)
abbrev pub refusal_for : Taken → List ℕ → List ℕ
refusal_for Command message = []
refusal_for (Err refused) message = refusal refused message

-- each parameter goes from its M offset to its I offset
abbrev pub packed : List Parameter → List ℕ → List ℕ → List ℕ
packed [] arguments given = given
packed (p ∷ ps) arguments given = packed ps arguments (replace p.message (range p.mailbox p.size arguments) given)

-- the bytes of these parameters, from the registers
abbrev pub packed_from : List Parameter → List ℕ → List ℕ
packed_from ps registers = packed ps (range 2 11 registers) (replicate (bytes_in ps) 0)

-- those of a response, by its row; a command that the version does not know has none
abbrev pub values_of : Option Row → List ℕ → List ℕ
values_of None registers = []
values_of (Some r) registers = packed_from r.response registers

-- "13 the response" (01)
abbrev pub status_of : List ℕ → ℕ
status_of registers = get_or registers 13 0

-- "any other status s becomes 80 hex + s (house)"; of a content of register 13 that no mediator leaves, from 80 hex on, the low byte of that (house)
abbrev pub completion_of : ℕ → ℕ
completion_of s = (0x80 + s) % 256

-- the response, from the version and the registers after the command. "Status 1 becomes completion code 00", and behind it stand the hiomap command, its
-- sequence number and the response's parameters at their I offsets; any other status has "three bytes"
unfoldable pub response_of : ℕ → List ℕ → List ℕ → List ℕ
response_of version message registers =
    cond (eqb (status_of registers) 1)
    (headed message 0x00 ++ (command_of registers ∷ sequence_of registers ∷ values_of (row_of (command_of registers) version) registers))
    (headed message (completion_of (status_of registers)))

-- ---- a response as the code has it: its bytes at the front of 16, zero behind them, and how many they are
abbrev pub laid : List ℕ → Response
laid response = record { bytes = take 16 (response ++ replicate 16 0); length = length response }
