-- The event byte: document 01, "Session", and 02, Ticket 1.
use Rattle.std.specs.Prelude.{ℕ, ◌-◌, Bool, eqb}
use Rattle.std.specs.Int.Bits.{bit_and, bit_or}

-- "0x01 protocol reset, 0x02 window reset, 0x40 flash control lost"; the fourth, "0x80 daemon ready", stands in `fresh` alone
abbrev pub protocol_reset : ℕ
protocol_reset = 0x01

abbrev pub window_reset : ℕ
window_reset = 0x02

abbrev pub control_lost : ℕ
control_lost = 0x40

-- the event byte with the bits of a mask set, and with them cleared
abbrev pub set_bits : ℕ → ℕ → ℕ
set_bits mask events = bit_or events mask

abbrev pub clear_bits : ℕ → ℕ → ℕ
clear_bits mask events = bit_and events (0xff - mask)

-- whether a bit is set
abbrev pub is_set : ℕ → ℕ → Bool
is_set bit events = eqb (bit_and events bit) bit

-- "0x40 and 0x80 are conditions and not events: ACK clears only 0x01 and 0x02"
abbrev pub acknowledgeable : ℕ
acknowledgeable = bit_or protocol_reset window_reset

-- the event byte after an ACK: those of the two that are named are cleared, and every other bit of the byte stays
abbrev pub acknowledged : ℕ → ℕ → ℕ
acknowledged named events = clear_bits (bit_and named acknowledgeable) events
