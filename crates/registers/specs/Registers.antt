-- The 16 registers: document 01, "Registers".
use Rattle.std.specs.Prelude.{ℕ, zero, suc, ◌+◌, ◌*◌, ◌/◌, ◌%◌, List, [], ◌∷◌, ◌++◌, get_or, take, replicate}

-- "0 command, 1 sequence, 2 to 12 arguments (argument 0 is byte 2)"
abbrev pub command_of : List ℕ → ℕ
command_of registers = get_or registers 0 0

abbrev pub sequence_of : List ℕ → ℕ
sequence_of registers = get_or registers 1 0

abbrev pub argument : ℕ → List ℕ → ℕ
argument i registers = get_or registers (2 + i) 0

-- "All multi-byte quantities are little-endian": the number of so many bytes from argument i on
abbrev pub number : ℕ → ℕ → List ℕ → ℕ
number zero i registers = 0
number (suc width) i registers = argument i registers + 256 * number width (suc i) registers

-- and the bytes of a number
abbrev pub bytes_of : ℕ → ℕ → List ℕ
bytes_of zero n = []
bytes_of (suc width) n = n % 256 ∷ bytes_of width (n / 256)

-- "2 to 12 hold the response's arguments and otherwise zero": all 11
abbrev pub padded : List ℕ → List ℕ
padded arguments = take 11 (arguments ++ replicate 11 0)

-- "After a command, bytes 0, 1 and 14 are as received, .., 13 the response, 15 the session's event byte after the command"; the 11 arguments
-- are given whole
abbrev pub reply : List ℕ → ℕ → List ℕ → ℕ → List ℕ
reply registers code arguments events =
    command_of registers ∷ sequence_of registers ∷ (arguments ++ (code ∷ get_or registers 14 0 ∷ events ∷ []))
