-- Numbers and their bytes are inverse, for every width: document 01, "All multi-byte quantities are little-endian". Proved in proofs/Inverse.antt.
use Rattle.std.specs.Prelude.{◌≡◌, List, ℕ, ◌+◌, ◌^◌, ◌≤◌, ◌<◌, length, get_or, take, drop}
use Rattle.registers.specs.Registers.{number, bytes_of}

-- so many bytes of the registers from argument i on ("argument 0 is byte 2")
abbrev pub bytes_at : ℕ → ℕ → List ℕ → List ℕ
bytes_at width i registers = take width (drop (2 + i) registers)

-- a number that fits, written from argument i on, is read there
abbrev pub WrittenIsRead : Type 0
WrittenIsRead =
    (width i n : ℕ) (registers : List ℕ) → n < 256 ^ width → bytes_at width i registers ≡ bytes_of width n → number width i registers ≡ n

-- and the number that is read from argument i on has the bytes that stand there, if all do and each is below 256
abbrev pub ReadIsWritten : Type 0
ReadIsWritten =
    (width i : ℕ) (registers : List ℕ) → 2 + i + width ≤ length registers → ((k : ℕ) → get_or (bytes_at width i registers) k 0 < 256)
    → bytes_of width (number width i registers) ≡ bytes_at width i registers
