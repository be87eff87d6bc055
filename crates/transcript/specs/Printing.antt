-- The text that the bench program prints: document 01, "Bench program".
use Rattle.std.specs.Prelude.{ℕ, zero, suc, ◌+◌, ◌/◌, ◌%◌, cond, List, [], ◌∷◌, ◌++◌, ltb, set, Option, Some, None}
use Rattle.buffers.specs.Ranges.{range}
use Rattle.units.specs.Units.{block_bytes, to_bytes}
use Rattle.transcript.specs.Text.{register_line, other_than_ff}

-- bytes written into a text from a place on, each where there is room
unfoldable pub written : ℕ → List ℕ → List ℕ → List ℕ
written at [] text = text
written at (b ∷ bs) text = written (at + 1) bs (set text at b)

-- "decimal": at most so many digits, 0 being character 48
abbrev pub decimal_in : ℕ → ℕ → List ℕ
decimal_in zero n = []
decimal_in (suc places) n = cond (ltb n 10) ((48 + n) ∷ []) (decimal_in places (n / 10) ++ ((48 + n % 10) ∷ []))

-- a number has no more digits than its successor counts
unfoldable pub decimal : ℕ → List ℕ
decimal n = decimal_in (suc n) n

-- "bad input at N", "Lines end with a line feed"
abbrev pub bad_input_at : List ℕ
bad_input_at = 0x62 ∷ 0x61 ∷ 0x64 ∷ 0x20 ∷ 0x69 ∷ 0x6e ∷ 0x70 ∷ 0x75 ∷ 0x74 ∷ 0x20 ∷ 0x61 ∷ 0x74 ∷ 0x20 ∷ []

abbrev pub bad_line : ℕ → List ℕ
bad_line at = bad_input_at ++ (decimal at ++ (10 ∷ []))

-- "too long"
abbrev pub too_long : List ℕ
too_long = 0x74 ∷ 0x6f ∷ 0x6f ∷ 0x20 ∷ 0x6c ∷ 0x6f ∷ 0x6e ∷ 0x67 ∷ 10 ∷ []

-- "Each command prints its 16 registers afterwards"; the other records print nothing
abbrev pub answer_text : Option (List ℕ) → List ℕ
answer_text (Some registers) = register_line registers
answer_text None = []

-- "the decimal count of bytes other than FF, each after one space"
abbrev pub count_text : ℕ → List ℕ → List ℕ
count_text i flash = 32 ∷ decimal (other_than_ff (range (to_bytes i) block_bytes flash))

-- "for each block in order": so many blocks from block i on
unfoldable pub counts_from : ℕ → ℕ → List ℕ → List ℕ
counts_from zero i flash = []
counts_from (suc blocks) i flash = count_text i flash ++ counts_from blocks (suc i) flash

-- "At the end comes `flash`"
abbrev pub flash_word : List ℕ
flash_word = 0x66 ∷ 0x6c ∷ 0x61 ∷ 0x73 ∷ 0x68 ∷ []

unfoldable pub flash_line : ℕ → List ℕ → List ℕ
flash_line blocks flash = flash_word ++ (counts_from blocks 0 flash ++ (10 ∷ []))
