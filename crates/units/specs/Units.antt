-- Blocks and bytes: document 01, "Numbers". A number here counts what its name says.
use Rattle.std.specs.Prelude.{ℕ, ◌+◌, ◌*◌, ◌/◌, ◌-◌, ◌^◌, min}

-- "A block is 4,096 bytes (shift 12)"
abbrev pub block_bytes : ℕ
block_bytes = 4096

-- "Blocks and bytes .. meet only through a stated conversion": the bytes of b blocks, and the offset of block b
abbrev pub to_bytes : ℕ → ℕ
to_bytes b = b * block_bytes

-- the block in which the byte at an offset lies
abbrev pub block_holding : ℕ → ℕ
block_holding x = x / block_bytes

-- "L is rounded up to k blocks": the fewest blocks that hold n bytes
abbrev pub round_up : ℕ → ℕ
round_up n = (n + (block_bytes - 1)) / block_bytes

-- the conversion the other way: rounded up, and the largest 32-bit count where that is not enough (house)
abbrev pub to_blocks : ℕ → ℕ
to_blocks n = min (round_up n) (2 ^ 32 - 1)
