-- Laws of the two conversions. What depends on the size of a number is stated over its width in bits.
use mathlib.Core.Path.{◌≡◌, subst}
use Prim.Native.Nat.{ℕ, ◌+◌, ◌*◌, ◌^◌, ◌≤◌, ◌<◌}
use native.Mathlib.Omega.{arith}
use lib.Pow.{shl_lt, pow-add, pow_mono}
use Rattle.units.specs.Units.{to_bytes, round_up, to_blocks}

-- the blocks hold the bytes, and no fewer would
pub holds : (n : ℕ) → n ≤ to_bytes (round_up n)
holds n = omega arith

pub fewest : (n b : ℕ) → n ≤ to_bytes b → round_up n ≤ b
fewest n b h = omega arith

-- a whole number of blocks is that number
pub whole : (b : ℕ) → round_up (to_bytes b) ≡ b
whole b = omega arith

-- the bytes of a count of w bits have 12 bits more
pub bytes_width : (w b : ℕ) → b < 2 ^ w → to_bytes b < 2 ^ (w + 12)
bytes_width w b h = shl_lt w 12 h

-- a length of w + 12 bits needs at most 2^w blocks
pub blocks_width : (w n : ℕ) → n < 2 ^ (w + 12) → round_up n ≤ 2 ^ w
blocks_width w n h = let k : n < 2 ^ w * 4096 = subst (λ (p : ℕ). n < p) (pow-add 2 w 12) h in omega arith

-- below 44 bits no count is too large: the conversion is the rounding itself
pub exact : (w n : ℕ) → w < 32 → n < 2 ^ (w + 12) → to_blocks n ≡ round_up n
exact w n v h =
    let few : round_up n ≤ 2 ^ w = blocks_width w n h in
    let less : 2 ^ w ≤ 2 ^ 31 = pow_mono {i = w} {j = 31} (omega arith) in
    omega arith

-- as long as a flash may be, the conversion is the rounding itself
pub exact_few : (n : ℕ) → round_up n ≤ 65535 → to_blocks n ≡ round_up n
exact_few n h = omega arith
