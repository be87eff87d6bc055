-- Numbers in seven-bit groups: document 01, "Bench program".
use Rattle.std.specs.Prelude.{ℕ, zero, suc, ◌+◌, ◌*◌, ◌/◌, ◌%◌, ◌^◌, cond, List, [], ◌∷◌, ltb, leb, eqb, length, drop, Option, Some, None, Result, Ok, Err}
use Rattle.buffers.specs.Ranges.{replace}
use Rattle.leb128.specs.declared.Number.{Number}
use Rattle.leb128.specs.declared.ReadError.{ReadError}
use Rattle.leb128.specs.declared.ReadError.TheVariants.{Short, Malformed}

-- "a number below 128 is one byte; a larger one is its low seven bits with the top bit set, followed by the number made of the remaining bits".
-- The first argument bounds the groups that may follow
unfoldable pub groups : ℕ → ℕ → List ℕ
groups zero n = n ∷ []
groups (suc most) n = let more = (n % 128 + 128) ∷ groups most (n / 128) in cond (ltb n 128) (n ∷ []) more

-- the number's bytes: no more groups follow the first than the number counts, so the bound cuts nothing off
unfoldable pub encode : ℕ → List ℕ
encode n = groups n n

-- what stands at the front of some bytes: a number with the number of its bytes, a number that the bytes end in, or no number
pub data Decoded : Type 0 where
  found : ℕ → ℕ → Decoded
  cut_short : Decoded
  not_shortest : Decoded

-- a group with the top bit set, before what was found behind it; "Only the shortest form": the remaining bits are not all zero
abbrev pub before : ℕ → Decoded → Decoded
before low (found rest size) = cond (eqb rest 0) not_shortest (found (rest * 128 + low) (size + 1))
before low cut_short = cut_short
before low not_shortest = not_shortest

-- the number at the front of these bytes, of any size
unfoldable pub decode : List ℕ → Decoded
decode [] = cut_short
decode (b ∷ bs) = cond (ltb b 128) (found b 1) (before (b % 128) (decode bs))

-- "values below 2^32"; the answer has the offset past the number
abbrev pub bounded : ℕ → Decoded → Result Number ReadError
bounded at (found value size) = cond (ltb value (2 ^ 32)) (Ok (record { value = value; next = at + size })) (Err Malformed)
bounded at cut_short = Err Short
bounded at not_shortest = Err Malformed

-- what stands at an offset
unfoldable pub read_at : List ℕ → ℕ → Result Number ReadError
read_at bytes at = bounded at (decode (drop at bytes))

-- a number is written where all of its bytes fit, and else nothing is
abbrev pub written_at : ℕ → ℕ → List ℕ → Option ℕ
written_at value at bytes = cond (leb (at + length (encode value)) (length bytes)) (Some (at + length (encode value))) None

abbrev pub bytes_after : ℕ → ℕ → List ℕ → List ℕ
bytes_after value at bytes = cond (leb (at + length (encode value)) (length bytes)) (replace at (encode value) bytes) bytes
