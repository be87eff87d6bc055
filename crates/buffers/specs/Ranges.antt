-- Bytes of buffers: a range read, a range replaced, two buffers combined.
use Rattle.std.specs.Prelude.{ℕ, ◌+◌, List, [], ◌∷◌, ◌++◌, length, take, drop}
use Rattle.std.specs.Int.Bits.{bit_and}

-- the n bytes from offset at on
abbrev pub range : ℕ → ℕ → List ℕ → List ℕ
range at n xs = take n (drop at xs)

-- xs with ys in the place of as many of its bytes, from offset at on
abbrev pub replace : ℕ → List ℕ → List ℕ → List ℕ
replace at ys xs = take at xs ++ (ys ++ drop (at + length ys) xs)

-- the bytes of xs, each combined with the byte of ys at its place; where ys has ended, the old byte
abbrev pub each : (ℕ → ℕ → ℕ) → List ℕ → List ℕ → List ℕ
each f [] ys = []
each f (x ∷ xs) [] = x ∷ xs
each f (x ∷ xs) (y ∷ ys) = f x y ∷ each f xs ys

-- "each byte by the bitwise AND of old byte and window byte"
abbrev pub and_each : List ℕ → List ℕ → List ℕ
and_each = each bit_and

-- each byte by the other: ys copied over xs
abbrev pub copy_each : List ℕ → List ℕ → List ℕ
copy_each = each (λ old new. new)
