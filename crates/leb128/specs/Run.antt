-- The groups of one number, for the contracts of the private functions.
use Rattle.std.specs.Prelude.{ℕ, ◌≤◌, ◌<◌, List, length, get_or}

-- from offset at up to last every byte has its top bit set, and the byte at last, if there is one, has not
pub record Run (bytes : List ℕ) (at last : ℕ) : Type 0 where
  pub rises : at ≤ last
  pub set : (i : ℕ) → i < last → at ≤ i → (128 ≤ get_or bytes i 0) × (i < length bytes)
  pub clear : last < length bytes → get_or bytes last 0 < 128
