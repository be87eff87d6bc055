-- A number of the row that was read, as the definitions go on from it.
use mathlib.Core.Path.{◌≡◌, sym, ap}
use Prim.Native.Nat.{ℕ, suc, ◌+◌, ◌-◌, ◌≤◌, ◌<◌}
use mathlib.Core.List.{List}
use native.Mathlib.Omega.{arith}
use borrow.Author.Tests.{le-leb}
use lib.ListN.{set}
use Rattle.leb128.specs.Groups.{read_at}
use Rattle.std.specs.Prelude.{Option, Result, Ok}
use Rattle.leb128.specs.declared.Number.{Number}
use Rattle.leb128.specs.declared.ReadError.{ReadError}
use Rattle.records.specs.declared.Item.{Item}
use Rattle.records.specs.Records.{with_number, up_to, values_at}

module _ (rest : ℕ → ℕ → Option Item) where
  pub number_read : {n : Number} {r : Result Number ReadError} → Ok n ≡ r → with_number r rest ≡ rest n.value n.next
  number_read reads = ap (λ (x : Result Number ReadError). with_number x rest) (sym reads)

  pub within : (most value next : ℕ) → value ≤ most → up_to most rest value next ≡ rest value next
  unfolding up_to
  within most value next h = rw (le-leb value most h)

-- the values that are left, as long as there are some: one, and those after it
pub values_next : (bytes : List ℕ) (count i : ℕ) (registers : List ℕ) (at : ℕ) → i < count
    → values_at bytes (count - i) i registers at
    ≡ with_number (read_at bytes at) (up_to 255 (λ value next. values_at bytes (count - (i + 1)) (i + 1) (set registers i value) next))
values_next bytes count i registers at h = ap (λ (k : ℕ). values_at bytes k i registers at) one
  where
    one : count - i ≡ suc (count - (i + 1))
    one = omega arith
