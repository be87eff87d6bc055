-- The table of parameters has what the papers say of all commands: the claims stand in specs/Known.antt.
use Rattle.std.proofs.Common.{◌≡◌, refl, sym, true, false, ◌&&◌, ℕ, zero, suc, ◌≤◌, arith, eqb, leb, ne_eqb, leb-true, Option}
use mathlib.Core.Bool.{and-false}
use borrow.Author.Tests.{lt-leb}
use Rattle.messages.specs.Parameters.{Row, table, row_of, is_known}
use Rattle.messages.proofs.Rows.{◌&◌, each_row}
use Rattle.invariants.specs.Codes.{knows}
use Rattle.transports.specs.Known.{IsLaidOut, KnownAsSaid, RowsAreLaidOut}

-- ---- which commands are known

-- the claim of a code, at each of the three versions
abbrev AsSaid : ℕ → Type 0
AsSaid code = (is_known code 0 ≡ knows 0 code) × (is_known code 1 ≡ knows 1 code) × (is_known code 2 ≡ knows 2 code)

-- a case distinction over the codes of the table
pub by_code : (P : ℕ → Type 0) → P 0 → P 1 → P 2 → P 3 → P 4 → P 5 → P 6 → P 7 → P 8 → P 9 → P 10 → ((n : ℕ) → 11 ≤ n → P n) → (code : ℕ) → P code
by_code P a b c d e f g h i j k past zero = a
by_code P a b c d e f g h i j k past (suc zero) = b
by_code P a b c d e f g h i j k past (suc (suc zero)) = c
by_code P a b c d e f g h i j k past (suc (suc (suc zero))) = d
by_code P a b c d e f g h i j k past (suc (suc (suc (suc zero)))) = e
by_code P a b c d e f g h i j k past (suc (suc (suc (suc (suc zero))))) = f
by_code P a b c d e f g h i j k past (suc (suc (suc (suc (suc (suc zero)))))) = g
by_code P a b c d e f g h i j k past (suc (suc (suc (suc (suc (suc (suc zero))))))) = h
by_code P a b c d e f g h i j k past (suc (suc (suc (suc (suc (suc (suc (suc zero)))))))) = i
by_code P a b c d e f g h i j k past (suc (suc (suc (suc (suc (suc (suc (suc (suc zero))))))))) = j
by_code P a b c d e f g h i j k past (suc (suc (suc (suc (suc (suc (suc (suc (suc (suc zero)))))))))) = k
by_code P a b c d e f g h i j k past (suc (suc (suc (suc (suc (suc (suc (suc (suc (suc (suc n))))))))))) =
    past (suc (suc (suc (suc (suc (suc (suc (suc (suc (suc (suc n))))))))))) (omega arith)

-- a code past the table is none of its codes
pub none_of_them : (code : ℕ) → 11 ≤ code → (k : ℕ) → leb k 10 ≡ true → eqb code k ≡ false
none_of_them code past k h = let small = leb-true k 10 h in ne_eqb code k (λ e. omega arith)

past_table : (code : ℕ) → 11 ≤ code → AsSaid code
unfolding row_of table
past_table code past = (
  rw (off 1 refl, off 2 refl, off 9 refl),
  rw (off 1 refl, off 2 refl, off 3 refl, off 4 refl, off 5 refl, off 6 refl, off 7 refl, off 8 refl, off 9 refl, above 9 refl) never,
  rw (off 1 refl, off 2 refl, off 3 refl, off 4 refl, off 5 refl, off 6 refl, off 7 refl, off 8 refl, off 9 refl, off 10 refl, above 10 refl) never,
)
  where
    never : false ≡ (leb 1 code && false)
    never = sym (and-false (leb 1 code))

    above : (k : ℕ) → leb k 10 ≡ true → leb code k ≡ false
    above k h = let small = leb-true k 10 h in lt-leb code k (omega arith)

    off : (k : ℕ) → leb k 10 ≡ true → eqb code k ≡ false
    off = none_of_them code past

each_code : (code : ℕ) → AsSaid code
unfolding row_of table
each_code =
    by_code AsSaid (refl, refl, refl) (refl, refl, refl) (refl, refl, refl) (refl, refl, refl) (refl, refl, refl) (refl, refl, refl) (refl, refl, refl)
    (refl, refl, refl) (refl, refl, refl) (refl, refl, refl) (refl, refl, refl) past_table

to_two : (code version : ℕ) → version ≤ 2 → is_known code version ≡ knows version code
to_two code zero h = (each_code code).0
to_two code (suc zero) h = (each_code code).1
to_two code (suc (suc zero)) h = (each_code code).2
to_two code (suc (suc (suc v))) h = absurd (omega arith)

from_three : (code version : ℕ) → 3 ≤ version → is_known code version ≡ false
unfolding row_of table
from_three code version h = rw (ne_eqb version 0 (λ e. omega arith), ne_eqb version 1 (λ e. omega arith), ne_eqb version 2 (λ e. omega arith))

pub known_as_said : KnownAsSaid
known_as_said code version = ((λ h. to_two code version (omega arith)), (λ h. from_three code version (omega arith)))

-- ---- how parameters are laid out
pub rows_are_laid_out : RowsAreLaidOut
unfolding table
rows_are_laid_out =
    each_row (λ (code : ℕ) (version : ℕ) (o : Option Row). IsLaidOut o)
    ((refl, refl, refl, refl) & (refl, refl, refl, refl) & (refl, refl, refl, refl) & (refl, refl, refl, refl) & (refl, refl, refl, refl)
    & (refl, refl, refl, refl) & (refl, refl, refl, refl) & (refl, refl, refl, refl) & (refl, refl, refl, refl) & (refl, refl, refl, refl)
    & (refl, refl, refl, refl) & (refl, refl, refl, refl) & (refl, refl, refl, refl) & (refl, refl, refl, refl) & (refl, refl, refl, refl)
    & (refl, refl, refl, refl) & (refl, refl, refl, refl) & (refl, refl, refl, refl) & (refl, refl, refl, refl) & (refl, refl, refl, refl)
    & (refl, refl, refl, refl) & (refl, refl, refl, refl) & tt)
    (λ _ _. tt)
