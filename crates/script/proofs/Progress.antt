-- A record that keeps the rules ends past its first byte.
use mathlib.Core.Path.{◌≡◌, sym, subst}
use mathlib.Core.Bool.{Bool, true, cond, true≢false}
use mathlib.Core.List.{List, [], ◌∷◌}
use Prim.Native.Nat.{ℕ, zero, suc, ◌+◌, ◌*◌, ◌%◌, ◌^◌, ◌≤◌, ◌<◌}
use native.Mathlib.Omega.{arith}
use lib.Dec.{ltb, leb, eqb}
use lib.ListN.{drop, set, replicate}
use Rattle.units.proofs.Cases.{chosen}
use Rattle.leb128.specs.Groups.{Decoded, found, cut_short, not_shortest, before, decode, bounded, read_at}
use Rattle.std.specs.Prelude.{Option, Some, None, Result, Ok, Err}
use Rattle.leb128.specs.declared.Number.{Number}
use Rattle.leb128.specs.declared.ReadError.{ReadError}
use Rattle.leb128.specs.declared.ReadError.TheVariants.{Malformed}
use Rattle.session.specs.Machine.{Setup, Machine}
use Rattle.records.specs.declared.Item.{Item}
use Rattle.records.specs.Records.{bad, with_number, up_to, values_at, command_at, fill_at, of_kind, next_of, record_at}
use Rattle.script.specs.Effects.{effect_read}

-- ---- numbers

-- a number that was found has bytes, and one that was read ends past its offset
abbrev Sized : Decoded → Type 0
Sized (found value size) = 0 < size
Sized cut_short = Unit {0}
Sized not_shortest = Unit {0}

abbrev Beyond : ℕ → Result Number ReadError → Type 0
Beyond at (Ok number) = at < number.next
Beyond at (Err error) = Unit {0}

-- what holds of both holds of the one that is chosen
either : {A : Type 0} (P : A → Type 0) (t : Bool) (r s : A) → P r → P s → P (cond t r s)
either P t r s h k = chosen P t r s (λ _. h) (λ _. k)

sized_before : (low : ℕ) (d : Decoded) → Sized (before low d)
sized_before low (found rest size) = either Sized (eqb rest 0) not_shortest (found (rest * 128 + low) (size + 1)) tt (omega arith)
sized_before low cut_short = tt
sized_before low not_shortest = tt

sized_decode : (bytes : List ℕ) → Sized (decode bytes)
unfolding decode
sized_decode [] = tt
sized_decode (b ∷ bs) = either Sized (ltb b 128) (found b 1) (before (b % 128) (decode bs)) (omega arith) (sized_before (b % 128) (decode bs))

beyond_bounded : (at : ℕ) (d : Decoded) → Sized d → Beyond at (bounded at d)
beyond_bounded at (found value size) h = either (Beyond at) (ltb value (2 ^ 32)) (Ok (record { value = value; next = at + size })) (Err Malformed) (omega arith) tt
beyond_bounded at cut_short h = tt
beyond_bounded at not_shortest h = tt

beyond_read : (bytes : List ℕ) (at : ℕ) → Beyond at (read_at bytes at)
unfolding read_at
beyond_read bytes at = beyond_bounded at (decode (drop at bytes)) (sized_decode (drop at bytes))

-- ---- records

-- there is no record, or it ends past this
abbrev Past : ℕ → Option Item → Type 0
Past at None = Unit {0}
Past at (Some item) = at < item.next

past_number : (at from : ℕ) (r : Result Number ReadError) (rest : ℕ → ℕ → Option Item) → at ≤ from → Beyond from r → ((value next : ℕ) → at < next → Past at (rest value next))
    → Past at (with_number r rest)
past_number at from (Ok number) rest h b k = k number.value number.next (omega arith)
past_number at from (Err error) rest h b k = tt

past_most : (at most : ℕ) (rest : ℕ → ℕ → Option Item) → ((value next : ℕ) → at < next → Past at (rest value next))
    → (value next : ℕ) → at < next → Past at (up_to most rest value next)
unfolding up_to
past_most at most rest k value next h = either (Past at) (leb value most) (rest value next) bad (k value next h) tt

module _ (bytes : List ℕ) (at : ℕ) where
  past_values : (left i : ℕ) (registers : List ℕ) (from : ℕ) → at < from → Past at (values_at bytes left i registers from)
  past_values zero i registers from h = h
  past_values (suc left) i registers from h =
      past_number at from (read_at bytes from) _ (omega arith) (beyond_read bytes from)
      (past_most at 255 _ (λ value next k. past_values left (i + 1) (set registers i value) next k))

  past_command : (from : ℕ) → at < from → Past at (command_at bytes from)
  past_command from h =
      past_number at from (read_at bytes from) _ (omega arith) (beyond_read bytes from)
      (past_most at 13 _ (λ count next k. past_values count 0 (replicate 16 0) next k))

  past_fill : (from : ℕ) → at < from → Past at (fill_at bytes from)
  past_fill from h =
      past_number at from (read_at bytes from) _ (omega arith) (beyond_read bytes from) (λ offset then k.
      past_number at then (read_at bytes then) _ (omega arith) (beyond_read bytes then) (λ count last l.
      past_number at last (read_at bytes last) _ (omega arith) (beyond_read bytes last)
      (past_most at 255 _ (λ value next m. m))))

  past_kind : (kind from : ℕ) → at < from → Past at (of_kind bytes kind from)
  past_kind kind from h =
      either (Past at) (eqb kind 0) _ _ (past_command from h)
      (either (Past at) (eqb kind 1) _ _ (past_fill from h)
      (either (Past at) (eqb kind 2) _ _ h (either (Past at) (eqb kind 3) _ _ h (either (Past at) (eqb kind 4) _ _ h tt))))

  past_record : Past at (record_at bytes at)
  unfolding record_at
  past_record = past_number at at (read_at bytes at) (of_kind bytes) (omega arith) (beyond_read bytes at) past_kind

-- what serves a record says whether it keeps the rules
pub moves_on : (bytes : List ℕ) (at : ℕ) (item : Option Item) → item ≡ record_at bytes at → (setup : Setup) (m : Machine)
    → (effect_read setup item m).good ≡ true → at < next_of item
moves_on bytes at None e setup m good = absurd (true≢false (sym good))
moves_on bytes at (Some item) e setup m good = subst (Past at) (sym e) (past_record bytes at)
