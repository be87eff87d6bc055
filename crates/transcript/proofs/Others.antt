-- Laws of the count of bytes other than FF.
use Rattle.std.proofs.Common.{◌≡◌, ◌+◌, ◌≤◌, ◌<◌, ℕ, Bool, true, false, not, cond, eqb, nat_eq, List, length, get_or, drop, refl, sym, arith}
use native.Mathlib.Numerals.{add-one}
use mir.Val.{bool_byte}
use Rattle.std.specs.List.{count_by}
use Rattle.std.proofs.lemmas.List.Recursion.{is_count_by}
use lib.ListN.{drop_of_length-le}
use lib.Seq.{drop-cons}
use Rattle.transcript.specs.Text.{other_than_ff}

-- the bytes from an offset on: the one there, and those after it
others_from : (xs : List ℕ) (i : ℕ) → i < length xs → other_than_ff (drop i xs) ≡ cond (eqb (get_or xs i 0) 0xff) 0 1 + other_than_ff (drop (i + 1) xs)
unfolding other_than_ff
others_from xs i h = rw (drop-cons xs i 0 h, add-one) refl

one : (t : Bool) → bool_byte (not t) ≡ cond t 0 1
one true = refl
one false = refl

few : (t : Bool) → bool_byte (not t) ≤ 1
few true = omega arith
few false = omega arith

-- one turn
pub others_turn : (xs : List ℕ) (i n : ℕ) → i < length xs → n ≡ bool_byte (not (nat_eq (get_or xs i 0) 0xff))
    → (n ≤ 1) × (n + other_than_ff (drop (i + 1) xs) ≡ other_than_ff (drop i xs))
others_turn xs i n h e =
    let t = nat_eq (get_or xs i 0) 0xff in
    let small : n ≤ 1 = rw e (few t) in
    (small, rw (e, one t) (sym (others_from xs i h)))

-- past the end there are none
pub others_none : (xs : List ℕ) (i : ℕ) → length xs ≤ i → other_than_ff (drop i xs) ≡ 0
unfolding other_than_ff
others_none xs i h = rw (drop_of_length-le xs h)

-- and the whole count is std's
same_one : (t : Bool) (n : ℕ) → cond t 0 1 + n ≡ cond (not t) (1 + n) n
same_one true n = omega arith
same_one false n = refl

pub others_counted : (xs : List ℕ) → other_than_ff xs ≡ count_by (λ b. not (eqb b 0xff)) xs
unfolding other_than_ff
others_counted xs = is_count_by other_than_ff (λ b. not (eqb b 0xff)) refl (λ b bs. same_one (eqb b 0xff) (other_than_ff bs)) xs
