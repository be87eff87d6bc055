-- Laws of bits, and what each change of the event byte leaves of the others.
use mathlib.Core.Path.{◌≡◌, refl, sym, ap, ◌∙◌}
use mathlib.Core.Bool.{true, false}
use Prim.Native.Nat.{ℕ, zero, suc, ◌-◌, ◌/◌, ◌%◌, ◌≤◌, min, max}
use native.Mathlib.Omega.{arith}
use lib.Arith.{bin_ind}
use lib.Bits.{bit_and, bit_or, and_step, or_step, and_zero_r, and_le_r}
use Rattle.std.proofs.lemmas.Nat.{and_assoc, and_or_self, and_or_apart}
use lib.Dec.{eqb}
use borrow.Author.Tests.{eq-eqb}
use Rattle.session.specs.Events.{set_bits, clear_bits, is_set, acknowledgeable, acknowledged}

-- an AND of an OR is the OR of both ANDs
and_or : (a b c : ℕ) → bit_and (bit_or a b) c ≡ bit_or (bit_and a c) (bit_and b c)
and_or =
    bin_ind (λ (n : ℕ). (b c : ℕ) → bit_and (bit_or n b) c ≡ bit_or (bit_and n c) (bit_and b c)) (λ b c. refl)
    (λ n ih b c.
    let high : bit_and (bit_or n b / 2) (c / 2) ≡ bit_or (bit_and n c / 2) (bit_and b c / 2) = rw (or_half n b, and_half n c, and_half b c) (ih (b / 2) (c / 2)) in
    let left = and_step (bit_or n b) c in
    let right = or_step (bit_and n c) (bit_and b c) in
    omega (arith, high, left, right, or_odd n b, and_odd n c, and_odd b c))
  where
    and_half : (a b : ℕ) → bit_and a b / 2 ≡ bit_and (a / 2) (b / 2)
    and_half a b = omega (arith, and_step a b)

    and_odd : (a b : ℕ) → bit_and a b % 2 ≡ min (a % 2) (b % 2)
    and_odd a b = omega (arith, and_step a b)

    or_half : (a b : ℕ) → bit_or a b / 2 ≡ bit_or (a / 2) (b / 2)
    or_half a b = omega (arith, or_step a b)

    or_odd : (a b : ℕ) → bit_or a b % 2 ≡ max (a % 2) (b % 2)
    or_odd a b = omega (arith, or_step a b)

-- a bit that is set is set
pub set_bit : (bit events : ℕ) → is_set bit (set_bits bit events) ≡ true
set_bit bit events = eq-eqb (bit_and (set_bits bit events) bit) bit (and_or_self bit events)

-- bytes that are the same apart from the bits of a mask are the same in any part that has none of these
pub same_part : (mask part a b : ℕ) → bit_and (0xff - mask) part ≡ part → clear_bits mask a ≡ clear_bits mask b → bit_and a part ≡ bit_and b part
same_part mask part a b other same = within a ∙ ap (λ (n : ℕ). bit_and n part) same ∙ sym (within b)
  where
    within : (n : ℕ) → bit_and n part ≡ bit_and (clear_bits mask n) part
    within n = ap (bit_and n) (sym other) ∙ sym (and_assoc part n (0xff - mask))

pub same_bit : (mask bit a b : ℕ) → bit_and (0xff - mask) bit ≡ bit → clear_bits mask a ≡ clear_bits mask b → is_set bit a ≡ is_set bit b
same_bit mask bit a b other same = ap (λ (n : ℕ). eqb n bit) (same_part mask bit a b other same)

-- bits that are cleared or set within a mask leave the byte apart from it
pub clear_within : (mask bits events : ℕ) → bit_and (0xff - bits) (0xff - mask) ≡ 0xff - mask → clear_bits mask (clear_bits bits events) ≡ clear_bits mask events
clear_within mask bits events inside = and_assoc (0xff - mask) events (0xff - bits) ∙ ap (bit_and events) inside

pub set_within : (mask bits events : ℕ) → bit_and bits (0xff - mask) ≡ 0 → clear_bits mask (set_bits bits events) ≡ clear_bits mask events
set_within mask bits events inside = and_or_apart (0xff - mask) events bits inside

-- an acknowledgement leaves every bit but those that it may clear
pub acknowledged_others : (named events : ℕ) → clear_bits acknowledgeable (acknowledged named events) ≡ clear_bits acknowledgeable events
acknowledged_others named events = clear_within acknowledgeable (bit_and named acknowledgeable) events (few (bit_and named acknowledgeable) (and_le_r named acknowledgeable))
  where
    few : (n : ℕ) → n ≤ 3 → bit_and (0xff - n) 0xfc ≡ 0xfc
    few zero h = refl
    few (suc zero) h = refl
    few (suc (suc zero)) h = refl
    few (suc (suc (suc zero))) h = refl
    few (suc (suc (suc (suc n)))) h = absurd (omega arith)

-- a bit that is cleared is not set
pub cleared_bit : (mask bit events : ℕ) → bit_and (0xff - mask) bit ≡ 0 → eqb 0 bit ≡ false → is_set bit (clear_bits mask events) ≡ false
cleared_bit mask bit events none some =
    ap (λ (n : ℕ). eqb n bit) (and_assoc bit events (0xff - mask) ∙ ap (bit_and events) none ∙ and_zero_r events) ∙ some
