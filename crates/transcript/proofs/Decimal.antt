-- A number's fewest digits are its decimal text.
use mathlib.Core.Path.{◌≡◌, sym, ap, ◌∙◌, subst}
use mathlib.Core.Bool.{Bool, cond}
use mathlib.Core.List.{List, [], ◌∷◌, ◌++◌}
use Prim.Native.Nat.{ℕ, zero, suc, ◌+◌, ◌-◌, ◌*◌, ◌/◌, ◌%◌, ◌^◌, ◌≤◌, ◌<◌, zero-le}
use native.Mathlib.Nat.{not-suc-le-zero, pow-suc}
use native.Mathlib.Omega.{arith}
use borrow.Author.Tests.{lt-ltb, le-ltb}
use Rattle.io.specs.Digits.{hex_digit_ascii, last_digits, IsDigitCount}
use Rattle.transcript.specs.Printing.{decimal_in, decimal}

tens : (p n : ℕ) → n < p * 10 → n / 10 < p
tens p n h = omega arith

over : (p n : ℕ) → p * 10 ≤ n → p ≤ n / 10
over p n h = omega arith

one_less : (k : ℕ) → suc k - 1 ≡ k
one_less k = omega arith

-- one digit is left, or more
fewest_tenth : (k n : ℕ) → IsDigitCount 10 1 n (suc (suc k)) → IsDigitCount 10 1 (n / 10) (suc k)
fewest_tenth k n f = (
  omega arith,
  tens (10 ^ suc k) n (subst (λ (p : ℕ). n < p) (pow-suc 10 (suc k)) f.1),
  λ h. lower k h (f.2 (omega arith)),
)
  where
    lower : (k : ℕ) → 1 < suc k → 10 ^ (suc (suc k) - 1) ≤ n → 10 ^ (suc k - 1) ≤ n / 10
    lower zero h g = absurd (omega arith)
    lower (suc k) h g =
        subst (λ (e : ℕ). 10 ^ e ≤ n / 10) (sym (one_less (suc k)))
        (over (10 ^ suc k) n (subst (λ (p : ℕ). p ≤ n) (ap (λ (e : ℕ). 10 ^ e) (one_less (suc (suc k))) ∙ pow-suc 10 (suc k)) g))

ten_at_least : (k n : ℕ) → 10 ^ (suc k) ≤ n → 10 ≤ n
ten_at_least k n h = several (10 ^ k) (positive k) (subst (λ (p : ℕ). p ≤ n) (pow-suc 10 k) h)
  where
    positive : (k : ℕ) → 1 ≤ 10 ^ k
    positive zero = omega arith
    positive (suc k) = let p = positive k in let e = pow-suc 10 k in omega arith

    several : (p : ℕ) → 1 ≤ p → p * 10 ≤ n → 10 ≤ n
    several p h g = omega arith

small : (d : ℕ) → d < 10 → hex_digit_ascii d ≡ 48 + d
small d h = rw (lt-ltb d 10 h)

one_digit : (places n : ℕ) → n < 10 ^ 1 → last_digits 10 1 n ≡ decimal_in (suc places) n
one_digit places n h =
    ap (λ (d : ℕ). hex_digit_ascii d ∷ []) same ∙ ap (λ (d : ℕ). d ∷ []) (small n h)
    ∙ sym (ap (λ (b : Bool). cond b ((48 + n) ∷ []) (decimal_in places (n / 10) ++ ((48 + n % 10) ∷ []))) (lt-ltb n 10 h))
  where
    same : n % 10 ≡ n
    same = omega arith

digits_decimal : (k places n : ℕ) → IsDigitCount 10 1 n k → n < places → last_digits 10 k n ≡ decimal_in places n
digits_decimal zero places n f h = absurd (not-suc-le-zero f.0)
digits_decimal (suc k) zero n f h = absurd (not-suc-le-zero h)
digits_decimal (suc zero) (suc places) n f h = one_digit places n f.1
digits_decimal (suc (suc k)) (suc places) n f h =
    let more = ten_at_least k n (subst (λ (e : ℕ). 10 ^ e ≤ n) (one_less (suc k)) (f.2 (omega arith))) in
    ap (λ (t : List ℕ). t ++ (hex_digit_ascii (n % 10) ∷ [])) (digits_decimal (suc k) places (n / 10) (fewest_tenth k n f) (omega arith))
    ∙ ap (λ (d : ℕ). decimal_in places (n / 10) ++ (d ∷ [])) (small (n % 10) (omega arith))
    ∙ sym (ap (λ (b : Bool). cond b ((48 + n) ∷ []) (decimal_in places (n / 10) ++ ((48 + n % 10) ∷ []))) (le-ltb n 10 more))

pub decimal_digits : (k n : ℕ) → IsDigitCount 10 1 n k → last_digits 10 k n ≡ decimal n
unfolding decimal
decimal_digits k n f = digits_decimal k (suc n) n f (omega arith)

-- there are no more of them than a power of ten has
pub few_digits : (p k n : ℕ) → IsDigitCount 10 1 n k → n < 10 ^ suc p → k ≤ suc p
few_digits p zero n f h = zero-le
few_digits p (suc zero) n f h = omega arith
few_digits zero (suc (suc k)) n f h =
    let more = ten_at_least k n (subst (λ (e : ℕ). 10 ^ e ≤ n) (one_less (suc k)) (f.2 (omega arith))) in
    absurd (omega (arith, more, h))
few_digits (suc p) (suc (suc k)) n f h =
    let fewer = few_digits p (suc k) (n / 10) (fewest_tenth k n f) (tens (10 ^ suc p) n (subst (λ (q : ℕ). n < q) (pow-suc 10 (suc p)) h)) in
    omega (arith, fewer)
