-- A line as far as it is written: the digits of the first registers, each pair before a space, and spaces.
use mathlib.Core.Path.{◌≡◌, refl, ap, ◌∙◌}
use mathlib.Core.List.{List, [], ◌∷◌, ◌++◌, append-nil}
use Prim.Native.Nat.{ℕ, zero, suc, ◌+◌, ◌-◌, ◌*◌, ◌/◌, ◌%◌, ◌<◌}
use native.Mathlib.Nat.{le_of_suc-le-suc, not-suc-le-zero}
use native.Mathlib.Omega.{arith}
use lib.ListN.{length, get_or, set, take}
use lib.Seq.{take_all}
use Rattle.transcript.specs.Text.{hex_digit, register_line}

abbrev pub spaced : List ℕ → List ℕ
spaced [] = []
spaced (r ∷ rs) = hex_digit (r / 16 % 16) ∷ hex_digit (r % 16) ∷ 32 ∷ spaced rs

abbrev pub blank : ℕ → List ℕ
blank zero = []
blank (suc n) = 32 ∷ 32 ∷ 32 ∷ blank n

-- the line after so many of the registers
abbrev pub part_way : ℕ → List ℕ → List ℕ
part_way i rs = spaced (take i rs) ++ blank (length rs - i)

-- the two digits of register i, at k and behind it
abbrev digits : List ℕ → ℕ → ℕ → List ℕ → List ℕ
digits rs i k line = set (set line k (hex_digit (get_or rs i 0 / 16 % 16))) (suc k) (hex_digit (get_or rs i 0 % 16))

more : (rs : List ℕ) (i k n : ℕ) → i < length rs → k ≡ 3 * i → n ≡ length rs - suc i
    → digits rs i k (spaced (take i rs) ++ blank (suc n)) ≡ spaced (take (suc i) rs) ++ blank n
more [] i k n h e f = absurd (not-suc-le-zero h)
more (r ∷ rs) zero k n h e f = ap (λ (j : ℕ). digits (r ∷ rs) 0 j (blank (suc n))) e
more (r ∷ rs) (suc i) k n h e f =
    ap (λ (j : ℕ). digits (r ∷ rs) (suc i) j (spaced (take (suc i) (r ∷ rs)) ++ blank (suc n))) three
    ∙ ap (λ (line : List ℕ). hex_digit (r / 16 % 16) ∷ hex_digit (r % 16) ∷ 32 ∷ line) (more rs i (3 * i) n (le_of_suc-le-suc h) refl (omega arith))
  where
    three : k ≡ suc (suc (suc (3 * i)))
    three = omega arith

pub line_more : (rs : List ℕ) (i : ℕ) → i < length rs
    → set (set (part_way i rs) (3 * i) (hex_digit (get_or rs i 0 / 16 % 16))) (3 * i + 1) (hex_digit (get_or rs i 0 % 16)) ≡ part_way (i + 1) rs
line_more rs i h =
    ap (λ (k : ℕ). set (set (part_way i rs) (3 * i) (hex_digit (get_or rs i 0 / 16 % 16))) k (hex_digit (get_or rs i 0 % 16))) next
    ∙ ap (λ (n : ℕ). digits rs i (3 * i) (spaced (take i rs) ++ blank n)) left
    ∙ more rs i (3 * i) (length rs - suc i) h refl refl
    ∙ ap (λ (j : ℕ). part_way j rs) last
  where
    next : 3 * i + 1 ≡ suc (3 * i)
    next = omega arith

    left : length rs - i ≡ suc (length rs - suc i)
    left = omega arith

    last : suc i ≡ i + 1
    last = omega arith

-- the last space becomes the line feed
ended : (r : ℕ) (rs : List ℕ) (k : ℕ) → k ≡ 3 * length rs + 2 → set (spaced (r ∷ rs)) k 10 ≡ register_line (r ∷ rs)
unfolding register_line
ended r [] k e = ap (λ (j : ℕ). set (spaced (r ∷ [])) j 10) e
ended r (s ∷ rs) k e =
    ap (λ (j : ℕ). set (spaced (r ∷ s ∷ rs)) j 10) three
    ∙ ap (λ (line : List ℕ). hex_digit (r / 16 % 16) ∷ hex_digit (r % 16) ∷ 32 ∷ line) (ended s rs (3 * length rs + 2) refl)
  where
    three : k ≡ suc (suc (suc (3 * length rs + 2)))
    three = omega arith

pub line_ends : (rs : List ℕ) → length rs ≡ 16 → set (part_way 16 rs) 47 10 ≡ register_line rs
line_ends [] e = absurd (omega arith)
line_ends (r ∷ rs) e =
    ap (λ (line : List ℕ). set (spaced line ++ blank (length (r ∷ rs) - 16)) 47 10) (take_all 16 (r ∷ rs) (omega arith))
    ∙ ap (λ (n : ℕ). set (spaced (r ∷ rs) ++ blank n) 47 10) none
    ∙ ap (λ (line : List ℕ). set line 47 10) (append-nil (spaced (r ∷ rs)))
    ∙ ended r rs 47 (omega arith)
  where
    none : length (r ∷ rs) - 16 ≡ 0
    none = omega arith
