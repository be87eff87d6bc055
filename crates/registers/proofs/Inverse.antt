-- Numbers and their bytes are inverse: the claims stand in specs/Inverse.antt.
use mathlib.Core.Path.{◌≡◌, refl, ap, subst}
use mathlib.Core.List.{List, [], ◌∷◌}
use Prim.Native.Nat.{ℕ, zero, suc, ◌+◌, ◌*◌, ◌/◌, ◌%◌, ◌^◌, ◌<◌}
use native.Mathlib.Omega.{arith}
use native.Mathlib.Nat.{pow-suc}
use lib.ListN.{length, get_or, take, drop}
use lib.Seq.{drop-cons}
use Rattle.registers.specs.Registers.{argument, number, bytes_of}
use Rattle.registers.specs.Inverse.{bytes_at, WrittenIsRead, ReadIsWritten}

-- the first byte from a place on, and the rest
first_and_rest : (width k b : ℕ) (xs bs : List ℕ) → take (suc width) (drop k xs) ≡ b ∷ bs → (get_or xs k 0 ≡ b) × (take width (drop (suc k) xs) ≡ bs)
first_and_rest width zero b [] bs e = let z : ◌≡◌ {A = ℕ} 0 1 = cc in absurd (omega arith)
first_and_rest width zero b (x ∷ xs) bs e = (cc, cc)
first_and_rest width (suc k) b [] bs e = let z : ◌≡◌ {A = ℕ} 0 1 = cc in absurd (omega arith)
first_and_rest width (suc k) b (x ∷ xs) bs e = first_and_rest width k b xs bs e

pub written_is_read : WrittenIsRead
written_is_read zero i n registers h e = omega arith
written_is_read (suc width) i n registers h e =
    let low = first_and_rest width (2 + i) (n % 256) registers (bytes_of width (n / 256)) e in
    let next : suc (2 + i) ≡ 2 + suc i = omega arith in
    let fits : n < 256 ^ width * 256 = rw pow-suc at h in
    omega (arith, low.0, written_is_read width (suc i) (n / 256) registers (omega arith) (rw next at low.1))

pub read_is_written : ReadIsWritten
read_is_written zero i registers h bytes = refl
read_is_written (suc width) i registers h bytes =
    let b = argument i registers in
    let n = number width (suc i) registers in
    let present : 2 + i < length registers = omega arith in
    let next : suc (2 + i) ≡ 2 + suc i = omega arith in
    let split : bytes_at (suc width) i registers ≡ b ∷ bytes_at width (suc i) registers = rw (drop-cons registers (2 + i) 0, next) in
    let each = subst (λ (bs : List ℕ). (k : ℕ) → get_or bs k 0 < 256) split bytes in
    let byte : b < 256 = each 0 in
    let low : (b + 256 * n) % 256 ≡ b = omega arith in
    let high : (b + 256 * n) / 256 ≡ n = omega arith in
    rw (low, high, split) (ap (λ (bs : List ℕ). b ∷ bs) (read_is_written width (suc i) registers (omega arith) (λ k. each (suc k))))
