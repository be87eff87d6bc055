-- The bytes and the port that they stand for tell the same.
use mathlib.Core.Path.{◌≡◌, refl, sym, ap, ◌∙◌}
use mathlib.Core.List.{List, ◌∷◌, ◌++◌}
use Prim.Native.Nat.{ℕ, suc, ◌+◌, ◌≤◌, ◌<◌}
use native.Mathlib.Omega.{arith}
use lib.ListN.{length, get_or, take, drop, length-drop, take-append-drop}
use lib.Seq.{take_all, take_at, drop_at, drop-cons, drop-drop}
use Rattle.buffers.specs.Ranges.{range}
use Rattle.kcs.specs.Port.{Port}
use Rattle.kcs.specs.Bytes.{control_of, control_bytes, port_of, bytes_of}

-- a list from place a on is a range and the range behind it
pub two_ranges : (a n m : ℕ) (xs : List ℕ) → length xs ≡ a + n + m → drop a xs ≡ range a n xs ++ range (a + n) m xs
two_ranges a n m xs long =
    let rest : length (drop (a + n) xs) ≤ m = rw length-drop (omega arith) in
    sym (take-append-drop n (drop a xs)) ∙ ap (λ (t : List ℕ). range a n xs ++ t) (drop-drop n a xs ∙ sym (take_all m (drop (a + n) xs) rest))

-- the first eight bytes are those of the controls that they stand for
pub controls_first : (xs : List ℕ) → 8 ≤ length xs → control_bytes (control_of xs) ++ drop 8 xs ≡ xs
controls_first xs long =
    sym (next 0 (omega arith) (next 1 (omega arith) (next 2 (omega arith) (next 3 (omega arith)
    (next 4 (omega arith) (next 5 (omega arith) (next 6 (omega arith) (next 7 (omega arith) refl))))))))
  where
    next : (i : ℕ) {rest : List ℕ} → i < length xs → drop (suc i) xs ≡ rest → drop i xs ≡ get_or xs i 0 ∷ rest
    next i inside e = drop-cons xs i 0 inside ∙ ap (λ (t : List ℕ). get_or xs i 0 ∷ t) e

pub bytes_back : (bytes : List ℕ) → length bytes ≡ 136 → bytes_of (port_of bytes) ≡ bytes
bytes_back bytes long =
    ap (λ (t : List ℕ). control_bytes (control_of bytes) ++ t) (sym (two_ranges 8 64 64 bytes long))
    ∙ controls_first bytes (omega (arith, long))

pub port_back : (p : Port) → length p.request ≡ 64 → length p.response ≡ 64 → port_of (bytes_of p) ≡ p
port_back p e f =
    let request : range 8 64 (bytes_of p) ≡ p.request = take_at p.request p.response 64 e in
    let response : range 72 64 (bytes_of p) ≡ p.response =
    ap (take 64) (drop_at p.request p.response 64 e) ∙ take_all 64 p.response (omega (arith, f)) in
    λ i. record { control = p.control; request = request i; response = response i }
