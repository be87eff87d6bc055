-- Laws of `encode`: what the definition says without its bound, and what a write leaves.
use mathlib.Core.Path.{◌≡◌, refl, sym, ap, ◌∙◌}
use mathlib.Core.Bool.{Bool, true, false}
use mathlib.Core.List.{List, [], ◌∷◌, ◌++◌, append_assoc}
use mathlib.Core.Logic.{⊎_elim}
use Prim.Native.Nat.{ℕ, zero, suc, ◌+◌, ◌/◌, ◌%◌, ◌≤◌, ◌<◌}
use Rattle.units.proofs.Cases.{below_or, decided}
use native.Mathlib.Numerals.{add-one}
use native.Mathlib.Omega.{arith}
use lib.Dec.{leb}
use lib.ListN.{length, get_or, set, take, drop}
use lib.Seq.{set_split, set_at, take-suc, length-take-le}
use borrow.Author.Tests.{lt-ltb, le-ltb, le-leb, lt-leb}
use Rattle.buffers.specs.Ranges.{replace}
use Rattle.std.specs.Prelude.{Some, None}
use Rattle.leb128.specs.Groups.{groups, encode, written_at, bytes_after}

-- any two bounds that are large enough give the same groups
enough : (a b n : ℕ) → n ≤ a → n ≤ b → groups a n ≡ groups b n
unfolding groups
enough zero zero n p q = refl
enough zero (suc b) n p q = rw (lt-ltb n 128 (omega arith))
enough (suc a) zero n p q = rw (lt-ltb n 128 (omega arith))
enough (suc a) (suc b) n p q =
    ⊎_elim
    (λ (h : n < 128). rw (lt-ltb n 128 h))
    (λ (h : 128 ≤ n). rw (le-ltb n 128 h) (ap (λ (t : List ℕ). (n % 128 + 128) ∷ t) (enough a b (n / 128) (omega arith) (omega arith))))
    (below_or n 128)

-- "a number below 128 is one byte"
pub encode_small : (n : ℕ) → n < 128 → encode n ≡ n ∷ []
unfolding encode groups
encode_small zero h = refl
encode_small (suc n) h = rw (lt-ltb (suc n) 128 h)

-- "a larger one is its low seven bits with the top bit set, followed by the number made of the remaining bits"
pub encode_large : (n : ℕ) → 128 ≤ n → encode n ≡ (n % 128 + 128) ∷ encode (n / 128)
unfolding encode groups
encode_large zero h = absurd (omega arith)
encode_large (suc n) h =
    rw (le-ltb (suc n) 128 h)
    (ap (λ (t : List ℕ). (suc n % 128 + 128) ∷ t) (enough n (suc n / 128) (suc n / 128) (omega arith) (omega arith)))

pub encode_some : (n : ℕ) → 0 < length (encode n)
encode_some n =
    ⊎_elim
    (λ (h : n < 128). rw (encode_small n h) (omega arith))
    (λ (h : 128 ≤ n). rw (encode_large n h) (omega arith))
    (below_or n 128)

-- ---- what a write leaves
set_is_replace : (s : List ℕ) (at v : ℕ) → at < length s → set s at v ≡ replace at (v ∷ []) s
set_is_replace s at v h = set_split s at v h ∙ rw add-one

-- one byte before a replaced range
set_before : (s ys : List ℕ) (at v : ℕ) → at < length s → set (replace (at + 1) ys s) at v ≡ replace at (v ∷ ys) s
set_before s ys at v h =
    let past : at + 1 + length ys ≡ at + suc (length ys) = omega arith in
    ap (λ (t : List ℕ). set (t ++ (ys ++ drop (at + 1 + length ys) s)) at v) (ap (λ (n : ℕ). take n s) (add-one at) ∙ take-suc s at 0 h)
    ∙ ap (λ (t : List ℕ). set t at v) (append_assoc (take at s) (get_or s at 0 ∷ []) (ys ++ drop (at + 1 + length ys) s))
    ∙ set_at (take at s) (get_or s at 0) (ys ++ drop (at + 1 + length ys) s) v at (length-take-le at s (omega arith))
    ∙ ap (λ (n : ℕ). take at s ++ (v ∷ (ys ++ drop n s))) past

module _ (s : List ℕ) (at v : ℕ) where
  pub written_none : length s ≤ at → written_at v at s ≡ None
  written_none h = rw (lt-leb (at + length (encode v)) (length s) (omega (arith, encode_some v)))

  pub write_small : at < length s → v < 128 → (written_at v at s ≡ Some (at + 1)) × (bytes_after v at s ≡ set s at v)
  write_small h k =
      let e : leb (at + 1) (length s) ≡ true = le-leb (at + 1) (length s) (omega arith) in
      (rw (encode_small v k, e), rw (encode_small v k, e) (sym (set_is_replace s at v h)))

  -- its answer, and its byte
  pub written_small : at < length s → v < 128 → written_at v at s ≡ Some (at + 1)
  written_small h k = (write_small h k).0

  pub bytes_small : at < length s → v < 128 → bytes_after v at s ≡ set s at v
  bytes_small h k = (write_small h k).1

  -- a number of several groups ends where the number made of its remaining bits does
  past_large : 128 ≤ v → at + length (encode v) ≡ at + 1 + length (encode (v / 128))
  past_large h = rw (encode_large v h) (omega arith)

  -- so both fit or neither does
  same_room : {t : Bool} → 128 ≤ v → leb (at + 1 + length (encode (v / 128))) (length s) ≡ t → leb (at + length (encode v)) (length s) ≡ t
  same_room h e = ap (λ (n : ℕ). leb n (length s)) (past_large h) ∙ e

  replace_large : at < length s → 128 ≤ v → replace at (encode v) s ≡ set (replace (at + 1) (encode (v / 128)) s) at (v % 128 + 128)
  replace_large h k =
      ap (λ (ys : List ℕ). replace at ys s) (encode_large v k) ∙ sym (set_before s (encode (v / 128)) at (v % 128 + 128) h)

  pub write_large : {next : ℕ} → at < length s → 128 ≤ v → written_at (v / 128) (at + 1) s ≡ Some next
      → (written_at v at s ≡ Some next) × (bytes_after v at s ≡ set (bytes_after (v / 128) (at + 1) s) at (v % 128 + 128))
  write_large {next} h k w =
      ⊎_elim
      (λ (e : leb (at + 1 + length (encode (v / 128))) (length s) ≡ true).
      (rw (past_large k) w, rw (e, same_room k e) (replace_large h k)))
      (λ e. absurd (never (rw e at w)))
      (decided (leb (at + 1 + length (encode (v / 128))) (length s)))
    where
      never : None ≡ Some next → ⊥
      never w = let z : ◌≡◌ {A = ℕ} 0 1 = cc in omega arith

  pub write_unfit : 128 ≤ v → written_at (v / 128) (at + 1) s ≡ None
      → (written_at v at s ≡ None) × (bytes_after v at s ≡ s) × (bytes_after (v / 128) (at + 1) s ≡ s)
  write_unfit k w =
      ⊎_elim
      (λ e. absurd (never (rw e at w)))
      (λ (e : leb (at + 1 + length (encode (v / 128))) (length s) ≡ false).
      (rw (same_room k e), rw (same_room k e), rw e))
      (decided (leb (at + 1 + length (encode (v / 128))) (length s)))
    where
      never : {n : ℕ} → Some n ≡ None → ⊥
      never w = let z : ◌≡◌ {A = ℕ} 0 1 = cc in omega arith
