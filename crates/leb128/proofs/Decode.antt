-- Laws of `decode` at an offset of a list, for the reader's loops.
use mathlib.Core.Path.{◌≡◌, refl, sym, ap, ◌∙◌, subst}
use mathlib.Core.List.{List, [], ◌∷◌}
use mathlib.Core.Logic.{◌⊎◌, inl, inr}
use Prim.Native.Nat.{ℕ, zero, suc, ◌+◌, ◌-◌, ◌*◌, ◌%◌, ◌^◌, ◌≤◌, ◌<◌}
use native.Mathlib.Numerals.{add-one}
use native.Mathlib.Omega.{arith}
use lib.ListN.{length, get_or, drop, length-drop}
use lib.Seq.{drop-cons, get_or-drop}
use borrow.Author.Tests.{lt-ltb, le-ltb, eq-eqb, ne_eqb}
use Rattle.std.specs.Prelude.{Ok, Err}
use Rattle.std.specs.List.{All, HoldsAt, AllWithin}
use Rattle.leb128.specs.declared.ReadError.TheVariants.{Short, Malformed}
use Rattle.leb128.specs.Groups.{Decoded, found, cut_short, not_shortest, decode, before, bounded, read_at}
use Rattle.leb128.specs.Run.{Run}

-- a byte below 128 ends the number
pub decode_last : (s : List ℕ) (i : ℕ) → i < length s → get_or s i 0 < 128 → decode (drop i s) ≡ found (get_or s i 0) 1
unfolding decode
decode_last s i h k = rw (drop-cons s i 0 h, lt-ltb _ _ k)

-- any other stands before what follows it
pub decode_more : (s : List ℕ) (i : ℕ) → i < length s → 128 ≤ get_or s i 0 → decode (drop i s) ≡ before (get_or s i 0 % 128) (decode (drop (i + 1) s))
unfolding decode
decode_more s i h k = rw (drop-cons s i 0 h, le-ltb _ _ k, add-one)

-- groups that all go on do not end a number
goes_on : (xs : List ℕ) → All (λ b. 128 ≤ b) xs → decode xs ≡ cut_short
unfolding decode
goes_on [] h = refl
goes_on (b ∷ bs) h = rw (le-ltb b 128 (h 0 0 (omega arith)), goes_on bs (λ k d q. h (suc k) d (omega arith)))

pub read_short : (s : List ℕ) (at : ℕ) → All (λ b. 128 ≤ b) (drop at s) → read_at s at ≡ Err Short
unfolding read_at
read_short s at h = ap (bounded at) (goes_on (drop at s) h)

-- what holds of the number read at j holds of that read at an offset before it, if groups that go on lie between and keep it
pub spread : (P : Decoded → Type 0) → ((low : ℕ) (r : Decoded) → P r → P (before low r)) → (s : List ℕ) (d at j : ℕ) → at + d ≡ j
    → ((i : ℕ) → i < j → at ≤ i → (128 ≤ get_or s i 0) × (i < length s)) → P (decode (drop j s)) → P (decode (drop at s))
spread P keeps s zero at j e run p = subst (λ (n : ℕ). P (decode (drop n s))) (same at j e) p
  where
    same : (at j : ℕ) → at + 0 ≡ j → j ≡ at
    same at j e = omega arith
spread P keeps s (suc d) at j e run p =
    let here = run at (omega arith) (omega arith) in
    rw (decode_more s at here.1 here.0)
    (keeps (get_or s at 0 % 128) (decode (drop (at + 1) s))
    (spread P keeps s d (at + 1) j (omega arith) (λ i h k. run i h (omega arith)) p))

-- refused, and so is whatever it stands behind
pub data Refused : Decoded → Type 0 where
  longer : Refused not_shortest
  large : {value size : ℕ} → 2 ^ 32 ≤ value → Refused (found value size)

refused_before : (low : ℕ) (r : Decoded) → Refused r → Refused (before low r)
refused_before low cut_short x' = elim x' [ ]
refused_before low not_shortest longer = longer
refused_before low (found value size) (large h) =
    rw (ne_eqb value 0 (λ e. omega arith)) (large {value = value * 128 + low} (omega arith))

refused_bounded : (at : ℕ) {r : Decoded} → Refused r → bounded at r ≡ Err Malformed
refused_bounded at longer = refl
refused_bounded at (large {value} h) = rw (le-ltb value (2 ^ 32) h)

-- the first byte from an offset on whose top bit is clear ends such groups
pub run_to_first : (s : List ℕ) (at i : ℕ) → (i < length (drop at s)) × HoldsAt (λ b. b < 128) (drop at s) i × AllWithin (λ b. 128 ≤ b) (drop at s) 0 i
    → (at + i < length s) × Run s at (at + i)
run_to_first s at i h =
    let size = length-drop at s in (
      omega arith,
      record {
        rises = omega arith;
        set = λ k p q. (subst (λ (j : ℕ). 128 ≤ get_or s j 0) (at_more k q) (rw get_or-drop at (h.2 (k - at) 0 (omega arith) (omega arith))), omega arith);
        clear = λ p. rw get_or-drop at (h.1 0);
      },
    )
  where
    at_more : (k : ℕ) → at ≤ k → at + (k - at) ≡ k
    at_more k q = omega arith

module _ (s : List ℕ) (at last : ℕ) (run : Run s at last) where
  -- the number behind offset i, with a group before it
  module _ (i value : ℕ) (low : at < i) (high : i ≤ last) (read : decode (drop i s) ≡ found value (last + 1 - i)) where
    pub read_before : decode (drop (i - 1) s) ≡ before (get_or s (i - 1) 0 % 128) (found value (last + 1 - i))
    read_before =
        let here = run.set (i - 1) (omega arith) (omega arith) in
        decode_more s (i - 1) here.1 here.0
        ∙ ap (λ (n : ℕ). before (get_or s (i - 1) 0 % 128) (decode (drop n s))) (back i low)
        ∙ ap (before (get_or s (i - 1) 0 % 128)) read
      where
        back : (i : ℕ) → at < i → i - 1 + 1 ≡ i
        back i h = omega arith

    refuse : Refused (decode (drop (i - 1) s)) → read_at s at ≡ Err Malformed
    unfolding read_at
    refuse r =
        refused_bounded at
        (spread Refused refused_before s (i - 1 - at) at (i - 1) (omega arith) (λ k p q. run.set k (omega arith) q) r)

    -- not the shortest form, or 2^32 or more with the next group
    pub read_refused : (value ≡ 0) ⊎ (0x1ff_ffff < value) → read_at s at ≡ Err Malformed
    read_refused (inl e) = refuse (subst Refused (sym (read_before ∙ rw (eq-eqb value 0 e))) longer)
    read_refused (inr h) =
        refuse (subst Refused (sym (read_before ∙ rw (ne_eqb value 0 (λ e. omega arith))))
        (large {value = value * 128 + get_or s (i - 1) 0 % 128} {size = last + 1 - i + 1} (omega arith)))

    -- one group more
    pub read_more : 0 < value → decode (drop (i - 1) s) ≡ found (value * 128 + get_or s (i - 1) 0 % 128) (last + 1 - (i - 1))
    read_more h =
        read_before ∙ rw (ne_eqb value 0 (λ e. omega arith))
        (ap (λ (n : ℕ). found (value * 128 + get_or s (i - 1) 0 % 128) n) (count i low high))
      where
        count : (i : ℕ) → at < i → i ≤ last → last + 1 - i + 1 ≡ last + 1 - (i - 1)
        count i h k = omega arith

  -- all groups are read
  pub read_whole : (value : ℕ) → decode (drop at s) ≡ found value (last + 1 - at) → value < 2 ^ 32 → read_at s at ≡ Ok (record { value = value; next = last + 1 })
  unfolding read_at
  read_whole value e h =
      ap (bounded at) e ∙ rw (lt-ltb value (2 ^ 32) h) (ap (λ (n : ℕ). Ok (record { value = value; next = n })) (omega (arith, run.rises)))
