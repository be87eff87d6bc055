-- The reader's and the writer's definitions agree: the reader accepts exactly the encodings of numbers below 2^32, a number that was
-- written is read back, and a number that was read is written back over its own bytes.
use mathlib.Core.Path.{◌≡◌, refl, sym, ap, ◌∙◌, subst}
use mathlib.Core.Bool.{true, false}
use mathlib.Core.List.{List, [], ◌∷◌, ◌++◌}
use mathlib.Core.Logic.{◌↔◌, ⊎_elim}
use Prim.Native.Nat.{ℕ, zero, suc, ◌+◌, ◌*◌, ◌/◌, ◌%◌, ◌^◌, ◌≤◌, ◌<◌}
use native.Mathlib.Numerals.{add-one}
use native.Mathlib.Omega.{arith}
use lib.Dec.{leb, ltb, eqb}
use lib.ListN.{length, get_or, take, drop, take-append-drop, length-take, length-drop}
use lib.Seq.{length-take-le, drop_at, take_at, drop-drop, get_or-drop}
use borrow.Author.Tests.{lt-ltb, le-ltb, ne_eqb, le-leb, ltb-true, leb-true, eqb-false}
use Rattle.buffers.specs.Ranges.{range, replace}
use Rattle.units.proofs.Cases.{below_or, decided}
use Rattle.std.specs.Prelude.{Some, None, Result, Ok, Err}
use Rattle.leb128.specs.declared.Number.{Number}
use Rattle.leb128.specs.declared.ReadError.{ReadError}
use Rattle.leb128.specs.declared.ReadError.TheVariants.{Malformed}
use Rattle.leb128.specs.Groups.{groups, encode, Decoded, found, cut_short, not_shortest, before, decode, bounded, read_at, written_at, bytes_after}
use Rattle.leb128.proofs.Encode.{encode_small, encode_large, encode_some}

-- ---- an encoding is read

one_group : (n : ℕ) (rest : List ℕ) → n < 128 → decode (n ∷ rest) ≡ found n 1
unfolding decode
one_group n rest h = rw (lt-ltb n 128 h)

several_groups : (n size : ℕ) (bytes : List ℕ) → 128 ≤ n → decode bytes ≡ found (n / 128) size
    → decode ((n % 128 + 128) ∷ bytes) ≡ found n (suc size)
unfolding decode
several_groups n size bytes h e =
    let goes_on : ltb (n % 128 + 128) 128 ≡ false = le-ltb (n % 128 + 128) 128 (omega arith) in
    let shortest : eqb (n / 128) 0 ≡ false = ne_eqb (n / 128) 0 (λ z. omega arith) in
    rw (goes_on, e, shortest) (ap (λ (v : ℕ). found v (size + 1)) value ∙ ap (λ (k : ℕ). found n k) count)
  where
    value : n / 128 * 128 + (n % 128 + 128) % 128 ≡ n
    value = omega arith

    count : size + 1 ≡ suc size
    count = omega arith

decode_groups : (most n : ℕ) (rest : List ℕ) → n ≤ most → decode (groups most n ++ rest) ≡ found n (length (groups most n))
unfolding groups
decode_groups zero n rest h = one_group n rest (omega arith)
decode_groups (suc most) n rest h =
    ⊎_elim
    (λ (s : n < 128). rw (lt-ltb n 128 s) (one_group n rest s))
    (λ (l : 128 ≤ n). rw (le-ltb n 128 l)
    (several_groups n (length (groups most (n / 128))) (groups most (n / 128) ++ rest) l (decode_groups most (n / 128) rest (omega arith))))
    (below_or n 128)

pub decode_encode : (n : ℕ) (rest : List ℕ) → decode (encode n ++ rest) ≡ found n (length (encode n))
unfolding encode
decode_encode n rest = decode_groups n n rest (omega arith)

-- ---- nothing else is

-- what `decode` says of bytes: they begin with the encoding of the number, which has so many bytes
Encoded : List ℕ → Decoded → Type 0
Encoded s (found n size) = (s ≡ encode n ++ drop size s) × (size ≡ length (encode n))
Encoded s cut_short = Unit
Encoded s not_shortest = Unit

-- a group that goes on, before the encoding of a number other than 0
encode_more : (b rest : ℕ) → 128 ≤ b → b < 256 → 0 < rest → encode (rest * 128 + b % 128) ≡ b ∷ encode rest
encode_more b rest l h p =
    encode_large (rest * 128 + b % 128) (omega arith)
    ∙ ap (λ (x : ℕ). x ∷ encode ((rest * 128 + b % 128) / 128)) low
    ∙ ap (λ (x : ℕ). b ∷ encode x) high
  where
    low : (rest * 128 + b % 128) % 128 + 128 ≡ b
    low = omega arith

    high : (rest * 128 + b % 128) / 128 ≡ rest
    high = omega arith

encoded_one : (b : ℕ) (bs : List ℕ) → b < 128 → Encoded (b ∷ bs) (found b 1)
unfolding Encoded
encoded_one b bs h = (rw (encode_small b h), rw (encode_small b h))

encoded_more : (b : ℕ) (bs : List ℕ) → 128 ≤ b → b < 256 → (r : Decoded) → Encoded bs r → Encoded (b ∷ bs) (before (b % 128) r)
unfolding Encoded
encoded_more b bs l h cut_short e = tt
encoded_more b bs l h not_shortest e = tt
encoded_more b bs l h (found rest size) e =
    ⊎_elim
    (λ (z : eqb rest 0 ≡ true). rw z tt)
    (λ (z : eqb rest 0 ≡ false). rw z (whole (encode_more b rest l h (positive z))))
    (decided (eqb rest 0))
  where
    positive : eqb rest 0 ≡ false → 0 < rest
    positive z = let p : rest ≡ 0 → ⊥ = eqb-false rest 0 z in omega arith

    whole : {xs : List ℕ} → xs ≡ b ∷ encode rest → (b ∷ bs ≡ xs ++ drop (size + 1) (b ∷ bs)) × (size + 1 ≡ length xs)
    whole q = (rw (q, add-one) (ap (λ (t : List ℕ). b ∷ t) e.0), rw (q, add-one) (ap suc e.1))

encoded : (s : List ℕ) → ((i : ℕ) → get_or s i 0 < 256) → Encoded s (decode s)
unfolding Encoded decode
encoded [] bytes = tt
encoded (b ∷ bs) bytes =
    ⊎_elim
    (λ (h : b < 128). rw (lt-ltb b 128 h) (encoded_one b bs h))
    (λ (h : 128 ≤ b). rw (le-ltb b 128 h) (encoded_more b bs h (bytes 0) (decode bs) (encoded bs (λ i. bytes (suc i)))))
    (below_or b 128)

-- ---- at an offset

-- a number and the offset past it, as the reader answers them
abbrev pub read_as : ℕ → ℕ → Result Number ReadError
read_as value next = Ok (record { value = value; next = next })

-- the encoding of a number below 2^32 stands at the offset, and ends at next
abbrev pub Stands : List ℕ → ℕ → ℕ → ℕ → Type 0
Stands s at value next = (value < 2 ^ 32) × (range at (length (encode value)) s ≡ encode value) × (next ≡ at + length (encode value))

reads : (s : List ℕ) (at value next : ℕ) → Stands s at value next → read_at s at ≡ read_as value next
unfolding read_at
reads s at value next h =
    let size = length (encode value) in
    let split : drop at s ≡ encode value ++ drop size (drop at s) =
    sym (take-append-drop size (drop at s)) ∙ ap (λ (t : List ℕ). t ++ drop size (drop at s)) h.1 in
    ap (λ (t : List ℕ). bounded at (decode t)) split
    ∙ ap (bounded at) (decode_encode value (drop size (drop at s)))
    ∙ rw (lt-ltb value (2 ^ 32) h.0) (ap (read_as value) (sym h.2))

stands : (s : List ℕ) (at value next : ℕ) (r : Decoded) → Encoded (drop at s) r → bounded at r ≡ read_as value next → Stands s at value next
unfolding Encoded
stands s at value next cut_short x e = let z : ◌≡◌ {A = ℕ} 0 1 = cc in absurd (omega arith)
stands s at value next not_shortest x e = let z : ◌≡◌ {A = ℕ} 0 1 = cc in absurd (omega arith)
stands s at value next (found n size) x e =
    ⊎_elim
    (λ (t : ltb n (2 ^ 32) ≡ true). at_value t (rw t at e))
    (λ (t : ltb n (2 ^ 32) ≡ false). absurd (never (rw t at e)))
    (decided (ltb n (2 ^ 32)))
  where
    never : Err Malformed ≡ read_as value next → ⊥
    never e = let z : ◌≡◌ {A = ℕ} 0 1 = cc in omega arith

    here : Stands s at n (at + size) → read_as n (at + size) ≡ read_as value next → Stands s at value next
    here p e =
        let a : Number = record { value = n; next = at + size } in
        let b : Number = record { value = value; next = next } in
        let r : a ≡ b = cc in
        rw (← (ap (λ (x : Number). x.value) r), ← (ap (λ (x : Number). x.next) r)) p

    at_value : ltb n (2 ^ 32) ≡ true → read_as n (at + size) ≡ read_as value next → Stands s at value next
    at_value t e =
        here (
          ltb-true n (2 ^ 32) t,
          ap (take (length (encode n))) x.0 ∙ take_at (encode n) (drop size (drop at s)) (length (encode n)) refl,
          ap (λ (k : ℕ). at + k) x.1,
        )
        e

-- the reader accepts exactly the encodings of numbers below 2^32, and gives the number and the next offset
pub accepts : (s : List ℕ) → ((i : ℕ) → get_or s i 0 < 256) → (at value next : ℕ) → (read_at s at ≡ read_as value next) ↔ Stands s at value next
unfolding read_at
accepts s bytes at value next = (
  λ e. stands s at value next (decode (drop at s)) (encoded (drop at s) (λ i. subst (λ (b : ℕ). b < 256) (sym (get_or-drop at s i 0)) (bytes (at + i)))) e,
  reads s at value next,
)

-- what was written is read back
pub written_is_read : (s : List ℕ) (at value next : ℕ) → value < 2 ^ 32 → written_at value at s ≡ Some next → read_at (bytes_after value at s) at ≡ read_as value next
written_is_read s at value next h w =
    ⊎_elim
    (λ (t : leb (at + length (encode value)) (length s) ≡ true). rw t (reads (replace at (encode value) s) at value next (h, there (leb-true _ _ t), end (rw t at w))))
    (λ (t : leb (at + length (encode value)) (length s) ≡ false). absurd (never (rw t at w)))
    (decided (leb (at + length (encode value)) (length s)))
  where
    never : None ≡ Some next → ⊥
    never e = let z : ◌≡◌ {A = ℕ} 0 1 = cc in omega arith

    end : Some (at + length (encode value)) ≡ Some next → next ≡ at + length (encode value)
    end e = cc

    there : at + length (encode value) ≤ length s → range at (length (encode value)) (replace at (encode value) s) ≡ encode value
    there f =
        ap (take (length (encode value))) (drop_at (take at s) (encode value ++ drop (at + length (encode value)) s) at (length-take-le at s (omega arith)))
        ∙ take_at (encode value) (drop (at + length (encode value)) s) (length (encode value)) refl

-- what was read is written back over its own bytes
pub read_is_written : (s : List ℕ) → ((i : ℕ) → get_or s i 0 < 256) → (at value next : ℕ) → read_at s at ≡ read_as value next
    → (written_at value at s ≡ Some next) × (bytes_after value at s ≡ s)
read_is_written s bytes at value next e =
    let h : Stands s at value next = (accepts s bytes at value next).0 e in
    let size = length (encode value) in
    let long : length (range at size s) ≡ size = ap length h.1 in
    let fits : at + size ≤ length s = omega (arith, encode_some value, simp (length-take, length-drop) at long) in
    let room : leb (at + size) (length s) ≡ true = le-leb (at + size) (length s) fits in (
      rw room (ap (λ (n : ℕ). Some n) (sym h.2)),
      rw room
          (ap (λ (t : List ℕ). take at s ++ (t ++ drop (at + size) s)) (sym h.1)
          ∙ ap (λ (t : List ℕ). take at s ++ (take size (drop at s) ++ t)) (sym (drop-drop size at s))
          ∙ ap (λ (t : List ℕ). take at s ++ t) (take-append-drop size (drop at s))
          ∙ take-append-drop at s),
    )
