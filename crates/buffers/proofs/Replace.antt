-- Laws of a range that is read and of one that is replaced, at any offset and of any size.
use mathlib.Core.Path.{◌≡◌, refl, sym, ap, ◌∙◌, subst}
use mathlib.Core.List.{List, ◌++◌}
use Prim.Native.Nat.{ℕ, ◌+◌, ◌-◌, ◌≤◌, ◌<◌}
use native.Mathlib.Omega.{arith}
use lib.ListN.{length, get_or, take, drop, replicate, length-replicate, take-append-drop, length-append, length-drop, get_or-append}
use lib.Seq.{drop-drop, length-take-le, take_at, drop_at, drop-append-add, get_or-append-add, get_or-take, get_or-drop}
use borrow.Rule.Slice.PartMut.{put_mid, mid_of, mid_len}
use Rattle.buffers.specs.Ranges.{replace, range}

pub range_length : (at n : ℕ) (xs : List ℕ) → at + n ≤ length xs → length (range at n xs) ≡ n
range_length at n xs h = length-take-le n (drop at xs) (rw length-drop (omega arith))

pub range_at : (at n : ℕ) (xs : List ℕ) (j : ℕ) → j < n → get_or (range at n xs) j 0 ≡ get_or xs (at + j) 0
range_at at n xs j h = get_or-take n (drop at xs) j 0 h ∙ get_or-drop at xs j 0

-- what comes back from a lent part &mut s[a..e] is the replaced range
pub part_back : (a e : ℕ) (xs ys : List ℕ) → a ≤ e → length ys ≡ e - a → put_mid a (e - a) xs ys ≡ replace a ys xs
part_back a e xs ys h l =
    ap (λ (t : List ℕ). take a xs ++ (ys ++ t)) (drop-drop (e - a) a xs ∙ ap (λ (n : ℕ). drop (a + n) xs) (sym l))

-- a lent part that comes back with one value everywhere
pub filled_part : (a e n v : ℕ) (xs ys : List ℕ) → a + n ≡ e → e ≤ length xs → ys ≡ replicate (length (mid_of a (e - a) xs)) v
    → put_mid a (e - a) xs ys ≡ replace a (replicate n v) xs
filled_part a e n v xs ys h f q =
    let r : ys ≡ replicate n v = q ∙ ap (λ (k : ℕ). replicate k v) (mid_len a e xs f ∙ count) in
    part_back a e xs ys (omega arith) (ap length r ∙ length-replicate n v ∙ sym count) ∙ ap (λ (t : List ℕ). replace a t xs) r
  where
    count : e - a ≡ n
    count = omega arith

module _ (at : ℕ) (ys xs : List ℕ) (fits : at + length ys ≤ length xs) where
  head_length : length (take at xs) ≡ at
  head_length = length-take-le at xs (omega arith)

  pub replace_length : length (replace at ys xs) ≡ length xs
  replace_length = simp (length-append, length-take-le at xs (omega arith), length-drop) (omega arith)

  pub replace_before : (i d : ℕ) → i < at → get_or (replace at ys xs) i d ≡ get_or xs i d
  replace_before i d h =
      get_or-append (take at xs) (ys ++ drop (at + length ys) xs) d i (subst (λ (n : ℕ). i < n) (sym head_length) h)
      ∙ get_or-take at xs i d h

  -- past the head, at offset j from it
  rest : (j d : ℕ) → get_or (replace at ys xs) (at + j) d ≡ get_or (ys ++ drop (at + length ys) xs) j d
  rest j d =
      ap (λ (n : ℕ). get_or (replace at ys xs) (n + j) d) (sym head_length)
      ∙ get_or-append-add (take at xs) (ys ++ drop (at + length ys) xs) j d

  pub replace_inside : (j d : ℕ) → j < length ys → get_or (replace at ys xs) (at + j) d ≡ get_or ys j d
  replace_inside j d h = rest j d ∙ get_or-append ys (drop (at + length ys) xs) d j h

  pub replace_after : (i d : ℕ) → at + length ys ≤ i → get_or (replace at ys xs) i d ≡ get_or xs i d
  replace_after i d h =
      ap (λ (n : ℕ). get_or (replace at ys xs) n d) (split i h)
      ∙ rest (length ys + (i - (at + length ys))) d
      ∙ get_or-append-add ys (drop (at + length ys) xs) (i - (at + length ys)) d
      ∙ get_or-drop (at + length ys) xs (i - (at + length ys)) d
      ∙ ap (λ (n : ℕ). get_or xs n d) (join i h)
    where
      split : (i : ℕ) → at + length ys ≤ i → i ≡ at + (length ys + (i - (at + length ys)))
      split i h = omega arith

      join : (i : ℕ) → at + length ys ≤ i → at + length ys + (i - (at + length ys)) ≡ i
      join i h = omega arith

-- ---- a range that is read after it was replaced, put back, or replaced again
pub replace_same : (at n : ℕ) (xs : List ℕ) → at + n ≤ length xs → replace at (range at n xs) xs ≡ xs
replace_same at n xs h =
    ap (λ (k : ℕ). take at xs ++ (range at n xs ++ drop (at + k) xs)) (range_length at n xs h)
    ∙ ap (λ (t : List ℕ). take at xs ++ (range at n xs ++ t)) (sym (drop-drop n at xs))
    ∙ ap (λ (t : List ℕ). take at xs ++ t) (take-append-drop n (drop at xs))
    ∙ take-append-drop at xs

module _ (at : ℕ) (ys xs : List ℕ) (fits : at + length ys ≤ length xs) where
  pub range_replace : range at (length ys) (replace at ys xs) ≡ ys
  range_replace =
      ap (take (length ys)) (drop_at (take at xs) (ys ++ drop (at + length ys) xs) at (length-take-le at xs (omega arith)))
      ∙ take_at ys (drop (at + length ys) xs) (length ys) refl

  pub replace_again : (zs : List ℕ) → length zs ≡ length ys → replace at zs (replace at ys xs) ≡ replace at zs xs
  replace_again zs e =
      ap (λ (t : List ℕ). t ++ (zs ++ drop (at + length zs) (replace at ys xs)))
      (take_at (take at xs) (ys ++ drop (at + length ys) xs) at (length-take-le at xs (omega arith)))
      ∙ ap (λ (t : List ℕ). take at xs ++ (zs ++ t)) after
    where
      after : drop (at + length zs) (replace at ys xs) ≡ drop (at + length zs) xs
      after =
          ap (λ (k : ℕ). drop (k + length zs) (replace at ys xs)) (sym (length-take-le at xs (omega arith)))
          ∙ drop-append-add (take at xs) (ys ++ drop (at + length ys) xs) (length zs)
          ∙ drop_at ys (drop (at + length ys) xs) (length zs) (sym e)
          ∙ ap (λ (k : ℕ). drop (at + k) xs) (sym e)
