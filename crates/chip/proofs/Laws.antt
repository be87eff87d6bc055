-- The flash after a chip action, byte by byte: laws over any offset and any number of bytes.
use mathlib.Core.Path.{◌≡◌, ap, ◌∙◌}
use mathlib.Core.List.{List}
use mathlib.Core.Logic.{◌⊎◌, ⊎_elim}
use Prim.Native.Nat.{ℕ, ◌+◌, ◌≤◌, ◌<◌}
use native.Mathlib.Omega.{arith}
use lib.Bits.{bit_and}
use lib.ListN.{length, get_or, replicate, length-replicate, get_or-replicate}
use Rattle.buffers.specs.Ranges.{range, replace, and_each}
use Rattle.buffers.proofs.Each.{each_length, each_at}
use Rattle.buffers.proofs.Replace.{range_length, range_at, replace_length, replace_before, replace_inside, replace_after}
use Rattle.chip.specs.Actions.{erased, programmed}

-- ---- any bytes in the place of n others
module _ (at n : ℕ) (ys xs : List ℕ) (size : length ys ≡ n) (fits : at + n ≤ length xs) where
  within : at + length ys ≤ length xs
  within = omega arith

  put_length : length (replace at ys xs) ≡ length xs
  put_length = replace_length at ys xs within

  put_outside : (i : ℕ) → (i < at) ⊎ (at + n ≤ i) → get_or (replace at ys xs) i 0 ≡ get_or xs i 0
  put_outside i = ⊎_elim (replace_before at ys xs within i 0) (λ h. replace_after at ys xs within i 0 (omega arith))

  put_inside : (j : ℕ) → j < n → get_or (replace at ys xs) (at + j) 0 ≡ get_or ys j 0
  put_inside j h = replace_inside at ys xs within j 0 (omega arith)

-- ---- an erase
module _ (at n : ℕ) (flash : List ℕ) (fits : at + n ≤ length flash) where
  pub erased_length : length (erased at n flash) ≡ length flash
  unfolding erased
  erased_length = put_length at n (replicate n 0xff) flash (length-replicate n 0xff) fits

  pub erased_outside : (i : ℕ) → (i < at) ⊎ (at + n ≤ i) → get_or (erased at n flash) i 0 ≡ get_or flash i 0
  unfolding erased
  erased_outside = put_outside at n (replicate n 0xff) flash (length-replicate n 0xff) fits

  pub erased_inside : (j : ℕ) → j < n → get_or (erased at n flash) (at + j) 0 ≡ 0xff
  unfolding erased
  erased_inside j h = put_inside at n (replicate n 0xff) flash (length-replicate n 0xff) fits j h ∙ get_or-replicate n j 0xff 0 h

-- ---- a page action
module _ (at n : ℕ) (window flash : List ℕ) (fits : at + n ≤ length flash) where
  size : length (and_each (range at n flash) (range at n window)) ≡ n
  size = each_length bit_and (range at n flash) (range at n window) ∙ range_length at n flash fits

  pub programmed_length : length (programmed at n window flash) ≡ length flash
  unfolding programmed
  programmed_length = put_length at n (and_each (range at n flash) (range at n window)) flash size fits

  pub programmed_outside : (i : ℕ) → (i < at) ⊎ (at + n ≤ i) → get_or (programmed at n window flash) i 0 ≡ get_or flash i 0
  unfolding programmed
  programmed_outside = put_outside at n (and_each (range at n flash) (range at n window)) flash size fits

  pub programmed_inside : at + n ≤ length window → (j : ℕ) → j < n
      → get_or (programmed at n window flash) (at + j) 0 ≡ bit_and (get_or flash (at + j) 0) (get_or window (at + j) 0)
  unfolding programmed
  programmed_inside w j h =
      put_inside at n (and_each (range at n flash) (range at n window)) flash size fits j h
      ∙ each_at bit_and j (range at n flash) (range at n window) (rw (range_length at n flash fits) h) (rw (range_length at n window w) h)
      ∙ ap (λ (x : ℕ). bit_and x (get_or (range at n window) j 0)) (range_at at n flash j h)
      ∙ ap (λ (x : ℕ). bit_and (get_or flash (at + j) 0) x) (range_at at n window j h)
