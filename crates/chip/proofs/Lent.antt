-- What the lent parts leave when they come back, as the contracts say it.
use mathlib.Core.Path.{◌≡◌, refl, ap, ◌∙◌}
use mathlib.Core.Bool.{true}
use mathlib.Core.List.{List}
use Prim.Native.Nat.{ℕ, ◌+◌, ◌-◌, ◌*◌, ◌≤◌, ◌<◌}
use native.Mathlib.Omega.{arith}
use lib.ListN.{length, replicate}
use borrow.Rule.Slice.PartMut.{put_mid, mid_of, mid_len}
use borrow.Author.Tests.{le-leb, lt-ltb}
use Rattle.buffers.specs.Ranges.{range, replace, and_each}
use lib.Bits.{bit_and}
use Rattle.buffers.proofs.Each.{each_length}
use Rattle.buffers.proofs.Replace.{part_back, filled_part}
use Rattle.units.specs.Units.{to_bytes}
use Rattle.chip.specs.Actions.{has_block, erased, erase_block, has_page, programmed, program_page}

pub erased_part : (a e n : ℕ) (xs ys : List ℕ) → a + n ≡ e → e ≤ length xs → ys ≡ replicate (length (mid_of a (e - a) xs)) 0xff
    → put_mid a (e - a) xs ys ≡ erased a n xs
unfolding erased
erased_part a e n xs ys h f q = filled_part a e n 0xff xs ys h f q

programmed_part : (a e n : ℕ) (xs ws ys : List ℕ) → a + n ≡ e → e ≤ length xs → ys ≡ and_each (mid_of a (e - a) xs) (mid_of a (e - a) ws)
    → put_mid a (e - a) xs ys ≡ programmed a n ws xs
unfolding programmed
programmed_part a e n xs ws ys h f q =
    part_back a e xs ys (omega arith) (ap length q ∙ each_length bit_and (mid_of a (e - a) xs) (mid_of a (e - a) ws) ∙ mid_len a e xs f)
    ∙ ap (λ (t : List ℕ). replace a t xs) (q ∙ ap (λ (k : ℕ). and_each (range a k xs) (range a k ws)) count)
  where
    count : e - a ≡ n
    count = omega arith

module _ (b a : ℕ) (flash : List ℕ) (start : a ≡ to_bytes b) where
  pub erase_done : (ys : List ℕ) → a + 4096 ≤ length flash → ys ≡ replicate (length (mid_of a (a + 4096 - a) flash)) 0xff
      → (true ≡ has_block b flash) × (put_mid a (a + 4096 - a) flash ys ≡ erase_block b flash)
  erase_done ys h q =
      let t = le-leb (to_bytes b + 4096) (length flash) (omega arith) in
      (rw t, rw t (erased_part a (a + 4096) 4096 flash ys refl h q ∙ ap (λ (s : ℕ). erased s 4096 flash) start))

  module _ (p : ℕ) (window : List ℕ) where
    pub page_done : (ys : List ℕ) → p < 16 → a + 4096 ≤ length flash → a + 4096 ≤ length window
        → ys ≡ and_each (mid_of (a + p * 256) (a + p * 256 + 256 - (a + p * 256)) flash) (mid_of (a + p * 256) (a + p * 256 + 256 - (a + p * 256)) window)
        → (true ≡ has_page b p window flash)
        × (put_mid (a + p * 256) (a + p * 256 + 256 - (a + p * 256)) flash ys ≡ program_page b p window flash)
    page_done ys h f w q =
        let t = lt-ltb p 16 h in
        let u = le-leb (to_bytes b + 4096) (length flash) (omega arith) in
        let v = le-leb (to_bytes b + 4096) (length window) (omega arith) in (
          rw (t, u, v),
          rw (t, u, v)
              (programmed_part (a + p * 256) (a + p * 256 + 256) 256 flash window ys refl (omega arith) q
              ∙ ap (λ (s : ℕ). programmed (s + p * 256) 256 window flash) start),
        )
