-- A new window: its size, and its blocks copied to the front of the window memory.
use Rattle.std.proofs.Common.{◌≡◌, sym, ap, ◌∙◌, true, false, List, ⊎_elim, ℕ, ◌+◌, ◌-◌, ◌≤◌, ◌<◌, arith, eqb, length}
use borrow.Rule.Slice.PartMut.{put_mid, mid_of, mid_len}
use Rattle.buffers.specs.Ranges.{range, replace, copy_each}
use Rattle.buffers.proofs.Each.{copy_whole}
use Rattle.buffers.proofs.Replace.{part_back}
use Rattle.units.specs.Units.{to_bytes}
use Rattle.units.proofs.Cases.{decided}
use Rattle.mailbox.specs.Commands.{size_for}

pub copied_front : (flash memory ys : List ℕ) (a n first size : ℕ) → a ≡ to_bytes first → n ≡ to_bytes size → a + n ≤ length flash → n ≤ length memory
    → ys ≡ copy_each (mid_of 0 (n - 0) memory) (mid_of a (a + n - a) flash)
    → put_mid 0 (n - 0) memory ys ≡ replace 0 (range (to_bytes first) (to_bytes size) flash) memory
copied_front flash memory ys a n first size start count fits room q =
    part_back 0 n memory ys (omega arith) (ap length whole ∙ mid_len a (a + n) flash fits ∙ both)
    ∙ ap (λ (t : List ℕ). replace 0 t memory) (whole ∙ ap (λ (k : ℕ). mid_of a k flash) (both ∙ lone) ∙ ap (λ (k : ℕ). range k n flash) start ∙ ap (λ (k : ℕ). range (to_bytes first) k flash) count)
  where
    both : a + n - a ≡ n - 0
    both = omega arith

    lone : n - 0 ≡ n
    lone = omega arith

    whole : ys ≡ mid_of a (a + n - a) flash
    whole = q ∙ copy_whole (mid_of 0 (n - 0) memory) (mid_of a (a + n - a) flash) (mid_len a (a + n) flash fits ∙ both ∙ sym (mid_len 0 n memory room))

-- a window of the size that is answered lies in the flash and in the window memory
pub size_fits : (S C o n : ℕ) → o < S → (o + size_for S C o n ≤ S) × (size_for S C o n ≤ C)
size_fits S C o n h =
    ⊎_elim
    (λ (t : eqb n 0 ≡ true). rw t (omega arith))
    (λ (t : eqb n 0 ≡ false). rw t (omega arith))
    (decided (eqb n 0))
