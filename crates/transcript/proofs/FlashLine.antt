-- Laws of the flash line, block by block.
use mathlib.Core.Path.{◌≡◌, refl, sym, ap, ◌∙◌}
use mathlib.Core.List.{List, [], ◌∷◌, ◌++◌, append_assoc}
use Prim.Native.Nat.{ℕ, suc, ◌+◌, ◌-◌, ◌≤◌, ◌<◌}
use native.Mathlib.Omega.{arith}
use native.Mathlib.Numerals.{add-one}
use Rattle.transcript.specs.Printing.{count_text, counts_from, flash_word, flash_line}

-- the counts from a block on, and the end of the line
abbrev pub counts_left : ℕ → List ℕ → List ℕ
counts_left block flash = counts_from (4 - block) block flash ++ (10 ∷ [])

counts_suc : (n block : ℕ) (flash : List ℕ) → counts_from (suc n) block flash ≡ count_text block flash ++ counts_from n (suc block) flash
unfolding counts_from
counts_suc n block flash = refl

pub counts_more : (block : ℕ) (flash : List ℕ) → block < 4 → counts_left block flash ≡ count_text block flash ++ counts_left (block + 1) flash
counts_more block flash h =
    ap (λ (n : ℕ). counts_from n block flash ++ (10 ∷ [])) one
    ∙ ap (λ (t : List ℕ). t ++ (10 ∷ [])) (counts_suc (4 - (block + 1)) block flash)
    ∙ append_assoc (count_text block flash) (counts_from (4 - (block + 1)) (suc block) flash) (10 ∷ [])
    ∙ ap (λ (k : ℕ). count_text block flash ++ (counts_from (4 - (block + 1)) k flash ++ (10 ∷ []))) (sym (add-one block))
  where
    one : 4 - block ≡ suc (4 - (block + 1))
    one = omega arith

pub counts_none : (block : ℕ) (flash : List ℕ) → 4 ≤ block → counts_left block flash ≡ (10 ∷ []) ++ []
unfolding counts_from
counts_none block flash h = ap (λ (n : ℕ). counts_from n block flash ++ (10 ∷ [])) none
  where
    none : 4 - block ≡ 0
    none = omega arith

pub flash_line_lem : (flash : List ℕ) → flash_word ++ counts_left 0 flash ≡ flash_line 4 flash
unfolding flash_line
flash_line_lem flash = refl
