-- What one action of a block leaves, from what the chip's two actions promise.
use Rattle.std.proofs.Common.{◌≡◌, ℕ, List, suc, ◌-◌, ◌<◌, [], ◌∷◌, sym, ap, ◌∙◌, arith}
use Rattle.chip.specs.Actions.{erase_block, program_page}
use Rattle.flush.specs.Actions.{program, perform_all}
use Rattle.flush.specs.Locate.{nth_of}
use Rattle.flush.proofs.Lists.{perform_one, erase_is, program_is}

-- the first is the erase
pub acted_erase : (memory part : List ℕ) (b nth : ℕ) → nth ≡ 0 → perform_all memory (nth_of b nth ∷ []) part ≡ erase_block b part
acted_erase memory part b nth e =
    ap (λ (n : ℕ). perform_all memory (nth_of b n ∷ []) part) e ∙ erase_is memory b part

-- each other is the page before it
pub acted_page : (memory part : List ℕ) (b nth : ℕ) → 0 < nth → perform_all memory (nth_of b nth ∷ []) part ≡ program_page b (nth - 1) memory part
acted_page memory part b nth h =
    let next : suc (nth - 1) ≡ nth = omega arith in
    ap (λ (n : ℕ). perform_all memory (nth_of b n ∷ []) part) (sym next) ∙ perform_one memory (program b (nth - 1)) part ∙ program_is memory b (nth - 1) part
