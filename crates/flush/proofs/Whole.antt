-- The window's part and the rest of the flash: what actions in the window leave of the whole flash, one list of actions after another, and
-- a flush that is run to its end after a cut.
use mathlib.Core.Path.{◌≡◌, refl, sym, ap, ◌∙◌}
use mathlib.Core.Bool.{true}
use mathlib.Core.List.{List, [], ◌++◌}
use mathlib.Core.Logic.{◌⊎◌, ⊎_elim}
use Prim.Native.Nat.{ℕ, ◌+◌, ◌/◌, ◌≤◌, ◌<◌}
use native.Mathlib.Omega.{arith}
use lib.ListN.{length, get_or, take}
use Rattle.units.specs.Units.{to_bytes}
use Rattle.buffers.specs.Ranges.{range, replace}
use Rattle.buffers.proofs.Replace.{range_length, range_replace, replace_same, replace_again, replace_length, replace_before, replace_after}
use Rattle.session.specs.declared.Session.{Session}
use Rattle.session.specs.Marks.{programs}
use Rattle.soundness.specs.Soundness.{marks_sound}
use Rattle.flush.specs.Actions.{Action, perform_all}
use Rattle.flush.specs.Window.{window_actions, window_part, part_end, perform_in}
use Rattle.flush.proofs.Lists.{perform_none, perform_append}
use Rattle.flush.proofs.Bytes.{AllIn, performed_length}
use Rattle.flush.proofs.Cuts.{all_append, all_take, all_flush, cut_clean, flush_same}

in_is : (s : Session) (memory : List ℕ) (actions : List Action) (flash : List ℕ)
    → perform_in s memory actions flash ≡ replace (to_bytes s.first) (perform_all memory actions (window_part s flash)) flash
unfolding perform_in
in_is s memory actions flash = refl

-- what is done goes by the window's place and size alone
pub in_same : (s t : Session) → s.first ≡ t.first → s.size ≡ t.size → (memory : List ℕ) (actions : List Action) (flash : List ℕ)
    → perform_in s memory actions flash ≡ perform_in t memory actions flash
unfolding perform_in
in_same s t f z memory actions flash =
    ap (λ (a : ℕ). replace (to_bytes a) (perform_all memory actions (range (to_bytes a) (to_bytes s.size) flash)) flash) f
    ∙ ap (λ (n : ℕ). replace (to_bytes t.first) (perform_all memory actions (range (to_bytes t.first) (to_bytes n) flash)) flash) z

module _ (s : Session) (flash : List ℕ) (fits : part_end s ≤ length flash) where
  pub part_length : length (window_part s flash) ≡ to_bytes s.size
  part_length = range_length (to_bytes s.first) (to_bytes s.size) flash fits

  module _ (memory : List ℕ) (room : to_bytes s.size ≤ length memory) where
    -- nothing done
    pub in_none : perform_in s memory [] flash ≡ flash
    unfolding perform_in
    in_none =
        ap (λ (t : List ℕ). replace (to_bytes s.first) t flash) (perform_none memory (window_part s flash))
        ∙ replace_same (to_bytes s.first) (to_bytes s.size) flash fits

    module _ (actions : List Action) (all : AllIn s.size actions) where
      done_length : length (perform_all memory actions (window_part s flash)) ≡ to_bytes s.size
      done_length = performed_length s.size memory room actions all (window_part s flash) part_length ∙ part_length

      within : to_bytes s.first + length (perform_all memory actions (window_part s flash)) ≤ length flash
      within = omega (arith, done_length)

      pub in_length : length (perform_in s memory actions flash) ≡ length flash
      unfolding perform_in
      in_length = replace_length (to_bytes s.first) (perform_all memory actions (window_part s flash)) flash within

      -- the part holds what the actions make of it
      pub in_part : window_part s (perform_in s memory actions flash) ≡ perform_all memory actions (window_part s flash)
      unfolding perform_in
      in_part =
          ap (λ (n : ℕ). range (to_bytes s.first) n (replace (to_bytes s.first) (perform_all memory actions (window_part s flash)) flash)) (sym done_length)
          ∙ range_replace (to_bytes s.first) (perform_all memory actions (window_part s flash)) flash within

      -- and every byte outside the part stays
      pub in_outside : (x : ℕ) → (x < to_bytes s.first) ⊎ (part_end s ≤ x) → get_or (perform_in s memory actions flash) x 0 ≡ get_or flash x 0
      unfolding perform_in
      in_outside x =
          ⊎_elim
          (replace_before (to_bytes s.first) (perform_all memory actions (window_part s flash)) flash within x 0)
          (λ h. replace_after (to_bytes s.first) (perform_all memory actions (window_part s flash)) flash within x 0 (omega (arith, done_length)))

      -- the part is read anew and replaced again: only what is put there counts
      again : (zs : List ℕ) → length zs ≡ to_bytes s.size
          → replace (to_bytes s.first) zs (perform_in s memory actions flash) ≡ replace (to_bytes s.first) zs flash
      unfolding perform_in
      again zs e =
          replace_again (to_bytes s.first) (perform_all memory actions (window_part s flash)) flash within zs (e ∙ sym done_length)

    -- one list of actions after another
    pub in_append : (xs ys : List Action) → AllIn s.size xs → AllIn s.size ys
        → perform_in s memory ys (perform_in s memory xs flash) ≡ perform_in s memory (xs ++ ys) flash
    in_append xs ys p q =
        in_is s memory ys (perform_in s memory xs flash)
        ∙ ap (λ (t : List ℕ). replace (to_bytes s.first) (perform_all memory ys t) (perform_in s memory xs flash)) (in_part xs p)
        ∙ ap (λ (t : List ℕ). replace (to_bytes s.first) t (perform_in s memory xs flash)) (sym (perform_append memory xs ys (window_part s flash)))
        ∙ again xs p (perform_all memory (xs ++ ys) (window_part s flash)) (done_length (xs ++ ys) (all_append s.size xs ys p q))
        ∙ sym (in_is s memory (xs ++ ys) flash)

    -- a flush of the same marks, run to its end after the first j actions of one, from a window that agrees in the dirty blocks
    pub after_cut : marks_sound s.size s.marks ≡ true → (memory₂ : List ℕ) → to_bytes s.size ≤ length memory₂
        → ((x : ℕ) → programs (get_or s.marks (x / 4096) 0) ≡ true → get_or memory₂ x 0 ≡ get_or memory x 0) → (j : ℕ)
        → perform_in s memory₂ (window_actions s) (perform_in s memory (take j (window_actions s)) flash) ≡ perform_in s memory (window_actions s) flash
    after_cut sound memory₂ room₂ agree j =
        in_is s memory₂ (window_actions s) (perform_in s memory first flash)
        ∙ ap (λ (t : List ℕ). replace (to_bytes s.first) (perform_all memory₂ (window_actions s) t) (perform_in s memory first flash)) (in_part first some)
        ∙ ap (λ (t : List ℕ). replace (to_bytes s.first) t (perform_in s memory first flash)) ends
        ∙ again first some (perform_all memory (window_actions s) (window_part s flash)) (done_length (window_actions s) all)
        ∙ sym (in_is s memory (window_actions s) flash)
      where
        all : AllIn s.size (window_actions s)
        all = all_flush s.size s.marks sound

        first : List Action
        first = take j (window_actions s)

        some : AllIn s.size first
        some = all_take s.size j (window_actions s) all

        ends : perform_all memory₂ (window_actions s) (perform_all memory first (window_part s flash)) ≡ perform_all memory (window_actions s) (window_part s flash)
        ends =
            flush_same s.size s.marks sound memory₂ memory (perform_all memory first (window_part s flash)) (window_part s flash)
            room₂ room (done_length first some) part_length
            (record { dirty = agree; clean = cut_clean s.size memory room s.marks sound (window_part s flash) part_length j })
