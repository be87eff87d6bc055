-- The flash after a list of actions, byte by byte. An action is a change of each single byte; what the changes of a whole list come to is
-- said here over the byte's offset x in the window's part, whatever the other bytes are.
use mathlib.Core.Path.{◌≡◌, refl, sym, ap, ◌∙◌}
use mathlib.Core.Bool.{true, false, cond}
use mathlib.Core.List.{List, [], ◌∷◌, ◌++◌}
use mathlib.Core.Logic.{◌⊎◌, inl, inr, ⊎_elim}
use Prim.Native.Nat.{ℕ, ◌+◌, ◌-◌, ◌*◌, ◌/◌, ◌≤◌, ◌<◌}
use native.Mathlib.Omega.{arith}
use lib.Bits.{bit_and}
use lib.Dec.{eqb}
use lib.ListN.{length, get_or}
use borrow.Author.Tests.{eqb-true, eqb-false, le-leb, lt-ltb}
use Rattle.units.proofs.Cases.{decided, below_or}
use Rattle.units.specs.Units.{to_bytes}
use Rattle.chip.specs.Actions.{has_block, erased, programmed}
use Rattle.chip.proofs.Laws.{erased_length, erased_inside, erased_outside, programmed_length, programmed_inside, programmed_outside}
use Rattle.flush.specs.Actions.{Action, erase, program, perform, perform_all}

-- what an action makes of the byte at x
abbrev pub byte_after : List ℕ → Action → ℕ → ℕ → ℕ
byte_after memory (erase b) x old = cond (eqb (x / 4096) b) 0xff old
byte_after memory (program b p) x old = cond (eqb (x / 256) (b * 16 + p)) (bit_and old (get_or memory x 0)) old

-- and a list of actions
abbrev pub bytes_after : List ℕ → List Action → ℕ → ℕ → ℕ
bytes_after memory [] x old = old
bytes_after memory (a ∷ actions) x old = bytes_after memory actions x (byte_after memory a x old)

pub bytes_append : (memory : List ℕ) (xs ys : List Action) (x old : ℕ)
    → bytes_after memory (xs ++ ys) x old ≡ bytes_after memory ys x (bytes_after memory xs x old)
bytes_append memory [] ys x old = refl
bytes_append memory (a ∷ xs) ys x old = bytes_append memory xs ys x (byte_after memory a x old)

-- an action within n blocks
abbrev pub In : ℕ → Action → Type 0
In n (erase b) = b < n
In n (program b p) = (b < n) × (p < 16)

abbrev pub AllIn : ℕ → List Action → Type 0
AllIn n [] = Unit
AllIn n (a ∷ actions) = In n a × AllIn n actions

-- ---- one action on a part of n blocks
module _ (n : ℕ) (memory part : List ℕ) (size : length part ≡ to_bytes n) (room : to_bytes n ≤ length memory) where
  has : (b : ℕ) → b < n → has_block b part ≡ true
  has b h = le-leb (to_bytes b + 4096) (length part) (omega arith)

  held : (b : ℕ) → b < n → has_block b memory ≡ true
  held b h = le-leb (to_bytes b + 4096) (length memory) (omega arith)

  erase_byte : (b x : ℕ) → b < n → get_or (erased (to_bytes b) 4096 part) x 0 ≡ cond (eqb (x / 4096) b) 0xff (get_or part x 0)
  erase_byte b x h =
      ⊎_elim
      (λ (t : eqb (x / 4096) b ≡ true).
      let q : x / 4096 ≡ b = eqb-true (x / 4096) b t in
      let at : x ≡ to_bytes b + (x - to_bytes b) = omega arith in
      rw t (ap (λ (i : ℕ). get_or (erased (to_bytes b) 4096 part) i 0) at ∙ erased_inside (to_bytes b) 4096 part (omega arith) (x - to_bytes b) (omega arith)))
      (λ (t : eqb (x / 4096) b ≡ false).
      let q : x / 4096 ≡ b → ⊥ = eqb-false (x / 4096) b t in
      rw t (erased_outside (to_bytes b) 4096 part (omega arith) x (apart q)))
      (decided (eqb (x / 4096) b))
    where
      apart : (x / 4096 ≡ b → ⊥) → (x < to_bytes b) ⊎ (to_bytes b + 4096 ≤ x)
      apart q = ⊎_elim inl (λ (l : to_bytes b ≤ x). inr (omega arith)) (below_or x (to_bytes b))

  page_byte : (b p x : ℕ) → b < n → p < 16 → get_or (programmed (to_bytes b + p * 256) 256 memory part) x 0
      ≡ cond (eqb (x / 256) (b * 16 + p)) (bit_and (get_or part x 0) (get_or memory x 0)) (get_or part x 0)
  page_byte b p x h k =
      ⊎_elim
      (λ (t : eqb (x / 256) (b * 16 + p) ≡ true).
      let q : x / 256 ≡ b * 16 + p = eqb-true (x / 256) (b * 16 + p) t in
      let at : to_bytes b + p * 256 + (x - (to_bytes b + p * 256)) ≡ x = omega arith in
      rw t
      (ap (λ (i : ℕ). get_or (programmed (to_bytes b + p * 256) 256 memory part) i 0) (sym at)
      ∙ programmed_inside (to_bytes b + p * 256) 256 memory part (omega arith) (omega arith) (x - (to_bytes b + p * 256)) (omega arith)
      ∙ ap (λ (i : ℕ). bit_and (get_or part i 0) (get_or memory i 0)) at))
      (λ (t : eqb (x / 256) (b * 16 + p) ≡ false).
      let q : x / 256 ≡ b * 16 + p → ⊥ = eqb-false (x / 256) (b * 16 + p) t in
      rw t (programmed_outside (to_bytes b + p * 256) 256 memory part (omega arith) x (apart q)))
      (decided (eqb (x / 256) (b * 16 + p)))
    where
      apart : (x / 256 ≡ b * 16 + p → ⊥) → (x < to_bytes b + p * 256) ⊎ (to_bytes b + p * 256 + 256 ≤ x)
      apart q = ⊎_elim inl (λ (l : to_bytes b + p * 256 ≤ x). inr (omega arith)) (below_or x (to_bytes b + p * 256))

  perform_length : (a : Action) → In n a → length (perform memory a part) ≡ length part
  unfolding perform
  perform_length (erase b) h = rw (has b h) (erased_length (to_bytes b) 4096 part (omega arith))
  perform_length (program b p) h =
      rw (lt-ltb p 16 h.1, has b h.0, held b h.0) (programmed_length (to_bytes b + p * 256) 256 memory part (omega (arith, h.0, h.1)))

  perform_byte : (a : Action) → In n a → (x : ℕ) → get_or (perform memory a part) x 0 ≡ byte_after memory a x (get_or part x 0)
  unfolding perform
  perform_byte (erase b) h x = rw (has b h) (erase_byte b x h)
  perform_byte (program b p) h x = rw (lt-ltb p 16 h.1, has b h.0, held b h.0) (page_byte b p x h.0 h.1)

-- ---- a list of actions
pub performed_length : (n : ℕ) (memory : List ℕ) → to_bytes n ≤ length memory → (actions : List Action) → AllIn n actions
    → (part : List ℕ) → length part ≡ to_bytes n → length (perform_all memory actions part) ≡ length part
unfolding perform_all
performed_length n memory room [] all part size = refl
performed_length n memory room (a ∷ actions) all part size =
    let kept = perform_length n memory part size room a all.0 in
    performed_length n memory room actions all.1 (perform memory a part) (kept ∙ size) ∙ kept

pub performed_byte : (n : ℕ) (memory : List ℕ) → to_bytes n ≤ length memory → (actions : List Action) → AllIn n actions
    → (part : List ℕ) → length part ≡ to_bytes n → (x : ℕ) → get_or (perform_all memory actions part) x 0 ≡ bytes_after memory actions x (get_or part x 0)
unfolding perform_all
performed_byte n memory room [] all part size x = refl
performed_byte n memory room (a ∷ actions) all part size x =
    performed_byte n memory room actions all.1 (perform memory a part) (perform_length n memory part size room a all.0 ∙ size) x
    ∙ ap (bytes_after memory actions x) (perform_byte n memory part size room a all.0 x)
