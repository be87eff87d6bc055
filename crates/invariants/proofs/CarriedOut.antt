-- The flush of a sound session's window carries out its marks: every byte of the flash, and the number of actions.
use Rattle.std.proofs.Common.{◌≡◌, refl, sym, ap, subst, ◌∙◌, true, false, cond, true≢false, List, [], ◌⊎◌, inl, inr, ⊎_elim, ℕ, ◌+◌, ◌-◌, ◌/◌, ◌≤◌, ◌<◌, mod-eq_of_lt, arith, bit_and, eqb, length, get_or, le-leb, lt-ltb, le-ltb, eqb-true, None, Some}
use lib.Bits.{and_comm, and_mask}
use borrow.Author.Tests.{lt-leb}
use Rattle.units.proofs.Cases.{decided, below_or, chosen}
use Rattle.units.specs.Units.{to_bytes, round_up}
use Rattle.buffers.proofs.Replace.{range_at}
use Rattle.session.specs.declared.Session.{Session}
use Rattle.session.specs.declared.Window.{Window}
use Rattle.session.specs.declared.Window.TheVariants.{Closed, Read, Write}
use Rattle.soundness.specs.Soundness.{markable, marks_sound, sound}
use Rattle.soundness.proofs.SoundMarks.{marks_within}
use Rattle.soundness.proofs.Facts.{sized, sizes, Fitting, fitting, part_within}
use Rattle.session.specs.Machine.{lent}
use Rattle.session.specs.Marks.{dirty, erased_mark}
use Rattle.flush.specs.Actions.{Action, flush_actions}
use Rattle.flush.specs.Worn.{until_failure}
use Rattle.flush.specs.Window.{window_actions, window_part, part_end, perform_in, window_worn, done_actions, flush_whole}
use Rattle.flush.proofs.Lists.{flush_count, flush_unmarked, flush_few}
use Rattle.flush.proofs.Bytes.{AllIn}
use Rattle.flush.proofs.Cuts.{all_flush, byte_of, flush_byte}
use Rattle.flush.proofs.Failing.{until_all, some_none, until_finished}
use Rattle.flush.proofs.Whole.{in_same, part_length, in_none, in_length, in_part, in_outside}
use Rattle.refusals.specs.Refusals.{is_write}
use Rattle.invariants.specs.Demand2.{at_close, reaching, mark_at, window_byte, becomes, CarriedOut, Leaves}
use Rattle.invariants.proofs.Reach.{reached_is, reached_sound}

pub not_markable : (w : Window) (n : ℕ) → is_write w ≡ false → markable w n ≡ 0
not_markable Closed n e = refl
not_markable Read n e = refl
not_markable Write n e = absurd (true≢false e)

-- ---- what a mark makes of a byte

-- FF and a byte is that byte
ff_and : (new : ℕ) → new < 256 → bit_and 0xff new ≡ new
ff_and new h = and_comm 0xff new ∙ and_mask new 8 ∙ mod-eq_of_lt h

byte_by_mark : (mark new old : ℕ) → (mark ≡ dirty → new < 256)
    → byte_of mark new old ≡ cond (eqb mark dirty) new (cond (eqb mark erased_mark) 0xff old)
byte_by_mark mark new old h =
    ⊎_elim (λ (t : eqb mark dirty ≡ true). rw t (ff_and new (h (eqb-true mark dirty t)))) (λ (t : eqb mark dirty ≡ false). rw t) (decided (eqb mark dirty))

-- ---- a session whose window lies in both buffers, with marks that are sound
module _ (s : Session) (flash memory : List ℕ) (fits : part_end s ≤ length flash) (room : to_bytes s.size ≤ length memory) (small : s.size ≤ 64)
    (marks : marks_sound s.size s.marks ≡ true) where
  all : AllIn s.size (window_actions s)
  all = all_flush s.size s.marks marks

  -- a byte of the window's part
  byte_in : (x y : ℕ) → to_bytes s.first + y ≡ x → y < to_bytes s.size
      → get_or (perform_in s memory (window_actions s) flash) x 0 ≡ byte_of (get_or s.marks (y / 4096) 0) (get_or memory y 0) (get_or flash x 0)
  byte_in x y q h =
      let start = to_bytes s.first in
      let n = to_bytes s.size in
      ap (λ (i : ℕ). get_or (perform_in s memory (window_actions s) flash) i 0) (sym q)
      ∙ sym (range_at start n (perform_in s memory (window_actions s) flash) y h)
      ∙ ap (λ (t : List ℕ). get_or t y 0) (in_part s flash fits memory room (window_actions s) all)
      ∙ flush_byte s.size memory room s.marks marks (window_part s flash) (part_length s flash fits) y
      ∙ ap (byte_of (get_or s.marks (y / 4096) 0) (get_or memory y 0)) (range_at start n flash y h ∙ ap (λ (i : ℕ). get_or flash i 0) q)

  byte_is : (x : ℕ) → (mark_at s x ≡ dirty → window_byte s memory x < 256)
      → get_or (perform_in s memory (window_actions s) flash) x 0 ≡ becomes s flash memory x
  byte_is x h =
      ⊎_elim
      (λ (b : x < to_bytes s.first). rw (lt-leb (to_bytes s.first) x b) (stays (inl b)))
      (λ (a : to_bytes s.first ≤ x).
      ⊎_elim
      (λ (b : x < part_end s).
      let y = x - to_bytes s.first in
      let inside = le-leb (to_bytes s.first) x a in
      let inside' = lt-ltb x (part_end s) b in
      rw (inside, inside') (byte_in x y (omega arith) (omega arith) ∙ byte_by_mark (get_or s.marks (y / 4096) 0) (get_or memory y 0) (get_or flash x 0) (rw (inside, inside') at h)))
      (λ (b : part_end s ≤ x). rw (le-leb (to_bytes s.first) x a, le-ltb x (part_end s) b) (stays (inr b)))
      (below_or x (part_end s)))
      (below_or x (to_bytes s.first))
    where
      stays : (x < to_bytes s.first) ⊎ (part_end s ≤ x) → get_or (perform_in s memory (window_actions s) flash) x 0 ≡ get_or flash x 0
      stays o = in_outside s flash fits memory room (window_actions s) all x o

  pub performed_carries : CarriedOut s flash memory (perform_in s memory (window_actions s) flash) (length (window_actions s))
  performed_carries =
      record {
        long = in_length s flash fits memory room (window_actions s) all;
        bytes = byte_is;
        number = flush_count s.marks;
        few = omega (arith, flush_few s.size s.marks marks, small);
      }

-- ---- a sound session, on a chip with worn blocks
module _ (s : Session) (flash worn memory : List ℕ) (e : sound (length flash) (length worn) (length memory) s ≡ true) where
  pub window_fits : part_end s ≤ length flash
  window_fits = (part_within (length flash) (length worn) (length memory) s e).0

  pub window_room : to_bytes s.size ≤ length memory
  window_room = (part_within (length flash) (length worn) (length memory) s e).1

  pub fit : Fitting (round_up (length flash)) (round_up (length memory)) s
  fit = fitting (round_up (length flash)) (round_up (length memory)) s (sizes (length flash) (length worn) (length memory) s e).2

  pub window_marks : marks_sound s.size s.marks ≡ true
  window_marks = marks_within s.window s.size s.marks fit.marks

  window_small : s.size ≤ 64
  window_small = omega (arith, fit.in_memory, (sized 64 (length memory) (sizes (length flash) (length worn) (length memory) s e).1).few)

  -- what is done before the first failure is what the marks that are reached ask for
  pub done_reached : done_actions (lent s flash worn memory) ≡ window_actions (reaching worn s)
  done_reached =
      until_finished (window_worn s worn) s.marks
      ∙ ap flush_actions (sym (reached_is worn s.first s.size s.marks window_marks))

  pub carried_out : CarriedOut (reaching worn s) flash memory (flush_whole (lent s flash worn memory)).flash (flush_whole (lent s flash worn memory)).actions
  unfolding flush_whole
  carried_out =
      rw e
      (subst (λ (xs : List Action). CarriedOut (reaching worn s) flash memory (perform_in s memory xs flash) (length xs)) (sym done_reached)
      (subst (λ (after : List ℕ). CarriedOut (reaching worn s) flash memory after (length (window_actions (reaching worn s))))
      (in_same (reaching worn s) s refl refl memory (window_actions (reaching worn s)) flash)
      (performed_carries (reaching worn s) flash memory window_fits window_room window_small (reached_sound worn s.first s.size s.marks window_marks))))

  -- without a write window nothing is marked
  pub nothing : is_write s.window ≡ false → ((flush_whole (lent s flash worn memory)).flash ≡ flash) × ((flush_whole (lent s flash worn memory)).actions ≡ 0)
  unfolding flush_whole
  nothing w =
      let empty = done_none w in
      rw e (ap (λ (t : List Action). perform_in s memory t flash) empty ∙ in_none s flash window_fits memory window_room, ap length empty)
    where
      done_none : is_write s.window ≡ false → done_actions (lent s flash worn memory) ≡ []
      done_none w =
          let clear = flush_unmarked s.marks (rw (not_markable s.window s.size w) at fit.marks) in
          ap (until_failure (window_worn s worn)) clear ∙ until_all (window_worn s worn) [] (some_none (window_worn s worn))

  pub close_leaves : Leaves (at_close s) flash worn memory (flush_whole (lent s flash worn memory)).flash (flush_whole (lent s flash worn memory)).actions
  close_leaves =
      chosen (λ o. Leaves o flash worn memory (flush_whole (lent s flash worn memory)).flash (flush_whole (lent s flash worn memory)).actions) (is_write s.window) (Some s) None
      (λ _. carried_out) nothing
