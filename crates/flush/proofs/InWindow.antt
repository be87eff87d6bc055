-- The window's part of the flash, lent and back.
use mathlib.Core.Path.{◌≡◌, sym, ap, ◌∙◌}
use mathlib.Core.Bool.{Bool, true, false, cond, not, ◌&&◌}
use mathlib.Core.List.{List, []}
use Prim.Native.Nat.{ℕ, ◌+◌, ◌-◌, ◌≤◌}
use native.Mathlib.Omega.{arith}
use lib.Dec.{ltb}
use lib.ListN.{length, take, drop}
use borrow.Rule.Slice.PartMut.{put_mid, mid_of, mid_len}
use Rattle.buffers.specs.Ranges.{range, replace}
use Rattle.buffers.proofs.Replace.{part_back}
use Rattle.units.specs.Units.{to_bytes}
use Rattle.session.specs.declared.Session.{Session}
use Rattle.flush.specs.Actions.{Action, flush_actions, perform_all}
use Rattle.session.specs.Machine.{Machine}
use Rattle.session.specs.Record.{clean}
use Rattle.session.specs.Marks.{counts_of, none_marked}
use Rattle.soundness.specs.Soundness.{sound}
use Rattle.soundness.proofs.Counting.{counts_same}
use Rattle.soundness.proofs.Facts.{part_within, counts_right}
use Rattle.flush.proofs.Lists.{flush_uncounted}
use Rattle.flush.proofs.Failing.{until_all, some_none, until_finished, before_failing, failing_some, left_as}
use Rattle.flush.proofs.Whole.{in_none}
use Rattle.std.specs.Prelude.{Option, is_some}
use Rattle.flush.specs.Worn.{until_failure, some_fail, finished_blocks, failing_block, finished_by, marks_kept}
use Rattle.flush.specs.Window.{window_actions, window_part, perform_in, window_worn, done_actions, flush_fails, has_next, perform_next, left_marks, flush_left, advanced, flush_whole}

module _ (s : Session) (memory flash ys : List ℕ) (a n : ℕ) (start : a ≡ to_bytes s.first) (size : n ≡ to_bytes s.size) (fits : a + n ≤ length flash)
    (kept : length ys ≡ length (mid_of a (a + n - a) flash)) where
  count : a + n - a ≡ to_bytes s.size
  count = omega arith

  part_is : mid_of a (a + n - a) flash ≡ window_part s flash
  part_is = ap (λ (k : ℕ). mid_of a k flash) count ∙ ap (λ (k : ℕ). range k (to_bytes s.size) flash) start

  pub performed : (actions : List Action) → ys ≡ perform_all memory actions (mid_of a (a + n - a) flash)
      → put_mid a (a + n - a) flash ys ≡ perform_in s memory actions flash
  unfolding perform_in
  performed actions q =
      part_back a (a + n) flash ys (omega arith) (kept ∙ mid_len a (a + n) flash fits)
      ∙ ap (λ (t : List ℕ). replace a t flash) (q ∙ ap (perform_all memory actions) part_is)
      ∙ ap (λ (k : ℕ). replace k (perform_all memory actions (window_part s flash)) flash) start

-- what the marks of the finished blocks ask for is what is done before the first failure
pub first_done : (m : Machine) (finished : ℕ) → finished ≡ finished_blocks (window_worn m.session m.worn) m.session.marks
    → flush_actions (take finished m.session.marks) ≡ done_actions m
first_done m finished e =
    ap (λ (n : ℕ). flush_actions (take n m.session.marks)) e
    ∙ sym (until_finished (window_worn m.session m.worn) m.session.marks)

-- ---- a flush of the marks before the block that fails, from what its steps promise
module _ (m : Machine) (t : sound (length m.flash) (length m.worn) (length m.memory) m.session ≡ true) (long : length m.session.marks ≡ 64)
    (failing : Option ℕ) (stops : failing ≡ failing_block (window_worn m.session m.worn) m.session.marks)
    (kept : List ℕ) (before : flush_actions kept ≡ flush_actions (take (finished_by failing) m.session.marks)) (after : List ℕ) where
  abbrev worn : List ℕ
  worn = window_worn m.session m.worn

  kept_done : flush_actions kept ≡ done_actions m
  kept_done = before ∙ first_done m (finished_by failing) (ap finished_by stops ∙ before_failing worn m.session.marks long)

  fails : is_some failing ≡ flush_fails m
  fails = ap is_some stops ∙ failing_some worn m.session.marks long

  -- all of it
  pub flushed : (actions : ℕ) → actions ≡ length (flush_actions kept) → after ≡ perform_in m.session m.memory (flush_actions kept) m.flash
      → flush_left m.session (record { actions = actions; failed = failing }) after ≡ flush_whole m
  unfolding flush_whole
  flushed actions number flash =
      rw t
      (λ i. record {
        actions = (number ∙ ap (length {A = Action}) kept_done) i;
        failed = fails i;
        marks = (ap (λ (o : Option ℕ). left_marks o m.session.marks) stops ∙ left_as worn m.session.marks long ∙ ap (λ (b : Bool). cond b (marks_kept worn m.session.marks) clean) (failing_some worn m.session.marks long)) i;
        flash = (flash ∙ ap (λ (xs : List Action). perform_in m.session m.memory xs m.flash) kept_done) i;
      })

  -- one action of it
  module _ (awake : m.session.suspended ≡ false) (done : ℕ) (acted : Bool) (next : acted ≡ ltb done (length (flush_actions kept)))
      (flash : after ≡ perform_in m.session m.memory (take 1 (drop done (flush_actions kept))) m.flash) where
    has : acted ≡ has_next m done
    has = next ∙ ap (λ (xs : List Action). ltb done (length xs)) kept_done

    then_flash : after ≡ perform_next m done
    then_flash = flash ∙ ap (λ (xs : List Action). perform_in m.session m.memory (take 1 (drop done xs)) m.flash) kept_done

    pub advanced_by : (code : ℕ) → cond (not acted && is_some failing) 3 1 ≡ code → record { code = code; yes = acted; flash = after } ≡ advanced m done
    unfolding advanced perform_in
    advanced_by code e =
        rw (t, awake)
        (λ i. record { code = (sym e ∙ (λ k. cond (not (has k) && fails k) 3 1)) i; yes = has i; flash = then_flash i })

-- where nothing is marked there is no action, and the flash stays
pub flushed_unmarked : (m : Machine) → sound (length m.flash) (length m.worn) (length m.memory) m.session ≡ true → none_marked m.session.counts ≡ true
    → record { actions = 0; failed = false; marks = clean; flash = m.flash } ≡ flush_whole m
unfolding flush_whole
flushed_unmarked m t u =
    rw (t, ap (until_failure worn) none ∙ until_all worn [] (some_none worn), ap (some_fail worn) none ∙ some_none worn)
    (λ i. record { actions = 0; failed = false; marks = clean; flash = sym same i })
  where
    worn : List ℕ
    worn = window_worn m.session m.worn

    none : window_actions m.session ≡ []
    none =
        flush_uncounted m.session.marks
        (sym (counts_right (length m.flash) (length m.worn) (length m.memory) m.session t) ∙ counts_same m.session.counts (counts_of []) u)

    same : perform_in m.session m.memory [] m.flash ≡ m.flash
    same =
        in_none m.session m.flash (part_within (length m.flash) (length m.worn) (length m.memory) m.session t).0 m.memory
        (part_within (length m.flash) (length m.worn) (length m.memory) m.session t).1
