-- The kept numbers of C's record: the claims stand in specs/Calls.antt.
use mathlib.Core.Path.{◌≡◌, refl, ap, ◌∙◌}
use mathlib.Core.Bool.{true, false, cond}
use mathlib.Core.List.{List}
use mathlib.Core.Logic.{⊎_elim}
use Prim.Native.Nat.{ℕ}
use lib.ListN.{length}
use Rattle.units.proofs.Cases.{decided}
use Rattle.session.specs.Machine.{Setup, lent}
use Rattle.session.specs.Marks.{counts_of}
use Rattle.soundness.specs.Soundness.{sound, sound_at, sound_in}
use Rattle.soundness.proofs.Facts.{miscounted}
use Rattle.soundness.proofs.Answered.{pending_right, pending_wrong}
use Rattle.flush.specs.Window.{advanced}
use Rattle.marklist.proofs.Taken.{listed_unsound}
use Rattle.mailbox.proofs.Mediating.{unsound_as}
use Rattle.board.specs.declared.Record.{Record}
use Rattle.board.specs.Record.{is_regular, session_of}
use Rattle.board.specs.Calls.{kept, left, kept_list, listed_record, work_of, commanded, system_error, Counted, RecordPending, RecordMiscounted, RecordDropped}
use Rattle.board.proofs.Answers.{nothing_lost}

module _ (h : Record) where
  counted : (session_of h).counts ≡ counts_of h.marks → Counted h
  counted e = record { dirty = λ i. (e i).dirty; erased = λ i. (e i).erased }

  counts : Counted h → (session_of h).counts ≡ counts_of h.marks
  counts c = λ i. record { dirty = c.dirty i; erased = c.erased i }

pub record_pending : RecordPending
record_pending h = (
  λ c. ap work_of (pending_right (session_of h) (counts h c)),
  λ n. ap work_of (pending_wrong (session_of h) (λ e. n (counted h e))),
)

module _ (h : Record) (apart : Counted h → ⊥) (flash worn memory : List ℕ) where
  unsound : sound (length flash) (length worn) (length memory) (session_of h) ≡ false
  unsound = miscounted (length flash) (length worn) (length memory) (session_of h) (λ e. apart (counted h e))

  unsound_at : (setup : Setup) → sound_in setup (lent (session_of h) flash worn memory) ≡ false
  unfolding sound_at
  unsound_at setup = rw unsound

  command : (setup : Setup) (registers : List ℕ) → commanded setup h registers flash worn memory ≡ system_error h registers flash memory
  unfolding commanded
  command setup registers =
      ⊎_elim
      (λ (e : is_regular h ≡ true).
      rw e
      (ap (kept h.previous) (unsound_as setup registers (lent (session_of h) flash worn memory) (unsound_at setup))
      ∙ ap (λ (r : Record). left r (system_error h registers flash memory).registers 0 flash memory) (nothing_lost.1 h e)))
      (λ (e : is_regular h ≡ false). rw e)
      (decided (is_regular h))

  list_of : (setup : Setup) (list : List ℕ)
      → listed_record setup (length flash) (length worn) (length memory) list h ≡ record { held = h; answer = record { code = 4; named = false; place = 0 } }
  unfolding listed_record
  list_of setup list =
      ⊎_elim
      (λ (e : is_regular h ≡ true).
      rw e
      (ap (kept_list h.previous) (listed_unsound setup (length flash) (length worn) (length memory) list (session_of h) (unsound_at setup))
      ∙ ap (λ (r : Record). record { held = r; answer = record { code = 4; named = false; place = 0 } }) (nothing_lost.1 h e)))
      (λ (e : is_regular h ≡ false). rw e)
      (decided (is_regular h))

  step : (done : ℕ) → cond (is_regular h) (advanced (lent (session_of h) flash worn memory) done) (record { code = 4; yes = false; flash = flash })
      ≡ record { code = 4; yes = false; flash = flash }
  unfolding advanced
  step done =
      ⊎_elim (λ (e : is_regular h ≡ true). rw (e, unsound)) (λ (e : is_regular h ≡ false). rw e) (decided (is_regular h))

pub record_miscounted : RecordMiscounted
record_miscounted h apart flash worn memory = (command h apart flash worn memory, list_of h apart flash worn memory, step h apart flash worn memory)

pub record_dropped : RecordDropped
record_dropped h e = rw e (refl, refl, refl)
