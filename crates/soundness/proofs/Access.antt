-- The event byte goes on telling the suspension: after suspend, resume and an acknowledgement.
use mathlib.Core.Path.{◌≡◌, refl, ap, ◌∙◌}
use mathlib.Core.Bool.{Bool, true, false, not}
use Prim.Native.Nat.{ℕ}
use borrow.Author.Tests.{not-true}
use Rattle.session.specs.declared.Session.{Session}
use Rattle.session.specs.Events.{control_lost, window_reset, set_bits, clear_bits, is_set, acknowledgeable, acknowledged}
use Rattle.session.specs.Record.{with_access, drop_window}
use Rattle.session.specs.Suspension.{answer, suspended, resumed, resumed_changed}
use Rattle.session.proofs.Answers.{either_way}
use Rattle.session.proofs.Bits.{set_bit, cleared_bit, same_bit, set_within, acknowledged_others}
use Rattle.units.specs.Units.{round_up}
use Rattle.soundness.specs.Soundness.{access_sound, sound}
use Rattle.soundness.proofs.Facts.{sizes, Fitting, fitting, refitted}
use Rattle.soundness.proofs.SoundMarks.{clean_sound}

-- the condition and the suspension are one
pub told : (b : Bool) (events : ℕ) → access_sound b events ≡ true → is_set control_lost events ≡ b
told true events e = e
told false events e = not-true (is_set control_lost events) e

-- bytes with the same condition tell the same
same_access : (b : Bool) (x y : ℕ) → is_set control_lost x ≡ is_set control_lost y → access_sound b x ≡ access_sound b y
same_access true x y e = e
same_access false x y e = ap not e

pub acknowledged_access : (b : Bool) (named events : ℕ) → access_sound b events ≡ true → access_sound b (acknowledged named events) ≡ true
acknowledged_access b named events e =
    same_access b (acknowledged named events) events
    (same_bit acknowledgeable control_lost (acknowledged named events) events refl (acknowledged_others named events))
    ∙ e

-- ---- suspend and resume leave a sound session sound
cleared : (events : ℕ) → access_sound false (clear_bits control_lost events) ≡ true
cleared events = ap not (cleared_bit control_lost control_lost events refl refl)

module _ (flash worn memory : ℕ) (s : Session) (e : sound flash worn memory s ≡ true) where
  f : Fitting (round_up flash) (round_up memory) s
  f = fitting (round_up flash) (round_up memory) s (sizes flash worn memory s e).2

  either : (acts : Bool) (t : Session) → sound flash worn memory t ≡ true → sound flash worn memory (answer acts s t).session ≡ true
  either acts t h = either_way (λ (u : Session). sound flash worn memory u ≡ true) acts s t e h

  pub suspended_sound : sound flash worn memory (suspended s).session ≡ true
  suspended_sound =
      let t = with_access true (set_bits control_lost s.events) s in
      either (not s.suspended) t (refitted flash worn memory s t e f.known (set_bit control_lost s.events) f.window f.marks f.counts)

  pub resumed_sound : sound flash worn memory (resumed s).session ≡ true
  resumed_sound =
      let t = with_access false (clear_bits control_lost s.events) s in
      either s.suspended t (refitted flash worn memory s t e f.known (cleared s.events) f.window f.marks f.counts)

  pub changed_sound : sound flash worn memory (resumed_changed s).session ≡ true
  changed_sound =
      let events = set_bits window_reset (clear_bits control_lost s.events) in
      let t = drop_window (with_access false events s) in
      either s.suspended t
      (refitted flash worn memory s t e f.known
      (same_access false events (clear_bits control_lost s.events)
      (same_bit window_reset control_lost events (clear_bits control_lost s.events) refl (set_within window_reset window_reset (clear_bits control_lost s.events) refl))
      ∙ cleared s.events)
      refl (clean_sound 0 64) refl)
