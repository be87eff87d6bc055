-- A regular record stays regular: the claim stands in specs/Calls.antt.
use mathlib.Core.Path.{◌≡◌, refl}
use mathlib.Core.Bool.{Bool, true, false, ◌&&◌}
use Prim.Native.Nat.{ℕ}
use lib.Dec.{leb}
use Rattle.units.proofs.Cases.{both, chosen}
use Rattle.session.specs.declared.Session.{Session}
use Rattle.session.specs.declared.Window.{Window}
use Rattle.session.specs.declared.Window.TheVariants.{Closed, Read, Write}
use Rattle.session.specs.Suspension.{Suspension, suspended, resumed, resumed_changed}
use Rattle.session.specs.Machine.{lent}
use Rattle.marklist.specs.MarkList.{listed}
use Rattle.mailbox.specs.Mediator.{mediate}
use Rattle.board.specs.declared.Record.{Record}
use Rattle.board.specs.declared.Suspended.{Suspended}
use Rattle.board.specs.Record.{yes_no, window_number, is_numbered, is_regular, session_of, record_of}
use Rattle.board.specs.Calls.{commanded, listed_record, answer_of, StaysRegular}

yes_no_lem : (b : Bool) → leb (yes_no b) 1 ≡ true
yes_no_lem true = refl
yes_no_lem false = refl

window_known : (w : Window) → leb (window_number w) 2 ≡ true
window_known Closed = refl
window_known Read = refl
window_known Write = refl

-- the record of any session is regular
pub of_session : (spare : ℕ) (s : Session) → is_regular (record_of spare s) ≡ true
of_session spare s = rw (yes_no_lem (is_numbered s.previous), yes_no_lem s.suspended, window_known s.window)

-- and so is what a suspend or resume answers, where the number for the window is a window's
answered : (h : Record) → is_regular h ≡ true → (window : ℕ) → leb window 2 ≡ true → (a : Suspension) → is_regular (answer_of window h a).held ≡ true
answered h e window w a =
    chosen (λ (r : Suspended). is_regular r.held ≡ true) a.done _ _
    (λ _. rw ((both (leb h.numbered 1) (leb h.suspended 1 && leb h.window 2) e).0, yes_no_lem a.session.suspended, w))
    (λ _. e)

pub stays_regular : StaysRegular
unfolding commanded listed_record
stays_regular h e =
    let known = (both (leb h.suspended 1) (leb h.window 2) (both (leb h.numbered 1) (leb h.suspended 1 && leb h.window 2) e).1).1 in (
      λ setup registers flash worn memory. rw e (of_session h.previous (mediate setup registers (lent (session_of h) flash worn memory)).machine.session),
      λ setup flash worn memory list. rw e (of_session h.previous (listed setup flash worn memory list (session_of h)).session),
      answered h e h.window known (suspended (session_of h)),
      answered h e h.window known (resumed (session_of h)),
      answered h e 0 refl (resumed_changed (session_of h)),
    )
