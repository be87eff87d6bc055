-- What a call leaves of a regular record stands for what it leaves of its session: the claim stands in specs/Calls.antt.
use mathlib.Core.Path.{◌≡◌, refl, sym, ap, ◌∙◌}
use mathlib.Core.Bool.{Bool, true, false, not}
use Prim.Native.Nat.{ℕ}
use Rattle.std.specs.Prelude.{Option}
use Rattle.session.specs.declared.Session.{Session}
use Rattle.session.specs.Events.{control_lost, window_reset, set_bits, clear_bits}
use Rattle.session.specs.Machine.{lent}
use Rattle.session.specs.Record.{with_access, drop_window}
use Rattle.session.specs.Suspension.{answer}
use Rattle.marklist.specs.MarkList.{listed}
use Rattle.mailbox.specs.Mediator.{mediate}
use Rattle.board.specs.declared.Record.{Record}
use Rattle.board.specs.Record.{window_of, previous_of, number_or, session_of}
use Rattle.board.specs.Calls.{commanded, listed_record, answer_of, Follows}
use Rattle.board.proofs.Answers.{yes_back, number_back, session_back}

-- a suspend or resume, where the session afterwards has the record's own previous number and the window of the number that is stored
answered : (window : ℕ) (h : Record) (acts : Bool) (t : Session) → t.previous ≡ previous_of h.numbered h.previous → window_of window ≡ t.window
    → session_of (answer_of window h (answer acts (session_of h) t)).held ≡ (answer acts (session_of h) t).session
answered window h true t p w =
    λ i.
    record {
      version = t.version;
      previous = number i;
      events = t.events;
      suspended = yes_back t.suspended i;
      window = w i;
      first = t.first;
      size = t.size;
      counts = t.counts;
      marks = t.marks;
    }
  where
    number : previous_of h.numbered (number_or h.previous t.previous) ≡ t.previous
    number =
        ap (λ (q : Option ℕ). previous_of h.numbered (number_or h.previous q)) p
        ∙ ap (previous_of h.numbered) (number_back h.numbered h.previous)
        ∙ sym p
answered window h false t p w = refl

pub follows : Follows
unfolding commanded listed_record
follows h e =
    let s = session_of h in (
      λ setup registers flash worn memory. rw e (session_back h.previous (mediate setup registers (lent s flash worn memory)).machine.session),
      λ setup flash worn memory list. rw e (session_back h.previous (listed setup flash worn memory list s).session),
      answered h.window h (not s.suspended) (with_access true (set_bits control_lost s.events) s) refl refl,
      answered h.window h s.suspended (with_access false (clear_bits control_lost s.events) s) refl refl,
      answered 0 h s.suspended (drop_window (with_access false (set_bits window_reset (clear_bits control_lost s.events)) s)) refl refl,
    )
