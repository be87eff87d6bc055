-- Suspend and resume: document 01, the last paragraph of "Commands".
use Rattle.std.specs.Prelude.{Bool, true, false, cond, not, Option, None, Some}
use Rattle.session.specs.declared.Session.{Session}
use Rattle.session.specs.Events.{control_lost, window_reset, set_bits, clear_bits}
use Rattle.session.specs.Record.{with_access, drop_window}

-- the answer yes or no, and the session afterwards
pub record Suspension : Type 0 where
  pub done : Bool
  pub session : Session

-- as the code has them: none where the answer is no, with the session that it was given
abbrev pub left : Session → Option Session → Suspension
left before (Some after) = record { done = true; session = after }
left before None = record { done = false; session = before }

-- a call that has nothing to do "changes nothing and answers no; otherwise they answer yes"
abbrev pub answer : Bool → Session → Session → Suspension
answer acts before after = cond acts (record { done = true; session = after }) (record { done = false; session = before })

-- "Suspend sets the event bit 0x40"
abbrev pub suspended : Session → Suspension
suspended s = answer (not s.suspended) s (with_access true (set_bits control_lost s.events) s)

-- "resume clears it"
abbrev pub resumed : Session → Suspension
resumed s = answer s.suspended s (with_access false (clear_bits control_lost s.events) s)

-- "Resume 'with changed flash' also drops the window without a flush and sets 0x02"
abbrev pub resumed_changed : Session → Suspension
resumed_changed s =
    answer s.suspended s (drop_window (with_access false (set_bits window_reset (clear_bits control_lost s.events)) s))
