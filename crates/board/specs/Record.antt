-- The record that C keeps, and the session that it stands for: document 01, "Session".
use Rattle.std.specs.Prelude.{ℕ, Bool, true, false, cond, not, ◌&&◌, Option, None, Some, eqb, leb}
use Rattle.session.specs.declared.Session.{Session}
use Rattle.session.specs.declared.Window.{Window}
use Rattle.session.specs.declared.Window.TheVariants.{Closed, Read, Write}
use Rattle.board.specs.declared.Record.{Record}

-- "the window (none, read or write, ..": the number of each, and the window of a number
abbrev pub window_number : Window → ℕ
window_number Closed = 0
window_number Read = 1
window_number Write = 2

abbrev pub window_of : ℕ → Window
window_of n = cond (eqb n 1) Read (cond (eqb n 2) Write Closed)

-- a number that stands for yes or no: 0 no, 1 yes
abbrev pub yes_no : Bool → ℕ
yes_no b = cond b 1 0

abbrev pub is_yes : ℕ → Bool
is_yes n = not (eqb n 0)

-- "the previous sequence number, if any"
abbrev pub previous_of : ℕ → ℕ → Option ℕ
previous_of numbered n = cond (is_yes numbered) (Some n) None

-- whether there is one, and the byte that stands for it: where there is none, a spare one
abbrev pub is_numbered : Option ℕ → Bool
is_numbered None = false
is_numbered (Some n) = true

abbrev pub number_or : ℕ → Option ℕ → ℕ
number_or spare None = spare
number_or spare (Some n) = n

-- each number of the record stands for something, yes or no or a window: a record of which one does not is not sound (house)
abbrev pub is_regular : Record → Bool
is_regular h = leb h.numbered 1 && (leb h.suspended 1 && leb h.window 2)

-- the session that a record stands for; `numbered` or `suspended` above 1 counts as yes there, and a window number above 2 as none (house)
abbrev pub session_of : Record → Session
session_of h =
    record {
      version = h.version;
      previous = previous_of h.numbered h.previous;
      events = h.events;
      suspended = is_yes h.suspended;
      window = window_of h.window;
      first = h.first;
      size = h.size;
      counts = record { dirty = h.dirty; erased = h.erased };
      marks = h.marks;
    }

-- the record of a session, with the byte that it has where there is no previous number
abbrev pub record_of : ℕ → Session → Record
record_of spare s =
    record {
      version = s.version;
      numbered = yes_no (is_numbered s.previous);
      previous = number_or spare s.previous;
      events = s.events;
      suspended = yes_no s.suspended;
      window = window_number s.window;
      first = s.first;
      size = s.size;
      dirty = s.counts.dirty;
      erased = s.counts.erased;
      marks = s.marks;
    }

-- a record with another version, and with other numbers for yes, no and the window
abbrev pub renumbered : ℕ → ℕ → ℕ → ℕ → Record → Record
renumbered version numbered suspended window h =
    record {
      version = version;
      numbered = numbered;
      previous = h.previous;
      events = h.events;
      suspended = suspended;
      window = window;
      first = h.first;
      size = h.size;
      dirty = h.dirty;
      erased = h.erased;
      marks = h.marks;
    }

-- with another number for whether there is a previous one, and another for the window
abbrev pub with_numbers : ℕ → ℕ → Record → Record
with_numbers numbered window h = renumbered h.version numbered h.suspended window h

-- the record of the session after a command; where the record h before it was not regular, with h's version and numbers. The rest of h is in the
-- session then, which a refusal with SYSTEM_ERROR leaves as it is
abbrev pub afterwards : Bool → Record → Session → Record
afterwards regular h s =
    let next = record_of h.previous s in
    cond regular next (renumbered h.version h.numbered h.suspended h.window next)
