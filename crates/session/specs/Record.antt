-- The session record: document 01, "Session". A new field of the session is named in `fresh`, in the setters below and in C's record (crate
-- board).
use Rattle.std.specs.Prelude.{ℕ, Bool, false, Option, None, List, replicate}
use Rattle.session.specs.Marks.{counts_of}
use Rattle.session.specs.declared.Counts.{Counts}
use Rattle.session.specs.declared.Session.{Session}
use Rattle.session.specs.declared.Window.{Window}
use Rattle.session.specs.declared.Window.TheVariants.{Closed}

-- "all marks 0": the 64 marks of a session with nothing marked
abbrev pub clean : List ℕ
clean = replicate 64 0

-- "A fresh session: version 0, no previous number, event byte 0x81, not suspended, no window, all marks 0"
abbrev pub fresh : Session
fresh =
    record {
      version = 0;
      previous = None;
      events = 0x81;
      suspended = false;
      window = Closed;
      first = 0;
      size = 0;
      counts = counts_of clean;
      marks = clean;
    }

-- ---- the session with some of its fields changed: the version
abbrev pub with_version : ℕ → Session → Session
with_version version s =
    record {
      version = version;
      previous = s.previous;
      events = s.events;
      suspended = s.suspended;
      window = s.window;
      first = s.first;
      size = s.size;
      counts = s.counts;
      marks = s.marks;
    }

-- the previous sequence number
abbrev pub with_previous : Option ℕ → Session → Session
with_previous previous s =
    record {
      version = s.version;
      previous = previous;
      events = s.events;
      suspended = s.suspended;
      window = s.window;
      first = s.first;
      size = s.size;
      counts = s.counts;
      marks = s.marks;
    }

-- the suspension and the event byte, or the event byte alone
abbrev pub with_access : Bool → ℕ → Session → Session
with_access suspended events s =
    record {
      version = s.version;
      previous = s.previous;
      events = events;
      suspended = suspended;
      window = s.window;
      first = s.first;
      size = s.size;
      counts = s.counts;
      marks = s.marks;
    }

abbrev pub with_events : ℕ → Session → Session
with_events events s = with_access s.suspended events s

-- the marks, and the numbers kept of them
abbrev pub with_counted : List ℕ → Counts → Session → Session
with_counted marks counts s =
    record {
      version = s.version;
      previous = s.previous;
      events = s.events;
      suspended = s.suspended;
      window = s.window;
      first = s.first;
      size = s.size;
      counts = counts;
      marks = marks;
    }

-- the marks, with their own numbers
abbrev pub with_marks : List ℕ → Session → Session
with_marks marks s = with_counted marks (counts_of marks) s

-- another window, with "all marks 0"
abbrev pub with_window : Window → ℕ → ℕ → Session → Session
with_window window first size s =
    record {
      version = s.version;
      previous = s.previous;
      events = s.events;
      suspended = s.suspended;
      window = window;
      first = first;
      size = size;
      counts = counts_of clean;
      marks = clean;
    }

-- no window: first block and size 0, all marks 0
abbrev pub drop_window : Session → Session
drop_window s = with_window Closed 0 0 s
