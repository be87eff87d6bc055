-- A run of calls: "every call gets what the one before left" (document 00, demand 3). A call more of the controller's side, or a thing more that others do to
-- what is lent, is a case more here; one that only answers, as `pending` does, leaves nothing to say.
use Rattle.std.specs.Prelude.{ℕ, List, [], ◌∷◌, length, take}
use Rattle.buffers.specs.Ranges.{replace}
use Rattle.session.specs.Machine.{Setup, Machine, lent, holding, wearing}
use Rattle.session.specs.Suspension.{suspended, resumed, resumed_changed}
use Rattle.flush.specs.Window.{advanced}
use Rattle.marklist.specs.MarkList.{after_list}
use Rattle.mailbox.specs.Mediator.{mediate}

pub data Call : Type 0 where
  -- a mailbox command, with any content of the registers
  send : List ℕ → Call
  -- a list of marks in one call, with any numbers (02, Ticket 4)
  mark_list : List ℕ → Call
  -- suspend, resume, and "Resume 'with changed flash'"
  suspend resume resume_changed : Call
  -- the flush advanced by one action, told any "number of actions already done"
  advance : ℕ → Call
  -- bytes that the host writes at an offset of window memory
  write : ℕ → List ℕ → Call
  -- bytes that another master writes at an offset of the flash
  alter : ℕ → List ℕ → Call
  -- and bytes that the driver writes at an offset of its map of worn blocks (02, Ticket 8)
  wear : ℕ → List ℕ → Call

-- bytes written to a buffer from outside; those past its end are not its own, and fall away
abbrev pub written : ℕ → List ℕ → List ℕ → List ℕ
written at bytes buffer = take (length buffer) (replace at bytes buffer)

-- what a call leaves
abbrev pub called : Setup → Call → Machine → Machine
called setup (send registers) m = (mediate setup registers m).machine
called setup (mark_list list) m = after_list setup list m
called setup suspend m = holding (suspended m.session).session m
called setup resume m = holding (resumed m.session).session m
called setup resume_changed m = holding (resumed_changed m.session).session m
called setup (advance done) m = lent m.session (advanced m done).flash m.worn m.memory
called setup (write at bytes) m = lent m.session m.flash m.worn (written at bytes m.memory)
called setup (alter at bytes) m = lent m.session (written at bytes m.flash) m.worn m.memory
called setup (wear at bytes) m = wearing (written at bytes m.worn) m

-- and a list of them
abbrev pub called_all : Setup → List Call → Machine → Machine
called_all setup [] m = m
called_all setup (call ∷ calls) m = called_all setup calls (called setup call m)
