-- The published table of commands (000, "Table of Commands"), the rows of versions 1 and 2 in its order: for each command all that document 01 says
-- of it, by name. The argument rules are defined in refusals/specs/Refusals.antt, what a command leaves in Commands.antt. No other definition of the
-- mediator has a command's code.
use Rattle.std.specs.Prelude.{ℕ, Bool, true, false, List, [], ◌∷◌, leb}
use Rattle.session.specs.declared.Session.{Session}
use Rattle.session.specs.declared.Window.{Window}
use Rattle.session.specs.declared.Window.TheVariants.{Read, Write}
use Rattle.session.specs.Machine.{Setup, Machine}
use Rattle.refusals.specs.declared.Needs.{Needs}
use Rattle.refusals.specs.declared.Needs.TheVariants.{Nothing, NewNumber, Access, WriteWindow}
use Rattle.refusals.specs.Refusals.{never_broken, no_version, outside_flash, undefined_flags, outside_window, flush_outside}
use Rattle.mailbox.specs.Commands.{Outcome, alone, refused, closing_first, reset_answer, informed, flash_informed, created, closed, dirty_answer, flushed, ack_answer, erased_outcome}

-- a command: its code, the versions that know it, what it needs, whether its argument rule is broken (of the session, the registers and S), what a
-- refusal for that rule leaves (with the response code), and what it leaves if no check refuses
pub record Command : Type 0 where
  pub code : ℕ
  pub known : ℕ → Bool
  pub needs : Needs
  pub broken : Session → List ℕ → ℕ → Bool
  pub when_broken : ℕ → List ℕ → Machine → Outcome
  pub leaves : Setup → List ℕ → Machine → Outcome

-- "Version 0 knows 1, 2 and 9; version 1 knows 1 to 9; version 2 knows 1 to 10": known at every version, from one version on, or at none
abbrev pub always : ℕ → Bool
always version = true

abbrev pub from : ℕ → ℕ → Bool
from first version = leb first version

abbrev pub never : ℕ → Bool
never version = false

-- ---- the rows

-- RESET
abbrev pub reset : Command
reset =
    record { code = 1; known = always; needs = Access; broken = never_broken; when_broken = refused; leaves = λ setup. alone reset_answer }

-- GET_INFO
abbrev pub get_info : Command
get_info = record { code = 2; known = always; needs = Nothing; broken = no_version; when_broken = refused; leaves = informed }

-- GET_FLASH_INFO
abbrev pub get_flash_info : Command
get_flash_info =
    record { code = 3; known = from 1; needs = Access; broken = never_broken; when_broken = refused; leaves = λ setup. flash_informed }

-- a create of either kind: "a create refused for its argument has already closed and flushed the old window", and answers WRITE_ERROR if
-- that flush failed
abbrev pub create : ℕ → Window → Command
create code window =
    record { code = code; known = from 1; needs = Access; broken = outside_flash; when_broken = closing_first; leaves = created window }

-- CREATE_READ_WINDOW
abbrev pub create_read_window : Command
create_read_window = create 4 Read

-- CLOSE_WINDOW
abbrev pub close_window : Command
close_window =
    record { code = 5; known = from 1; needs = Access; broken = undefined_flags; when_broken = refused; leaves = λ setup. closed }

-- CREATE_WRITE_WINDOW
abbrev pub create_write_window : Command
create_write_window = create 6 Write

-- MARK_DIRTY
abbrev pub mark_dirty : Command
mark_dirty =
    record { code = 7; known = from 1; needs = WriteWindow; broken = outside_window; when_broken = refused; leaves = λ setup. alone dirty_answer }

-- FLUSH
abbrev pub flush : Command
flush =
    record { code = 8; known = from 1; needs = WriteWindow; broken = flush_outside; when_broken = refused; leaves = λ setup. flushed }

-- ACK
abbrev pub ack : Command
ack =
    record { code = 9; known = always; needs = NewNumber; broken = never_broken; when_broken = refused; leaves = λ setup. alone ack_answer }

-- ERASE
abbrev pub erase : Command
erase =
    record { code = 10; known = from 2; needs = WriteWindow; broken = outside_window; when_broken = refused; leaves = λ setup. erased_outcome }

-- the rows in the published order
abbrev pub published : List Command
published =
    reset ∷ get_info ∷ get_flash_info ∷ create_read_window ∷ close_window ∷ create_write_window ∷ mark_dirty ∷ flush ∷ ack ∷ erase ∷ []

-- every other code: no version up to 2 knows it, so that it is always refused, and what it leaves if no check refuses is never met; its own code is
-- none of the table's
abbrev pub unknown : Command
unknown = record { code = 0; known = never; needs = Access; broken = never_broken; when_broken = refused; leaves = λ setup. refused 2 }
