-- When a command is refused, and with which code: document 01, the table of "Registers", and the argument rules of "Commands" and of 02, Ticket 7.
use Rattle.std.specs.Prelude.{ℕ, ◌+◌, ◌-◌, Bool, true, false, cond, not, ◌&&◌, Option, None, Some, Result, Ok, Err, List, [], ◌∷◌, leb, ltb, eqb}
use Rattle.units.specs.Units.{round_up}
use Rattle.session.specs.declared.Session.{Session}
use Rattle.session.specs.declared.Window.{Window}
use Rattle.session.specs.declared.Window.TheVariants.{Closed, Read, Write}
use Rattle.refusals.specs.declared.Reason.{Reason}
use Rattle.refusals.specs.declared.Reason.TheVariants.{System, Repeated, Unknown, Suspended, Windowless, Argument}
use Rattle.refusals.specs.declared.codes.Code.{Code}
use Rattle.refusals.specs.declared.codes.Code.TheVariants.{Success, ParamError, WriteError, SystemError, Timeout, Busy, WindowError, SeqError}
use Rattle.refusals.specs.declared.Needs.{Needs}
use Rattle.refusals.specs.declared.Needs.TheVariants.{Nothing, NewNumber, Access, WriteWindow}
use Rattle.refusals.specs.declared.BlockRange.{BlockRange}
use Rattle.registers.specs.Registers.{sequence_of, argument, number}

-- ---- the argument rules

-- the blocks of the window that a command names, and whether all of them lie in it
pub record NamedBlocks : Type 0 where
  pub inside : Bool
  pub start : ℕ
  pub count : ℕ

-- as the code has them: an error where they do not
abbrev pub range_of : NamedBlocks → Result BlockRange BlockRange
range_of named =
    cond named.inside (Ok (record { start = named.start; count = named.count })) (Err (record { start = named.start; count = named.count }))

-- "version 1: flash block a (0-1) and L bytes (2-5); L is rounded up to k blocks, and blocks a to a + k must lie between the window's first
-- block and its end. Version 2: window block w (0-1) and k blocks (2-3), with w + k <= size. Sums are whole-number sums": whether the blocks
-- lie in the window, and which of its blocks they are, if they do; whether there is a window is another check
abbrev pub blocks_named : Session → List ℕ → NamedBlocks
blocks_named s registers =
    cond (ltb s.version 2)
    (record {
      inside = leb s.first (number 2 0 registers) && leb (number 2 0 registers + round_up (number 4 2 registers)) (s.first + s.size);
      start = number 2 0 registers - s.first;
      count = round_up (number 4 2 registers);
    })
    (record {
      inside = leb (number 2 0 registers + number 2 2 registers) s.size;
      start = number 2 0 registers;
      count = number 2 2 registers;
    })

-- FLUSH: "version 1 takes a and L; L = 0 adds no mark and a isn't looked at, otherwise they are checked and marked as in MARK_DIRTY.
-- Version 2 has no arguments"
abbrev pub flush_marks : Session → List ℕ → Bool
flush_marks s registers = ltb s.version 2 && not (eqb (number 4 2 registers) 0)

-- the rules, each of the session, the registers and S: whether an argument breaks it. A command without a rule: none does
abbrev pub never_broken : Session → List ℕ → ℕ → Bool
never_broken s registers S = false

-- GET_INFO: "argument 0 is the host's highest version r. r = 0 is refused"
abbrev pub no_version : Session → List ℕ → ℕ → Bool
no_version s registers S = eqb (argument 0 registers) 0

-- a create: "arguments 0-1 flash block o", and "o >= S is refused"
abbrev pub outside_flash : Session → List ℕ → ℕ → Bool
outside_flash s registers S = leb S (number 2 0 registers)

-- CLOSE_WINDOW: "From version 2 on only the flag values 0 and 1 are now allowed" (02, Ticket 7). Version 1 has no flags: the byte isn't looked at
abbrev pub undefined_flags : Session → List ℕ → ℕ → Bool
undefined_flags s registers S = leb 2 s.version && ltb 1 (argument 0 registers)

-- MARK_DIRTY and ERASE: some of the blocks lie outside the window
abbrev pub outside_window : Session → List ℕ → ℕ → Bool
outside_window s registers S = not (blocks_named s registers).inside

-- FLUSH: some of those that it marks do
abbrev pub flush_outside : Session → List ℕ → ℕ → Bool
flush_outside s registers S = flush_marks s registers && outside_window s registers S

-- ---- what the checks look at

-- "the sequence equals the previous one"
abbrev pub is_previous : Option ℕ → ℕ → Bool
is_previous None n = false
is_previous (Some previous) n = eqb n previous

-- "an active write window"
abbrev pub is_write : Window → Bool
is_write Closed = false
is_write Read = false
is_write Write = true

-- ---- what a command needs, each more than the one before

-- "the sequence equals the previous one, not GET_INFO"
abbrev pub needs_number : Needs → Bool
needs_number Nothing = false
needs_number NewNumber = true
needs_number Access = true
needs_number WriteWindow = true

-- "suspended and not GET_INFO or ACK"
abbrev pub needs_access : Needs → Bool
needs_access Nothing = false
needs_access NewNumber = false
needs_access Access = true
needs_access WriteWindow = true

-- "MARK_DIRTY, ERASE or FLUSH without an active write window"
abbrev pub needs_window : Needs → Bool
needs_window Nothing = false
needs_window NewNumber = false
needs_window Access = false
needs_window WriteWindow = true

-- ---- the table

-- a row of the table: the test, and what it means if no earlier one holds
pub record Row : Type 0 where
  pub test : Bool
  pub reason : Reason

-- the table, "exactly when (and no earlier check refused)": from whether the lent sizes, B and the session keep the numbers, and of the command
-- whether the agreed version knows it, what it needs and whether its argument rule is broken
abbrev pub table : Bool → Session → List ℕ → Bool → Needs → Bool → List Row
table sound s registers known needs broken =
    record { test = not sound; reason = System }
    ∷ record { test = needs_number needs && is_previous s.previous (sequence_of registers); reason = Repeated }
    ∷ record { test = not known; reason = Unknown }
    ∷ record { test = needs_access needs && s.suspended; reason = Suspended }
    ∷ record { test = needs_window needs && not (is_write s.window); reason = Windowless }
    ∷ record { test = broken; reason = Argument }
    ∷ []

-- what the checks come to: no row holds, and the command is accepted, or the first that does refuses it
abbrev pub Checked : Type 0
Checked = Result Unit Reason

-- no row holds
pattern abbrev pub Accepted : Checked
Accepted = Ok tt

abbrev pub first_of : List Row → Checked
first_of [] = Accepted
first_of (row ∷ rows) = cond row.test (Err row.reason) (first_of rows)

unfoldable pub reason_for : Bool → Session → List ℕ → Bool → Needs → Bool → Checked
reason_for sound s registers known needs broken = first_of (table sound s registers known needs broken)

-- the published codes
abbrev pub code_number : Code → ℕ
code_number Success = 1
code_number ParamError = 2
code_number WriteError = 3
code_number SystemError = 4
code_number Timeout = 5
code_number Busy = 6
code_number WindowError = 7
code_number SeqError = 8

-- the codes: 4 SYSTEM_ERROR, 8 SEQ_ERROR, 2 PARAM_ERROR, 6 BUSY, 7 WINDOW_ERROR, 1 SUCCESS; at versions 0 and 1
-- code 2 stands for 8 and 5 for 6, at version 1 code 2 for 7 (version 0 does not know those commands). WRITE_ERROR (3) is told after a flush, in
-- mailbox/specs/Commands.antt
abbrev pub code_for : ℕ → Checked → ℕ
code_for version Accepted = 1
code_for version (Err System) = 4
code_for version (Err Repeated) = cond (ltb version 2) 2 8
code_for version (Err Unknown) = 2
code_for version (Err Suspended) = cond (ltb version 2) 5 6
code_for version (Err Windowless) = cond (ltb version 2) 2 7
code_for version (Err Argument) = 2
