-- What every command, suspend and resume make of the window and of the marks, with the papers' own numbers: document 01, "Commands". How marks are dropped is
-- said in Pending.antt, with their numbers. Proved in proofs/Marks.antt.
use Rattle.std.specs.Prelude.{◌≡◌, Bool, true, false, cond, not, ◌&&◌, ◌||◌, List, ◌⊎◌, ℕ, ◌+◌, ◌-◌, leb, ltb, eqb, length, get_or}
use Rattle.units.specs.Units.{round_up}
use Rattle.session.specs.declared.Session.{Session}
use Rattle.session.specs.declared.Window.TheVariants.{Closed, Read, Write}
use Rattle.session.specs.Machine.{Setup, Machine}
use Rattle.session.specs.Suspension.{suspended, resumed}
use Rattle.registers.specs.Registers.{command_of, number}
use Rattle.mailbox.specs.Commands.{flushing}
use Rattle.mailbox.specs.Mediator.{reason_in, mediate, response}
use Rattle.invariants.specs.Codes.{is_create}
use Rattle.invariants.specs.Pending.{drops}
use Rattle.refusals.specs.Refusals.{Accepted}

-- the named blocks: "version 1: flash block a (0-1) and L bytes (2-5); L is rounded up to k blocks", counted from the window's first block; "Version 2: window
-- block w (0-1) and k blocks (2-3)"
abbrev pub is_named : Session → List ℕ → ℕ → Bool
is_named s registers block =
    let first = cond (ltb s.version 2) (number 2 0 registers - s.first) (number 2 0 registers) in
    let count = cond (ltb s.version 2) (round_up (number 4 2 registers)) (number 2 2 registers) in
    leb first block && ltb block (first + count)

-- "The latest mark of a block counts": after a MARK_DIRTY (7) each named block is dirty (1), after an ERASE (10) erased (2), and every other block has the mark that
-- it had
abbrev pub MarksAsSaid : Type 0
MarksAsSaid =
    (setup : Setup) (registers : List ℕ) (m : Machine) → length m.session.marks ≡ 64 → reason_in setup registers m ≡ Accepted → (block : ℕ)
    → (command_of registers ≡ 7
    → get_or (mediate setup registers m).machine.session.marks block 0 ≡ cond (is_named m.session registers block) 1 (get_or m.session.marks block 0))
    × (command_of registers ≡ 10
    → get_or (mediate setup registers m).machine.session.marks block 0 ≡ cond (is_named m.session registers block) 2 (get_or m.session.marks block 0))

-- the marks that a FLUSH (8) carries out: at version 1, "L = 0 adds no mark", else the named blocks are dirty, "marked as in MARK_DIRTY"; at version 2 those that
-- there are
abbrev pub FlushMarksAsSaid : Type 0
FlushMarksAsSaid =
    (setup : Setup) (registers : List ℕ) (m : Machine) → length m.session.marks ≡ 64 → reason_in setup registers m ≡ Accepted → command_of registers ≡ 8 → (block : ℕ)
    → get_or (flushing m.session registers).marks block 0
    ≡ cond ((ltb m.session.version 2 && not (eqb (number 4 2 registers) 0)) && is_named m.session registers block) 1 (get_or m.session.marks block 0)

-- a session with the window of another, and with its marks and their kept numbers
pub record SameWindow (s t : Session) : Type 0 where
  pub window : t.window ≡ s.window
  pub first : t.first ≡ s.first
  pub size : t.size ≡ s.size

pub record SameMarks (s t : Session) : Type 0 where
  pub marks : t.marks ≡ s.marks
  pub counts : t.counts ≡ s.counts

-- commands that neither drop marks nor set any leave both: GET_INFO, "Window and marks stay", GET_FLASH_INFO, ACK and every unknown code, refused or not, on any
-- session. What a refusal of another leaves is said by `RefusalsAsSaid`
abbrev pub MarksStay : Type 0
MarksStay =
    (setup : Setup) (registers : List ℕ) (m : Machine) → (drops (command_of registers) || (eqb (command_of registers) 7 || eqb (command_of registers) 10)) ≡ false
    → SameWindow m.session (mediate setup registers m).machine.session × SameMarks m.session (mediate setup registers m).machine.session

-- and so do suspend and resume without changed flash, on any session
abbrev pub AccessStays : Type 0
AccessStays =
    (s : Session)
    → (SameWindow s (suspended s).session × SameMarks s (suspended s).session) × (SameWindow s (resumed s).session × SameMarks s (resumed s).session)

-- no window: "without a window its first block and size are 0"
pub record NoWindow (s : Session) : Type 0 where
  pub window : s.window ≡ Closed
  pub first : s.first ≡ 0
  pub size : s.size ≡ 0

-- the window after a command that no check refuses: MARK_DIRTY (7), ERASE (10) and FLUSH (8), "the window stays", keep it; RESET (1) drops it, and so does
-- CLOSE_WINDOW (5) that succeeds; a create that succeeds has opened one for reading (4) or writing (6) at flash block o (0-1). With WRITE_ERROR (3) "the window
-- stays active", but a create "leaves no window" (02, Ticket 8)
abbrev pub WindowAsSaid : Type 0
WindowAsSaid =
    (setup : Setup) (registers : List ℕ) (m : Machine) → reason_in setup registers m ≡ Accepted
    → ((command_of registers ≡ 7) ⊎ ((command_of registers ≡ 8) ⊎ (command_of registers ≡ 10))
    → SameWindow m.session (mediate setup registers m).machine.session)
    × (command_of registers ≡ 1 → NoWindow (mediate setup registers m).machine.session)
    × (command_of registers ≡ 5 → response setup registers m ≡ 1 → NoWindow (mediate setup registers m).machine.session)
    × (command_of registers ≡ 5 → response setup registers m ≡ 3 → SameWindow m.session (mediate setup registers m).machine.session)
    × (command_of registers ≡ 4 → response setup registers m ≡ 1
    → ((mediate setup registers m).machine.session.window ≡ Read) × ((mediate setup registers m).machine.session.first ≡ number 2 0 registers))
    × (command_of registers ≡ 6 → response setup registers m ≡ 1
    → ((mediate setup registers m).machine.session.window ≡ Write) × ((mediate setup registers m).machine.session.first ≡ number 2 0 registers))
    × (is_create (command_of registers) ≡ true → response setup registers m ≡ 3 → NoWindow (mediate setup registers m).machine.session)
