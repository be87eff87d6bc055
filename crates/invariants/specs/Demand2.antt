-- Demand 2's last sentence, said of every command: "The two window marks are carried out as it says: dirty blocks become the window's bytes,
-- erased blocks become FF." Of the chip actions only the number is told. Proved in proofs/Demand2.antt.
use Rattle.std.specs.Prelude.{Option, None, Some, Err, ◌≡◌, Bool, cond, not, ◌&&◌, ◌||◌, List, [], ◌∷◌, ℕ, suc, ◌+◌, ◌-◌, ◌*◌, ◌≤◌, ◌<◌, leb, ltb, eqb, length, get_or}
use Rattle.units.specs.Units.{to_bytes, block_holding}
use Rattle.session.specs.declared.Session.{Session}
use Rattle.session.specs.Machine.{Setup, Machine}
use Rattle.session.specs.Marks.{dirty, erased_mark, marks_of}
use Rattle.session.specs.Record.{with_marks}
use Rattle.flush.specs.Window.{part_end}
use Rattle.refusals.specs.declared.Reason.TheVariants.{System, Repeated, Unknown, Suspended, Windowless, Argument}
use Rattle.registers.specs.Registers.{command_of}
use Rattle.refusals.specs.Refusals.{Checked, Accepted, is_write}
use Rattle.mailbox.specs.Commands.{flushing}
use Rattle.mailbox.specs.Table.{close_window, flush}
use Rattle.mailbox.specs.Mediator.{reason_in, mediate}
use Rattle.invariants.specs.Codes.{is_create}

-- ---- whose marks a command carries out

-- a window that is closed is "flushed if it is a write window"
abbrev pub at_close : Session → Option Session
at_close s = cond (is_write s.window) (Some s) None

-- a command that no check refused: a create closes the active window first, CLOSE_WINDOW closes it, and FLUSH adds its own blocks, "marked as in
-- MARK_DIRTY", before; no other command flushes
abbrev pub flushed_by : ℕ → Session → List ℕ → Option Session
flushed_by code s registers =
    cond (is_create code || eqb code close_window.code) (at_close s) (cond (eqb code flush.code) (Some (flushing s registers)) None)

-- a refusal "changes nothing but the previous sequence number", but "a create refused for its argument has already closed and flushed the old
-- window"
abbrev pub flushed_for : Checked → Session → List ℕ → Option Session
flushed_for Accepted s registers = flushed_by (command_of registers) s registers
flushed_for (Err System) s registers = None
flushed_for (Err Repeated) s registers = None
flushed_for (Err Unknown) s registers = None
flushed_for (Err Suspended) s registers = None
flushed_for (Err Windowless) s registers = None
flushed_for (Err Argument) s registers = cond (is_create (command_of registers)) (at_close s) None

-- ---- how far a flush comes

-- "An erase of a worn block fails" (02, Ticket 8): a block with a mark is erased, and this block of the flash is worn
abbrev pub fails_at : List ℕ → ℕ → ℕ → Bool
fails_at worn block mark = not (eqb mark 0) && not (eqb (get_or worn block 0) 0)

-- "A flush stops at the first failure": of the marks of a window that begins at this block of the flash, those that are carried out
abbrev pub reached : List ℕ → ℕ → List ℕ → List ℕ
reached worn block [] = []
reached worn block (mark ∷ marks) = cond (fails_at worn block mark) [] (mark ∷ reached worn (suc block) marks)

-- the session with these marks alone
abbrev pub reaching : List ℕ → Session → Session
reaching worn s = with_marks (reached worn s.first s.marks) s

-- ---- what becomes of the flash

-- the mark of the block in which byte x of the flash lies: "one for each possible window block", and 0 outside the window
abbrev pub mark_at : Session → ℕ → ℕ
mark_at s x =
    cond (leb (to_bytes s.first) x && ltb x (part_end s)) (get_or s.marks (block_holding (x - to_bytes s.first)) 0) 0

-- the window's byte for byte x of the flash
abbrev pub window_byte : Session → List ℕ → ℕ → ℕ
window_byte s memory x = get_or memory (x - to_bytes s.first) 0

-- "dirty blocks become the window's bytes, erased blocks become FF", and "unmarked blocks must keep the flash's bytes, even where the host wrote
-- in the window"
abbrev pub becomes : Session → List ℕ → List ℕ → ℕ → ℕ
becomes s flash memory x =
    cond (eqb (mark_at s x) dirty) (window_byte s memory x) (cond (eqb (mark_at s x) erased_mark) 0xff (get_or flash x 0))

-- a session's marks carried out: what the flash is afterwards, byte by byte, and how many actions that took, "17 for each dirty block plus 1 for
-- each erased one, at most 1,088". Of a dirty block's byte it is asked that the window's is below 256, as every byte of a lent buffer is
pub record CarriedOut (s : Session) (flash memory after : List ℕ) (actions : ℕ) : Type 0 where
  pub long : length after ≡ length flash
  pub bytes : (x : ℕ) → (mark_at s x ≡ dirty → window_byte s memory x < 256) → get_or after x 0 ≡ becomes s flash memory x
  pub number : actions ≡ 17 * marks_of dirty s.marks + marks_of erased_mark s.marks
  pub few : actions ≤ 1088

-- what a flush carries out, or nothing carried out: the flash is as it was, and the number "0 if it flushes nothing"
abbrev pub Leaves : Option Session → List ℕ → List ℕ → List ℕ → List ℕ → ℕ → Type 0
Leaves None flash worn memory after actions = (after ≡ flash) × (actions ≡ 0)
Leaves (Some s) flash worn memory after actions = CarriedOut (reaching worn s) flash memory after actions

-- the claim, of every command: any content of the registers, any session, buffers and map, sound or not
abbrev pub Demand2 : Type 0
Demand2 =
    (setup : Setup) (registers : List ℕ) (m : Machine)
    → Leaves (flushed_for (reason_in setup registers m) m.session registers) m.flash m.worn m.memory
    (mediate setup registers m).machine.flash (mediate setup registers m).actions
