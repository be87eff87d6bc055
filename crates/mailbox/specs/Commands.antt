-- What each command leaves, in the order of document 01, "Commands", with 02's tickets. The session of each is that of an answered command: its number is the
-- previous one already.
use Rattle.std.specs.Prelude.{ℕ, ◌-◌, min, cond, Some, List, [], ◌∷◌, ◌++◌, eqb, ltb, length, replicate}
use Rattle.units.specs.Units.{block_bytes, to_bytes, round_up}
use Rattle.buffers.specs.Ranges.{range, replace}
use Rattle.chip.specs.Actions.{erased}
use Rattle.session.specs.declared.Session.{Session}
use Rattle.session.specs.declared.Window.{Window}
use Rattle.session.specs.Events.{acknowledged}
use Rattle.session.specs.Machine.{Setup, Machine, lent, holding}
use Rattle.session.specs.Marks.{dirty, erased_mark}
use Rattle.session.specs.Record.{clean, with_version, with_previous, with_events, with_marks, with_window, drop_window}
use Rattle.flush.specs.Window.{flush_whole}
use Rattle.mailbox.specs.declared.Answer.{Answer}
use Rattle.registers.specs.Registers.{sequence_of, argument, number, bytes_of, padded, reply}
use Rattle.refusals.specs.Refusals.{blocks_named, flush_marks}

-- what a call leaves: the session, both buffers and the map, the registers and the number of chip actions
pub record Outcome : Type 0 where
  pub machine : Machine
  pub registers : List ℕ
  pub actions : ℕ

-- as the code has them
abbrev pub outcome : Answer → List ℕ → List ℕ → List ℕ → Outcome
outcome a flash worn memory = record { machine = lent a.session flash worn memory; registers = a.registers; actions = a.actions }

-- an answer that leaves both buffers alone
abbrev pub leaving : Answer → Machine → Outcome
leaving a m = outcome a m.flash m.worn m.memory

-- the same of a command that looks at the session and the registers only
abbrev pub alone : (Session → List ℕ → Answer) → List ℕ → Machine → Outcome
alone answer registers m = leaving (answer m.session registers) m

-- an answer: the session, a code, all 11 arguments and a number of chip actions
abbrev pub answer_with : Session → List ℕ → ℕ → List ℕ → ℕ → Answer
answer_with s registers code arguments actions =
    record { session = s; registers = reply registers code arguments s.events; actions = actions }

-- the same, from the arguments that the response has
abbrev pub answered : Session → List ℕ → ℕ → List ℕ → ℕ → Answer
answered s registers code arguments actions = answer_with s registers code (padded arguments) actions

-- "Every other answered command makes its number the previous one"
abbrev pub numbered : Session → List ℕ → Session
numbered s registers = with_previous (Some (sequence_of registers)) s

-- what a call is given, with its number as the previous one
abbrev pub numbered_in : List ℕ → Machine → Machine
numbered_in registers m = holding (numbered m.session registers) m

-- "A refusal has zero arguments and changes nothing but the previous sequence number": which of the two sessions it keeps stands in `answer_to`
abbrev pub refused : ℕ → List ℕ → Machine → Outcome
refused code registers m = leaving (answered m.session registers code [] 0) m

-- "The latest mark of a block counts": the blocks named by the arguments get this mark
abbrev pub marked : ℕ → Session → List ℕ → Session
marked mark s registers =
    with_marks (replace (blocks_named s registers).start (replicate (blocks_named s registers).count mark) s.marks) s

-- ---- 1 RESET: "the window and marks are dropped without a flush (house). Version stays."
abbrev pub reset_answer : Session → List ℕ → Answer
reset_answer s registers = answered (drop_window s) registers 1 [] 0

-- ---- 2 GET_INFO: "the smaller of r and 2 is agreed. Window and marks stay. Response, version 1: argument 0 version, 1-2 and 3-4 both C.
-- Version 2: 0 version, 5 the shift 12, 6-7 T."
abbrev pub info_arguments : ℕ → ℕ → ℕ → List ℕ
info_arguments version C T =
    cond (ltb version 2)
    (version ∷ (bytes_of 2 C ++ bytes_of 2 C))
    (version ∷ 0 ∷ 0 ∷ 0 ∷ 0 ∷ 12 ∷ bytes_of 2 T)

abbrev pub info_answer : Setup → Session → List ℕ → ℕ → Answer
info_answer setup s registers C =
    answered (with_version (min (argument 0 registers) 2) s) registers 1
    (info_arguments (min (argument 0 registers) 2) C setup.timeout) 0

abbrev pub informed : Setup → List ℕ → Machine → Outcome
informed setup registers m = leaving (info_answer setup m.session registers (round_up (length m.memory))) m

-- ---- 3 GET_FLASH_INFO: "version 1: arguments 0-3 the flash size, 4-7 the granule, in bytes. Version 2: 0-1 S, 2-3 the number 1."
abbrev pub flash_info_answer : Session → List ℕ → ℕ → Answer
flash_info_answer s registers S =
    answered s registers 1
    (cond (ltb s.version 2) (bytes_of 4 (to_bytes S) ++ bytes_of 4 block_bytes) (bytes_of 2 S ++ bytes_of 2 1)) 0

abbrev pub flash_informed : List ℕ → Machine → Outcome
flash_informed registers m = leaving (flash_info_answer m.session registers (round_up (length m.flash))) m

-- ---- 4 and 6, create a read or write window
-- "version 2 also 2-3 the hint n"
abbrev pub hint : Session → List ℕ → ℕ
hint s registers = cond (ltb s.version 2) 0 (number 2 2 registers)

-- "The size is the smallest of C, S - o and, where n is given and not 0, n"
abbrev pub size_for : ℕ → ℕ → ℕ → ℕ → ℕ
size_for S C o n = cond (eqb n 0) (min C (S - o)) (min (min C (S - o)) n)

-- "flushed if it is a write window", and dropped, with this code and no arguments: what a CLOSE_WINDOW leaves that no check refuses and whose flush
-- succeeds, and a create that opens no window. Without a write window a sound session has no marks, so that nothing is flushed
abbrev pub closing : ℕ → List ℕ → Machine → Outcome
closing code registers m =
    outcome (answered (drop_window m.session) registers code [] (flush_whole m).actions) (flush_whole m).flash m.worn m.memory

-- what a create with a bad argument leaves: the old window is closed all the same, and a flush that failed (3) is told instead of the argument: "WRITE_ERROR (3)
-- comes after the argument check, but in a create before it" (02, Ticket 8)
abbrev pub closing_first : ℕ → List ℕ → Machine → Outcome
closing_first code registers m = closing (cond (flush_whole m).failed 3 code) registers m

-- "Response: 0-1 B; version 2 also 2-3 size, 4-5 o"
abbrev pub create_arguments : ℕ → ℕ → ℕ → ℕ → List ℕ
create_arguments version B size o = cond (ltb version 2) (bytes_of 2 B) (bytes_of 2 B ++ (bytes_of 2 size ++ bytes_of 2 o))

-- "The flash blocks are copied to the front of window memory; the rest of it is unchanged"
abbrev pub opened : Window → ℕ → ℕ → Setup → List ℕ → Machine → Outcome
opened window o size setup registers m =
    outcome
    (answered (with_window window o size m.session) registers 1 (create_arguments m.session.version setup.lpc size o) (flush_whole m).actions)
    (flush_whole m).flash m.worn
    (replace 0 (range (to_bytes o) (to_bytes size) (flush_whole m).flash) m.memory)

-- where the old window's flush fails a create answers WRITE_ERROR "and leaves no window" (02, Ticket 8); else it opens one
abbrev pub opening : Window → ℕ → ℕ → Setup → List ℕ → Machine → Outcome
opening window o size setup registers m = cond (flush_whole m).failed (closing 3 registers m) (opened window o size setup registers m)

abbrev pub created : Window → Setup → List ℕ → Machine → Outcome
created window setup registers m =
    opening window (number 2 0 registers)
    (size_for (round_up (length m.flash)) (round_up (length m.memory)) (number 2 0 registers) (hint m.session registers))
    setup registers m

-- ---- FLUSH and CLOSE_WINDOW of which an erase fails: they "answer WRITE_ERROR and the window stays active", with the marks that are left (02, Ticket 8)
abbrev pub stopped : List ℕ → Machine → Outcome
stopped registers m =
    outcome (answered (with_marks (flush_whole m).marks m.session) registers 3 [] (flush_whole m).actions) (flush_whole m).flash m.worn m.memory

-- ---- 5 CLOSE_WINDOW: "flushes a write window, then drops it. Without a window: success, nothing done (house). The flags of version 2 have
-- no effect": those that `undefined_flags` lets pass, 0 and 1 (02, Ticket 7)
abbrev pub closed : List ℕ → Machine → Outcome
closed registers m = cond (flush_whole m).failed (stopped registers m) (closing 1 registers m)

-- ---- 7 MARK_DIRTY: the named blocks are marked dirty
abbrev pub dirty_answer : Session → List ℕ → Answer
dirty_answer s registers = answered (marked dirty s registers) registers 1 [] 0

-- ---- 8 FLUSH: "All marks are 0 afterwards; the window stays."
abbrev pub flushed_through : List ℕ → Machine → Outcome
flushed_through registers m =
    outcome (answered (with_marks clean m.session) registers 1 [] (flush_whole m).actions) (flush_whole m).flash m.worn m.memory

abbrev pub flushed_all : List ℕ → Machine → Outcome
flushed_all registers m = cond (flush_whole m).failed (stopped registers m) (flushed_through registers m)

-- the session whose marks it flushes: at version 1 with the blocks that it marks itself
abbrev pub flushing : Session → List ℕ → Session
flushing s registers = cond (flush_marks s registers) (marked dirty s registers) s

abbrev pub flushed : List ℕ → Machine → Outcome
flushed registers m = flushed_all registers (holding (flushing m.session registers) m)

-- ---- 9 ACK: clears those of the event bits 0x01 and 0x02 "that argument 0 names" (02, Ticket 1)
abbrev pub ack_answer : Session → List ℕ → Answer
ack_answer s registers = answered (with_events (acknowledged (argument 0 registers) s.events) s) registers 1 [] 0

-- ---- 10 ERASE: "Those blocks are marked erased, and become FF in window memory at once."
abbrev pub erased_outcome : List ℕ → Machine → Outcome
erased_outcome registers m =
    outcome (answered (marked erased_mark m.session registers) registers 1 [] 0) m.flash m.worn
    (erased (to_bytes (blocks_named m.session registers).start) (to_bytes (blocks_named m.session registers).count) m.memory)
