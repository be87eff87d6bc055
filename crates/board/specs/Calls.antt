-- What each call of the board's loop leaves, over the record that C keeps: the definitions of the crates below, of the session that the
-- record stands for. A record with a number that stands for nothing is not sound.
use Rattle.std.specs.Prelude.{◌≡◌, ℕ, ◌+◌, ◌*◌, true, false, cond, Option, None, Some, Result, Ok, Err, List, [], length, replicate}
use Rattle.session.specs.Marks.{marks_of}
use Rattle.session.specs.Machine.{Setup, set_up, lent}
use Rattle.session.specs.declared.Session.{Session}
use Rattle.session.specs.Suspension.{Suspension, suspended, resumed, resumed_changed}
use Rattle.soundness.specs.declared.pending_work.PendingWork.{PendingWork}
use Rattle.soundness.specs.Pending.{pending_in}
use Rattle.flush.specs.Window.{Advanced, advanced}
use Rattle.marklist.specs.declared.ListError.{ListError}
use Rattle.marklist.specs.declared.ListError.TheVariants.{Unsound}
use Rattle.marklist.specs.MarkList.{ListAnswer, Marked, Listed, list_code, names_pair, place_named, listed}
use Rattle.mailbox.specs.Commands.{Outcome, answered}
use Rattle.mailbox.specs.Mediator.{mediate}
use Rattle.board.specs.declared.ListReply.{ListReply}
use Rattle.board.specs.declared.Record.{Record}
use Rattle.board.specs.declared.Stepped.{Stepped}
use Rattle.board.specs.declared.Suspended.{Suspended}
use Rattle.board.specs.declared.Work.{Work}
use Rattle.board.specs.Record.{is_yes, is_regular, session_of, record_of, with_numbers}

-- "B", and "T", as C passes them
abbrev pub board : ℕ → ℕ → Setup
board lpc timeout = set_up (record { lpc = lpc; timeout = timeout })

-- what a command leaves: the record, the registers, the number of chip actions and both buffers; the map of worn blocks is only read
pub record Left : Type 0 where
  pub held : Record
  pub registers : List ℕ
  pub actions : ℕ
  pub flash : List ℕ
  pub memory : List ℕ

abbrev pub left : Record → List ℕ → ℕ → List ℕ → List ℕ → Left
left h registers actions flash memory = record { held = h; registers = registers; actions = actions; flash = flash; memory = memory }

-- the mediator's outcome, its session as a record
abbrev pub kept : ℕ → Outcome → Left
kept spare o = left (record_of spare o.machine.session) o.registers o.actions o.machine.flash o.machine.memory

-- SYSTEM_ERROR: the record stays exactly as it is, and so do both buffers
abbrev pub system_error : Record → List ℕ → List ℕ → List ℕ → Left
system_error h registers flash memory = left h (answered (session_of h) registers 4 [] 0).registers 0 flash memory

-- a command, of the flash, its map of worn blocks and the window memory
unfoldable pub commanded : Setup → Record → List ℕ → List ℕ → List ℕ → List ℕ → Left
commanded setup h registers flash worn memory =
    cond (is_regular h)
    (kept h.previous (mediate setup registers (lent (session_of h) flash worn memory)))
    (system_error h registers flash memory)

-- suspend and resume, "on any session, sound or not": a call that has nothing to do "changes nothing and answers no; otherwise they answer
-- yes", and the record is that of the session, with h's own number for whether there is a previous one (house) and this number for the window
abbrev pub answer_of : ℕ → Record → Suspension → Suspended
answer_of window h a =
    cond a.done
    (record { done = true; held = with_numbers h.numbered window (record_of h.previous a.session) })
    (record { done = false; held = h })

-- the window keeps its number, also one above 2 (house)
abbrev pub suspended_record : Record → Suspended
suspended_record h = answer_of h.window h (suspended (session_of h))

abbrev pub resumed_record : Record → Suspended
resumed_record h = answer_of h.window h (resumed (session_of h))

-- resume with changed flash drops the window, whatever its number
abbrev pub changed_record : Record → Suspended
changed_record h = answer_of 0 h (resumed_changed (session_of h))

-- the answer of a step, as C has it, and the flash
abbrev pub stepped_by : Stepped → List ℕ → Advanced
stepped_by r flash = record { code = r.code; yes = r.acted; flash = flash }

-- the flush advanced by one action: 4 where the record is not sound
abbrev pub stepped_record : Record → List ℕ → List ℕ → ℕ → List ℕ → Advanced
stepped_record h worn memory done flash =
    cond (is_regular h)
    (advanced (lent (session_of h) flash worn memory) done)
    (record { code = 4; yes = false; flash = flash })

-- the answer of a list of marks, as C has it: its code, and whether it names a pair, by its place
abbrev pub list_reply_of : ListAnswer → ListReply
list_reply_of answer = record { code = list_code answer; named = names_pair answer; place = place_named answer }

-- the record that a list leaves, and what it answers
pub record ServedList : Type 0 where
  pub held : Record
  pub answer : ListReply

-- as the code has them: a list that is refused leaves the record that it was given
abbrev pub marked_record : Record → Result Record ListError → ServedList
marked_record before (Ok after) = record { held = after; answer = list_reply_of Marked }
marked_record before (Err refused) = record { held = before; answer = list_reply_of (Err refused) }

-- what it leaves and answers, its session as a record
abbrev pub kept_list : ℕ → Listed → ServedList
kept_list spare l = record { held = record_of spare l.session; answer = list_reply_of l.answer }

-- a list of marks in one call, of the lengths of the flash, its map and the window memory in bytes: 4 where the record is not sound, which stays
-- exactly as it is (02, Ticket 4)
unfoldable pub listed_record : Setup → ℕ → ℕ → ℕ → List ℕ → Record → ServedList
listed_record setup flash worn memory list h =
    cond (is_regular h)
    (kept_list h.previous (listed setup flash worn memory list (session_of h)))
    (record { held = h; answer = list_reply_of (Err Unsound) })

-- "unsound", and else the two numbers, as C has them: with "unsound" both are 0 (house)
abbrev pub work_of : Option PendingWork → Work
work_of None = record { unsound = true; blocks = 0; actions = 0 }
work_of (Some work) = record { unsound = false; blocks = work.blocks; actions = work.actions }

-- how much is pending, whatever the other numbers of the record (02, Ticket 2), and as if no block were worn (02, Ticket 8)
abbrev pub pending_record : Record → Work
pending_record h = work_of (pending_in (session_of h))

-- from a session to C's record and back nothing is lost, nor the other way where the record is regular. Proved in proofs/Answers.antt
abbrev pub NothingLost : Type 0
NothingLost =
    ((spare : ℕ) (s : Session) → session_of (record_of spare s) ≡ s) × ((h : Record) → is_regular h ≡ true → record_of h.previous (session_of h) ≡ h)

-- what a call leaves of a regular record stands for what it leaves of the session that the record stands for; so what is said of any run of calls on
-- sessions (crate invariants) holds of C's records. Proved in proofs/Follows.antt
abbrev pub Follows : Type 0
Follows =
    (h : Record) (regular : is_regular h ≡ true)
    → ((setup : Setup) (registers flash worn memory : List ℕ)
    → session_of (commanded setup h registers flash worn memory).held ≡ (mediate setup registers (lent (session_of h) flash worn memory)).machine.session)
    × ((setup : Setup) (flash worn memory : ℕ) (list : List ℕ)
    → session_of (listed_record setup flash worn memory list h).held ≡ (listed setup flash worn memory list (session_of h)).session)
    × (session_of (suspended_record h).held ≡ (suspended (session_of h)).session)
    × (session_of (resumed_record h).held ≡ (resumed (session_of h)).session)
    × (session_of (changed_record h).held ≡ (resumed_changed (session_of h)).session)

-- a regular record stays regular, whatever the call, so that 4 never comes from a number that the calls themselves leave; a step leaves the record
-- alone. Proved in proofs/Regular.antt
abbrev pub StaysRegular : Type 0
StaysRegular =
    (h : Record) → is_regular h ≡ true
    → ((setup : Setup) (registers flash worn memory : List ℕ) → is_regular (commanded setup h registers flash worn memory).held ≡ true)
    × ((setup : Setup) (flash worn memory : ℕ) (list : List ℕ) → is_regular (listed_record setup flash worn memory list h).held ≡ true)
    × (is_regular (suspended_record h).held ≡ true)
    × (is_regular (resumed_record h).held ≡ true)
    × (is_regular (changed_record h).held ≡ true)

-- ---- Ticket 2 of C's record, by its own fields and whatever its other numbers are, also those that stand for nothing. Proved in proofs/Counted.antt

-- its two numbers "equal a full count of the marks" (that `marks_of` is one is `CountsAsSaid`, crate invariants)
pub record Counted (h : Record) : Type 0 where
  pub dirty : h.dirty ≡ marks_of 1 h.marks
  pub erased : h.erased ≡ marks_of 2 h.marks

-- `hiomap_pending` answers "unsound" exactly where they do not, and otherwise from them
abbrev pub RecordPending : Type 0
RecordPending =
    (h : Record)
    → (Counted h → pending_record h ≡ record { unsound = false; blocks = h.dirty + h.erased; actions = 17 * h.dirty + h.erased })
    × ((Counted h → ⊥) → pending_record h ≡ record { unsound = true; blocks = 0; actions = 0 })

-- where they do not, a command is SYSTEM_ERROR and a list of marks is answered with 4, which leave the record exactly as it is, and a step answers 4 and
-- changes nothing
abbrev pub RecordMiscounted : Type 0
RecordMiscounted =
    (h : Record) → (Counted h → ⊥) → (flash worn memory : List ℕ)
    → ((setup : Setup) (registers : List ℕ) → commanded setup h registers flash worn memory ≡ system_error h registers flash memory)
    × ((setup : Setup) (list : List ℕ)
    → listed_record setup (length flash) (length worn) (length memory) list h ≡ record { held = h; answer = record { code = 4; named = false; place = 0 } })
    × ((done : ℕ) → stepped_record h worn memory done flash ≡ record { code = 4; yes = false; flash = flash })

-- a resume with changed flash drops the marks of any record that is suspended, and both numbers are 0
abbrev pub RecordDropped : Type 0
RecordDropped =
    (h : Record) → is_yes h.suspended ≡ true
    → ((changed_record h).held.dirty ≡ 0) × ((changed_record h).held.erased ≡ 0) × ((changed_record h).held.marks ≡ replicate 64 0)

-- ---- Ticket 4 of C's record, whatever its numbers are, also those that stand for nothing. Proved in proofs/Listed.antt

-- "No sequence numbers are used or remembered"; a list that does not succeed leaves every byte of the record as it is. Where a number of the record stands for
-- nothing the answer is 4; where each stands for something, what its session answers
abbrev pub RecordListed : Type 0
RecordListed =
    (setup : Setup) (flash worn memory : ℕ) (list : List ℕ) (h : Record)
    → ((listed_record setup flash worn memory list h).held.numbered ≡ h.numbered)
    × ((listed_record setup flash worn memory list h).held.previous ≡ h.previous)
    × (((listed_record setup flash worn memory list h).answer.code ≡ 1 → ⊥) → (listed_record setup flash worn memory list h).held ≡ h)
    × (is_regular h ≡ false → (listed_record setup flash worn memory list h).answer ≡ record { code = 4; named = false; place = 0 })
    × (is_regular h ≡ true
    → (listed_record setup flash worn memory list h).answer
    ≡ (let a = (listed setup flash worn memory list (session_of h)).answer in record { code = list_code a; named = names_pair a; place = place_named a }))
