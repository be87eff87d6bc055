-- The kept numbers of dirty and erased blocks, and what `pending` tells of them, with the papers' own numbers: document 02, Ticket 2. Proved in
-- proofs/Pending.antt.
use Rattle.std.specs.Prelude.{None, Err, ◌≡◌, Bool, true, false, cond, ◌||◌, List, [], ◌∷◌, ◌⊎◌, ℕ, suc, ◌+◌, ◌*◌, eqb, length, replicate}
use Rattle.session.specs.declared.Session.{Session}
use Rattle.session.specs.Machine.{Setup, Machine}
use Rattle.session.specs.Marks.{counts_of}
use Rattle.session.specs.Record.{fresh}
use Rattle.session.specs.Suspension.{resumed_changed}
use Rattle.soundness.specs.Soundness.{sound_in}
use Rattle.soundness.specs.Pending.{marked_work, pending_in}
use Rattle.flush.specs.Window.{window_actions, advanced}
use Rattle.refusals.specs.declared.Reason.TheVariants.{System, Argument}
use Rattle.refusals.specs.Refusals.{Accepted}
use Rattle.registers.specs.Registers.{command_of, number}
use Rattle.marklist.specs.MarkList.{list_code, listed_in}
use Rattle.mailbox.specs.Commands.{flushing}
use Rattle.mailbox.specs.Mediator.{reason_in, mediate, response}
use Rattle.mailbox.specs.Runs.{Call, called_all}
use Rattle.invariants.specs.Codes.{is_create}

-- ---- the kept numbers

-- "a full count": how many of the marks are this one
abbrev pub how_many : ℕ → List ℕ → ℕ
how_many kind [] = 0
how_many kind (mark ∷ marks) = cond (eqb mark kind) (suc (how_many kind marks)) (how_many kind marks)

-- the numbers of any marks are that
abbrev pub CountsAsSaid : Type 0
CountsAsSaid = (marks : List ℕ) → ((counts_of marks).dirty ≡ how_many 1 marks) × ((counts_of marks).erased ≡ how_many 2 marks)

-- they "equal a full count of the marks": of those that are 1, and of those that are 2
pub record Counted (s : Session) : Type 0 where
  pub dirty : s.counts.dirty ≡ how_many 1 s.marks
  pub erased : s.counts.erased ≡ how_many 2 s.marks

-- "disagreement is SYSTEM_ERROR, first as before", whatever the command, and for a list of marks; a step "answers 4 .. and changes nothing"
abbrev pub MiscountedRefused : Type 0
MiscountedRefused =
    (setup : Setup) (registers : List ℕ) (m : Machine) → (Counted m.session → ⊥)
    → (reason_in setup registers m ≡ Err System)
    × ((list : List ℕ) → list_code (listed_in setup list m).answer ≡ 4)
    × ((done : ℕ) → advanced m done ≡ record { code = 4; yes = false; flash = m.flash })

-- "correct after every call on a sound session": it stays sound (`CommandKeeps`, `ListKeeps`, `AccessKeeps`), and a sound session's are. After any list of calls
abbrev pub RunCounted : Type 0
RunCounted = (setup : Setup) (calls : List Call) (m : Machine) → sound_in setup m ≡ true → Counted (called_all setup calls m).session

-- "and 0 where marks are dropped": nothing is marked, and both numbers say so
pub record Unmarked (s : Session) : Type 0 where
  pub marks : s.marks ≡ replicate 64 0
  pub dirty : s.counts.dirty ≡ 0
  pub erased : s.counts.erased ≡ 0

-- RESET (1), a create (4, 6), CLOSE_WINDOW (5) and FLUSH (8) drop the marks
abbrev pub drops : ℕ → Bool
drops code = eqb code 1 || (is_create code || (eqb code 5 || eqb code 8))

-- where no check refuses them, FLUSH and CLOSE_WINDOW where they do not answer WRITE_ERROR (3) either (02, Ticket 8); a create also where it is refused for its
-- argument; resume with changed flash, of any session, sound or not; and in a fresh session there are none
abbrev pub DroppedUnmarked : Type 0
DroppedUnmarked =
    ((setup : Setup) (registers : List ℕ) (m : Machine)
    → (reason_in setup registers m ≡ Accepted → drops (command_of registers) ≡ true
    → (response setup registers m ≡ 3 → is_create (command_of registers) ≡ true) → Unmarked (mediate setup registers m).machine.session)
    × (reason_in setup registers m ≡ Err Argument → is_create (command_of registers) ≡ true → Unmarked (mediate setup registers m).machine.session))
    × ((s : Session) → s.suspended ≡ true → Unmarked (resumed_changed s).session)
    × Unmarked fresh

-- ---- what `pending` answers

-- "unsound" exactly where the numbers disagree, whatever else the session is, and otherwise what they say
abbrev pub PendingExact : Type 0
PendingExact =
    (s : Session)
    → (Counted s → pending_in s ≡ marked_work (s.counts.dirty + s.counts.erased) (17 * s.counts.dirty + s.counts.erased))
    × ((Counted s → ⊥) → pending_in s ≡ None)

-- the number of marks that aren't 0
abbrev pub marked_blocks : List ℕ → ℕ
marked_blocks [] = 0
marked_blocks (mark ∷ marks) = cond (eqb mark 0) 0 1 + marked_blocks marks

-- of a sound session it tells "how many window blocks are marked and how many chip actions a flush would take"
abbrev pub PendingTells : Type 0
PendingTells =
    (setup : Setup) (m : Machine) → sound_in setup m ≡ true
    → pending_in m.session ≡ marked_work (marked_blocks m.session.marks) (length (window_actions m.session))

-- what it tells is what the answer to a command carries
abbrev pub Tells : Setup → List ℕ → Machine → Type 0
Tells setup registers m = pending_in m.session ≡ marked_work (marked_blocks m.session.marks) (mediate setup registers m).actions

-- to a FLUSH (8) "that adds no mark", among them every one of version 2 and with L = 0 (2-5), and where L names only blocks that are dirty already; to a
-- CLOSE_WINDOW (5) and a create, which close the window; and to a create that is refused for its argument. Each where it does not answer WRITE_ERROR (3):
-- what is told "counts as if no block were worn" (02, Ticket 8)
abbrev pub PendingCarried : Type 0
PendingCarried =
    (setup : Setup) (registers : List ℕ) (m : Machine)
    → (response setup registers m ≡ 3 → ⊥)
    → (reason_in setup registers m ≡ Accepted → command_of registers ≡ 8 → (flushing m.session registers).marks ≡ m.session.marks → Tells setup registers m)
    × (reason_in setup registers m ≡ Accepted → command_of registers ≡ 8 → (m.session.version ≡ 2) ⊎ (number 4 2 registers ≡ 0) → Tells setup registers m)
    × (reason_in setup registers m ≡ Accepted → (is_create (command_of registers) || eqb (command_of registers) 5) ≡ true → Tells setup registers m)
    × (reason_in setup registers m ≡ Err Argument → is_create (command_of registers) ≡ true → Tells setup registers m)
