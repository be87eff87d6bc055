-- Worn blocks, with the papers' own words and numbers: document 02, Ticket 8. What becomes of the flash, and the number of actions, is said of every command in
-- Demand2.antt; that a sound session stays sound through a failed flush, in Kept.antt and Runs.antt. Proved in proofs/Worn.antt.
use Rattle.std.specs.Prelude.{Option, None, Some, Err, ◌≡◌, Bool, true, false, cond, ◌||◌, List, [], ◌∷◌, ◌++◌, ◌⊎◌, ℕ, suc, ◌+◌, ◌*◌, ◌≤◌, ◌<◌, length, get_or, take, drop, replicate}
use Rattle.units.specs.Units.{round_up}
use Rattle.session.specs.declared.Session.{Session}
use Rattle.session.specs.Machine.{Setup, Machine, wearing}
use Rattle.session.specs.Marks.{is_marked, marks_of}
use Rattle.session.specs.Record.{with_previous, with_marks, drop_window}
use Rattle.soundness.specs.Soundness.{sound}
use Rattle.flush.specs.Window.{window_actions, perform_in, advanced}
use Rattle.refusals.specs.declared.Reason.TheVariants.{System, Argument}
use Rattle.refusals.specs.Refusals.{Accepted}
use Rattle.registers.specs.Registers.{command_of, sequence_of}
use Rattle.marklist.specs.MarkList.{list_code, listed_in}
use Rattle.mailbox.specs.Commands.{flushing}
use Rattle.mailbox.specs.Mediator.{reason_in, mediate, response}
use Rattle.invariants.specs.Codes.{is_create}
use Rattle.invariants.specs.Demand2.{at_close, flushed_for, fails_at, reached}

-- ---- the map

-- "a map whose length is not S is SYSTEM_ERROR, first", whatever the command, and for a list of marks; a step "answers 4 .. and changes nothing"
abbrev pub MapRefused : Type 0
MapRefused =
    (setup : Setup) (registers : List ℕ) (m : Machine) → (length m.worn ≡ round_up (length m.flash) → ⊥)
    → (reason_in setup registers m ≡ Err System)
    × ((list : List ℕ) → list_code (listed_in setup list m).answer ≡ 4)
    × ((done : ℕ) → advanced m done ≡ record { code = 4; yes = false; flash = m.flash })

-- ---- a flush that fails

-- the erase of some block of these marks fails, in a window that begins at this block of the flash
abbrev pub meets : List ℕ → ℕ → List ℕ → Bool
meets worn block [] = false
meets worn block (mark ∷ marks) = fails_at worn block mark || meets worn (suc block) marks

-- "Finished blocks become clean; the failing one and those behind it keep their marks"
abbrev pub kept : List ℕ → ℕ → List ℕ → List ℕ
kept worn block [] = []
kept worn block (mark ∷ marks) = cond (fails_at worn block mark) (mark ∷ marks) (0 ∷ kept worn (suc block) marks)

-- whether the flush of a command fails, of the session whose marks it carries out, if any
abbrev pub failing : List ℕ → Option Session → Bool
failing worn None = false
failing worn (Some s) = meets worn s.first s.marks

-- 3 is answered exactly where it does, by every command, at every version, "after the argument check, but in a create before it": `flushed_for` has whose marks a
-- command carries out, by the check that refuses it. "SUCCESS otherwise": 1 where no check refuses a command and its flush, if any, does not fail
abbrev pub WriteErrorExactly : Type 0
WriteErrorExactly =
    (setup : Setup) (registers : List ℕ) (m : Machine)
    → (failing m.worn (flushed_for (reason_in setup registers m) m.session registers) ≡ true → response setup registers m ≡ 3)
    × (failing m.worn (flushed_for (reason_in setup registers m) m.session registers) ≡ false → response setup registers m ≡ 3 → ⊥)
    × (reason_in setup registers m ≡ Accepted → failing m.worn (flushed_for Accepted m.session registers) ≡ false → response setup registers m ≡ 1)

-- an answer with this code that leaves this session: zero arguments, registers 0, 1 and 14 as received, 15 the event byte; the number as the previous one; the
-- window memory and the map as they were
pub record Leaving (setup : Setup) (registers : List ℕ) (m : Machine) (code : ℕ) (s : Session) : Type 0 where
  pub shown : (mediate setup registers m).registers
      ≡ command_of registers ∷ sequence_of registers ∷ (replicate 11 0 ++ (code ∷ get_or registers 14 0 ∷ m.session.events ∷ []))
  pub left : (mediate setup registers m).machine.session ≡ with_previous (Some (sequence_of registers)) s
  pub memory_same : (mediate setup registers m).machine.memory ≡ m.memory
  pub map_same : (mediate setup registers m).machine.worn ≡ m.worn

-- FLUSH (8) and CLOSE_WINDOW (5) "then answer WRITE_ERROR and the window stays active", with the marks that are kept and their numbers; FLUSH's own marks of
-- version 1 are among them (`FlushMarksAsSaid`). "a create does too and leaves no window", also where its block is past the flash
abbrev pub FailedAsSaid : Type 0
FailedAsSaid =
    (setup : Setup) (registers : List ℕ) (m : Machine) → response setup registers m ≡ 3
    → (command_of registers ≡ 8
    → Leaving setup registers m 3 (with_marks (kept m.worn m.session.first (flushing m.session registers).marks) m.session))
    × (command_of registers ≡ 5 → Leaving setup registers m 3 (with_marks (kept m.worn m.session.first m.session.marks) m.session))
    × (is_create (command_of registers) ≡ true → Leaving setup registers m 3 (drop_window m.session))

-- a create (4, 6) that is refused for its argument "has already closed and flushed the old window", and "WRITE_ERROR (3) comes .. before it"; what became of the
-- flash, and the number of actions, is said in Demand2.antt
abbrev pub RefusedCreateAsSaid : Type 0
RefusedCreateAsSaid =
    (setup : Setup) (registers : List ℕ) (m : Machine) → is_create (command_of registers) ≡ true → reason_in setup registers m ≡ Err Argument
    → Leaving setup registers m (cond (failing m.worn (at_close m.session)) 3 2) (drop_window m.session)

-- ---- the steps

-- how many actions come before the erase that fails: those of the marks that are carried out
abbrev pub place_of : Machine → ℕ
place_of m =
    let marks = reached m.worn m.session.first m.session.marks in
    17 * marks_of 1 marks + marks_of 2 marks

-- a step, whatever the number of actions done: "4 for what the table calls SYSTEM_ERROR, then 6 when suspended, and changes nothing"; up to the failing erase the
-- action of its number is done, and no other; "The stepped form answers 3 from that erase on, changing nothing", and without one 1 past the end
abbrev pub StepsAsSaid : Type 0
StepsAsSaid =
    (m : Machine) (done : ℕ)
    → (sound (length m.flash) (length m.worn) (length m.memory) m.session ≡ false → advanced m done ≡ record { code = 4; yes = false; flash = m.flash })
    × (sound (length m.flash) (length m.worn) (length m.memory) m.session ≡ true
    → (m.session.suspended ≡ true → advanced m done ≡ record { code = 6; yes = false; flash = m.flash })
    × (m.session.suspended ≡ false → done < place_of m
    → advanced m done ≡ record { code = 1; yes = true; flash = perform_in m.session m.memory (take 1 (drop done (window_actions m.session))) m.flash })
    × (m.session.suspended ≡ false → place_of m ≤ done
    → advanced m done ≡ record { code = cond (meets m.worn m.session.first m.session.marks) 3 1; yes = false; flash = m.flash }))

-- ---- with every block good

-- "0 good"
abbrev pub AllGood : List ℕ → Type 0
AllGood worn = (block : ℕ) → get_or worn block 0 ≡ 0

-- all actions of a session's marks, one after the other
abbrev pub Folded : Option Session → List ℕ → List ℕ → List ℕ → ℕ → Type 0
Folded None flash memory after actions = (after ≡ flash) × (actions ≡ 0)
Folded (Some s) flash memory after actions = (after ≡ perform_in s memory (window_actions s) flash) × (actions ≡ length (window_actions s))

-- no command answers 3, and a flush is the fold of all its actions
abbrev pub GoodAsBefore : Type 0
GoodAsBefore =
    (setup : Setup) (registers : List ℕ) (m : Machine) → AllGood m.worn
    → (response setup registers m ≡ 3 → ⊥)
    × Folded (flushed_for (reason_in setup registers m) m.session registers) m.flash m.memory
    (mediate setup registers m).machine.flash (mediate setup registers m).actions

-- ---- after a failed flush

-- of the blocks that a session's flush takes, those that are marked, none is worn
abbrev pub MeetsNone : List ℕ → Session → Type 0
MeetsNone worn s = (block : ℕ) → is_marked (get_or s.marks block 0) ≡ true → get_or worn (s.first + block) 0 ≡ 0

-- a FLUSH or CLOSE_WINDOW failed; then the map is such that no marked block is worn, and a FLUSH that adds no mark is not refused: it succeeds, and the flash is
-- that which the first would have left with every block good
abbrev pub FlushMended : Type 0
FlushMended =
    (setup : Setup) (registers later : List ℕ) (m : Machine) (worn : List ℕ) → response setup registers m ≡ 3
    → (command_of registers ≡ 8) ⊎ (command_of registers ≡ 5)
    → MeetsNone worn (mediate setup registers m).machine.session
    → command_of later ≡ 8 → reason_in setup later (wearing worn (mediate setup registers m).machine) ≡ Accepted
    → (flushing (mediate setup registers m).machine.session later).marks ≡ (mediate setup registers m).machine.session.marks
    → (response setup later (wearing worn (mediate setup registers m).machine) ≡ 1)
    × ((mediate setup later (wearing worn (mediate setup registers m).machine)).machine.flash
    ≡ (mediate setup registers (wearing (replicate (length m.worn) 0) m)).machine.flash)
