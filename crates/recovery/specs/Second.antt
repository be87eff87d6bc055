-- The second run of demand 3, and the flush never stopped: document 01, the last paragraph of "Chip actions", and 02, Ticket 8.
use Rattle.std.specs.Prelude.{ℕ, ◌+◌, ◌≤◌, true, List, [], ◌∷◌, ◌⊎◌, ◌≡◌, length, get_or, replicate}
use Rattle.units.specs.Units.{to_bytes, block_holding}
use Rattle.session.specs.declared.Session.{Session}
use Rattle.session.specs.Machine.{Setup, Machine, lent, holding, wearing}
use Rattle.session.specs.Marks.{programs}
use Rattle.session.specs.Record.{fresh}
use Rattle.session.specs.Suspension.{resumed}
use Rattle.registers.specs.Registers.{command_of}
use Rattle.mailbox.specs.Commands.{flushing}
use Rattle.mailbox.specs.Table.{get_info, create_write_window, mark_dirty, flush, erase}
use Rattle.mailbox.specs.Mediator.{mediate, response}
use Rattle.mailbox.specs.Runs.{Call, send, mark_list, suspend, resume, resume_changed, advance, write, alter, wear, called, called_all}
use Rattle.invariants.specs.Worn.{MeetsNone}
use Rattle.recovery.specs.Cut.{stepped, step, after_all, answers, actions_of, reach_of, start}

-- what a mailbox command leaves
abbrev pub sent : Setup → List ℕ → Machine → Machine
sent setup registers m = called setup (send registers) m

-- "any list of MARK_DIRTY and ERASE commands, refused ones included, with host writes in the window", and lists of marks in one call, which mark as such commands
-- do or nothing (02, Ticket 4); and no other call
abbrev pub Allowed : ℕ → Call → Type 0
Allowed size (send registers) = (command_of registers ≡ mark_dirty.code) ⊎ (command_of registers ≡ erase.code)
Allowed size (mark_list list) = Unit
Allowed size (write at bytes) = at + length bytes ≤ to_bytes size
Allowed size suspend = ⊥
Allowed size resume = ⊥
Allowed size resume_changed = ⊥
Allowed size (advance done) = ⊥
Allowed size (alter at bytes) = ⊥
Allowed size (wear at bytes) = ⊥

abbrev pub AllAllowed : ℕ → List Call → Type 0
AllAllowed size [] = Unit
AllAllowed size (call ∷ calls) = Allowed size call × AllAllowed size calls

-- "flushes by FLUSH or by N steps, their count from 0"; N is that of the session, which has the first list's marks
pub data Way : Type 0 where
  by_steps : Way
  by_flush : List ℕ → Way

abbrev pub Succeeds : Setup → Way → Machine → Type 0
Succeeds setup by_steps m = Unit
Succeeds setup (by_flush registers) m = (command_of registers ≡ flush.code) × (response setup registers m ≡ 1)

-- every one of the N steps answers 1 with yes
abbrev pub StepsSucceed : Machine → Type 0
StepsSucceed m =
    answers (reach_of m) (replicate (actions_of m.session) step) (start m)
    ≡ replicate (actions_of m.session) (stepped 1 true)

-- the flash after it
abbrev pub flash_after : Setup → Way → Machine → List ℕ
flash_after setup by_steps m =
    (after_all (reach_of m) (replicate (actions_of m.session) step) (start m)).machine.flash
flash_after setup (by_flush registers) m = (mediate setup registers m).machine.flash

-- ---- the second run, call by call: "a fresh session, .. the flash as the cut left it, any window memory", and a map of its own
abbrev pub begun : List ℕ → List ℕ → List ℕ → Machine
begun flash worn memory = lent fresh flash worn memory

-- "It agrees version 2"
abbrev pub agreeing : Setup → List ℕ → List ℕ → List ℕ → List ℕ → Machine
agreeing setup info flash worn memory = sent setup info (begun flash worn memory)

-- "asks for the same first block and size"
abbrev pub opening : Setup → List ℕ → List ℕ → List ℕ → List ℕ → List ℕ → Machine
opening setup info create flash worn memory = sent setup create (agreeing setup info flash worn memory)

-- "sends demand 3's list"
abbrev pub marking : Setup → List ℕ → List ℕ → List Call → List ℕ → List ℕ → List ℕ → Machine
marking setup info create calls flash worn memory = called_all setup calls (opening setup info create flash worn memory)

-- a second run for the window of the machine at the first list's start, on this flash; "outside the list all succeed"
pub record SecondRun (setup : Setup) (m : Machine) (flash : List ℕ) : Type 0 where
  -- any map, but "its second run must meet no worn block" (02, Ticket 8); that GET_INFO succeeds tells that its length is S
  pub worn : List ℕ
  pub good : MeetsNone worn m.session
  -- any window memory of the same size
  pub other : List ℕ
  pub other_size : length other ≡ length m.memory
  -- GET_INFO
  pub info : List ℕ
  pub info_is : command_of info ≡ get_info.code
  pub info_succeeds : response setup info (begun flash worn other) ≡ 1
  pub agreed : (agreeing setup info flash worn other).session.version ≡ 2
  -- CREATE_WRITE_WINDOW
  pub create : List ℕ
  pub create_is : command_of create ≡ create_write_window.code
  pub create_succeeds : response setup create (agreeing setup info flash worn other) ≡ 1
  pub same_first : (opening setup info create flash worn other).session.first ≡ m.session.first
  pub same_size : (opening setup info create flash worn other).session.size ≡ m.session.size
  -- the list, "that ends with the same marks and each dirty block's former window bytes": of the blocks that are programmed
  pub calls : List Call
  pub allowed : AllAllowed m.session.size calls
  pub same_marks : (marking setup info create calls flash worn other).session.marks ≡ m.session.marks
  pub same_bytes : (x : ℕ) → programs (get_or m.session.marks (block_holding x) 0) ≡ true
      → get_or (marking setup info create calls flash worn other).memory x 0 ≡ get_or m.memory x 0
  -- the flush
  pub way : Way
  pub way_succeeds : Succeeds setup way (marking setup info create calls flash worn other)

-- before the flush of a second run, and the chip after it
abbrev pub second_end : (setup : Setup) (m : Machine) (flash : List ℕ) → SecondRun setup m flash → Machine
second_end setup m flash r = marking setup r.info r.create r.calls flash r.worn r.other

abbrev pub second_flash : (setup : Setup) (m : Machine) (flash : List ℕ) → SecondRun setup m flash → List ℕ
second_flash setup m flash r = flash_after setup r.way (second_end setup m flash r)

-- "The flush never stopped starts as the first list does, resumes without changed flash if suspended there": a resume leaves any other session
-- as it is; "N and its flush never stopped are those with every block good" (02, Ticket 8)
abbrev pub unstopped : Machine → Machine
unstopped m = wearing (replicate (length m.worn) 0) (holding (resumed m.session).session m)

-- "a successful FLUSH that adds no mark": the marks that it works from are those of the session. So it is where L = 0, at version 2, and where
-- L names only blocks that are dirty already
abbrev pub AddsNone : Way → Session → Type 0
AddsNone by_steps s = Unit
AddsNone (by_flush registers) s = (flushing s registers).marks ≡ s.marks

-- the chip after the flush never stopped
abbrev pub unstopped_flash : Setup → Way → Machine → List ℕ
unstopped_flash setup way m = flash_after setup way (unstopped m)
