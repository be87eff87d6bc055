-- Demand 3 with every command of the second run, and the FLUSH of the flush never stopped, by mailbox or by message: document 00, demand 3, and document 02,
-- Tickets 6 and 8. The first list has no commands: steps, suspends and resumes are the board's own calls. Proved in proofs/Demand.antt.
use Rattle.std.specs.Prelude.{ℕ, ◌≤◌, ◌≡◌, true, List, [], ◌∷◌, ◌⊎◌, length, get_or}
use Rattle.units.specs.Units.{block_holding}
use Rattle.session.specs.declared.Session.{Session}
use Rattle.session.specs.declared.Window.TheVariants.{Write}
use Rattle.session.specs.Machine.{Setup, Machine}
use Rattle.session.specs.Marks.{programs}
use Rattle.soundness.specs.Soundness.{sound_in}
use Rattle.registers.specs.Registers.{command_of}
use Rattle.messages.specs.declared.Pair.{Pair}
use Rattle.messages.specs.Messages.{hiomap_command_of, registers_of}
use Rattle.mailbox.specs.Commands.{flushing}
use Rattle.mailbox.specs.Table.{get_info, create_write_window, mark_dirty, flush, erase}
use Rattle.mailbox.specs.Mediator.{mediate, response}
use Rattle.ipmi.specs.Served.{served}
use Rattle.recovery.specs.Cut.{FirstCall, cut}
use Rattle.invariants.specs.Worn.{MeetsNone}
use Rattle.recovery.specs.Second.{Allowed, StepsSucceed, begun, unstopped}
use Rattle.recovery.specs.Second as second
use Rattle.transports.specs.Same.{completion_in}
use Rattle.transports.specs.Runs.{Input, call, message, left_all}

-- a command by mailbox, or by message for any pair
pub data Request : Type 0 where
  by_mailbox : List ℕ → Request
  by_message : Pair → List ℕ → Request

-- the hiomap command that it is
abbrev pub code_of : Request → ℕ
code_of (by_mailbox registers) = command_of registers
code_of (by_message pair bytes) = hiomap_command_of bytes

-- its registers, of a message as it is unpacked at a version
abbrev pub registers_in : Request → ℕ → List ℕ
registers_in (by_mailbox registers) version = registers
registers_in (by_message pair bytes) version = registers_of version bytes

-- what it leaves
abbrev pub sent : Setup → Request → Machine → Machine
sent setup (by_mailbox registers) m = (mediate setup registers m).machine
sent setup (by_message pair bytes) m = (served setup pair bytes m).machine

-- it succeeds: the response is 1, or there is a response and its completion code is 00
abbrev pub Succeeds : Setup → Request → Machine → Type 0
Succeeds setup (by_mailbox registers) m = response setup registers m ≡ 1
Succeeds setup (by_message pair bytes) m =
    (3 ≤ length (served setup pair bytes m).response) × (completion_in (served setup pair bytes m).response ≡ 0x00)

-- "any list of MARK_DIRTY and ERASE commands, refused ones included, with host writes in the window": the calls of demand 3's list, and messages with these two
-- commands, refused ones included
abbrev pub Marks : ℕ → Input → Type 0
Marks size (call c) = Allowed size c
Marks size (message pair bytes) = (hiomap_command_of bytes ≡ mark_dirty.code) ⊎ (hiomap_command_of bytes ≡ erase.code)

abbrev pub AllMark : ℕ → List Input → Type 0
AllMark size [] = Unit
AllMark size (input ∷ inputs) = Marks size input × AllMark size inputs

-- "flushes by FLUSH or by N steps"
pub data Way : Type 0 where
  by_steps : Way
  by_flush : Request → Way

abbrev pub FlushSucceeds : Setup → Way → Machine → Type 0
FlushSucceeds setup by_steps m = Unit
FlushSucceeds setup (by_flush request) m = (code_of request ≡ flush.code) × Succeeds setup request m

-- the flash after it
abbrev pub flash_after : Setup → Way → Machine → List ℕ
flash_after setup by_steps m = second.flash_after setup second.by_steps m
flash_after setup (by_flush request) m = (sent setup request m).flash

-- "a successful FLUSH that adds no mark"
abbrev pub AddsNone : Way → Session → Type 0
AddsNone by_steps s = Unit
AddsNone (by_flush request) s = (flushing s (registers_in request s.version)).marks ≡ s.marks

-- ---- the second run, call by call
abbrev pub agreeing : Setup → Request → List ℕ → List ℕ → List ℕ → Machine
agreeing setup info flash worn memory = sent setup info (begun flash worn memory)

abbrev pub opening : Setup → Request → Request → List ℕ → List ℕ → List ℕ → Machine
opening setup info create flash worn memory = sent setup create (agreeing setup info flash worn memory)

abbrev pub marking : Setup → Request → Request → List Input → List ℕ → List ℕ → List ℕ → Machine
marking setup info create inputs flash worn memory = left_all setup inputs (opening setup info create flash worn memory)

-- as `SecondRun` of crate recovery, each command by mailbox or by message
pub record SecondRun (setup : Setup) (m : Machine) (flash : List ℕ) : Type 0 where
  -- "its second run must meet no worn block" (02, Ticket 8): a map of its own, of which that GET_INFO succeeds tells the length
  pub worn : List ℕ
  pub good : MeetsNone worn m.session
  pub other : List ℕ
  pub other_size : length other ≡ length m.memory
  -- GET_INFO
  pub info : Request
  pub info_is : code_of info ≡ get_info.code
  pub info_succeeds : Succeeds setup info (begun flash worn other)
  pub agreed : (agreeing setup info flash worn other).session.version ≡ 2
  -- CREATE_WRITE_WINDOW
  pub create : Request
  pub create_is : code_of create ≡ create_write_window.code
  pub create_succeeds : Succeeds setup create (agreeing setup info flash worn other)
  pub same_first : (opening setup info create flash worn other).session.first ≡ m.session.first
  pub same_size : (opening setup info create flash worn other).session.size ≡ m.session.size
  -- the list
  pub inputs : List Input
  pub allowed : AllMark m.session.size inputs
  pub same_marks : (marking setup info create inputs flash worn other).session.marks ≡ m.session.marks
  pub same_bytes : (x : ℕ) → programs (get_or m.session.marks (block_holding x) 0) ≡ true
      → get_or (marking setup info create inputs flash worn other).memory x 0 ≡ get_or m.memory x 0
  -- the flush
  pub way : Way
  pub way_succeeds : FlushSucceeds setup way (marking setup info create inputs flash worn other)

abbrev pub second_end : (setup : Setup) (m : Machine) (flash : List ℕ) → SecondRun setup m flash → Machine
second_end setup m flash r = marking setup r.info r.create r.inputs flash r.worn r.other

-- the claim: what holds at the cut is `Demand3`'s (crate recovery), and "for every two such lists, the chip equals that of the flush never stopped", which is that
-- "with every block good", whatever map the first list had (`unstopped`)
abbrev pub Demand3ByMessage : Type 0
Demand3ByMessage =
    (setup : Setup) (m : Machine) → sound_in setup m ≡ true → m.session.window ≡ Write
    → (list : List FirstCall) (run : SecondRun setup m (cut m list).machine.flash) (way : Way)
    → FlushSucceeds setup way (unstopped m) → AddsNone way m.session
    → (flash_after setup run.way (second_end setup m (cut m list).machine.flash run) ≡ flash_after setup way (unstopped m))
    × StepsSucceed (second_end setup m (cut m list).machine.flash run)
    × StepsSucceed (unstopped m)
