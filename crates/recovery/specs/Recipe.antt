-- The recovery after a power cut, call by call: docs/INTEGRATION.md, "After a power cut". Whatever the session, the cut and the window memory
-- found, it is a second run of demand 3, so that the demand never speaks of nothing: `recovers`, in proofs/Recipe.antt.
use Rattle.std.specs.Prelude.{ℕ, suc, ◌+◌, true, cond, List, [], ◌∷◌, ◌++◌, ◌≡◌, eqb, length, replicate}
use Rattle.units.specs.Units.{block_bytes, to_bytes}
use Rattle.buffers.specs.Ranges.{range}
use Rattle.session.specs.declared.Session.{Session}
use Rattle.session.specs.declared.Window.TheVariants.{Write}
use Rattle.session.specs.Machine.{Setup, Machine}
use Rattle.session.specs.Marks.{dirty, erased_mark}
use Rattle.soundness.specs.Soundness.{sound_in}
use Rattle.registers.specs.Registers.{bytes_of}
use Rattle.mailbox.specs.Runs.{Call, send, write}
use Rattle.mailbox.specs.Table as table
use Rattle.recovery.specs.Cut.{FirstCall, cut}
use Rattle.invariants.specs.Worn.{MeetsNone}
use Rattle.recovery.specs.Second.{Way, by_steps, by_flush, SecondRun}

-- the 16 registers of a command: its code, its sequence number, and two 16-bit arguments
abbrev pub command : ℕ → ℕ → ℕ → ℕ → List ℕ
command code sequence first second = code ∷ sequence ∷ (bytes_of 2 first ++ (bytes_of 2 second ++ replicate 10 0))

-- "the host agrees version 2": GET_INFO
abbrev pub get_info : List ℕ
get_info = command (table.get_info).code 0 2 0

-- "opens a write window at the same first block with the same size": CREATE_WRITE_WINDOW, the size as its hint
abbrev pub reopen : Session → List ℕ
reopen s = command (table.create_write_window).code 1 s.first s.size

-- MARK_DIRTY and ERASE of window block b alone; the numbers rise, so that none is the previous one
abbrev pub mark_dirty : ℕ → List ℕ
mark_dirty b = command (table.mark_dirty).code (2 + b) b 1

abbrev pub mark_erased : ℕ → List ℕ
mark_erased b = command (table.erase).code (2 + b) b 1

-- "all 4,096 bytes" of window block b, as they were
unfoldable pub former : List ℕ → ℕ → List ℕ
former memory b = range (to_bytes b) block_bytes memory

-- block b by its mark: the former bytes of a dirty one are written back and it is marked, an erased one is erased, a clean one is left alone
abbrev pub restored : List ℕ → ℕ → ℕ → List Call
restored memory b mark =
    cond (eqb mark dirty) (write (to_bytes b) (former memory b) ∷ send (mark_dirty b) ∷ [])
    (cond (eqb mark erased_mark) (send (mark_erased b) ∷ []) [])

-- the blocks of these marks in turn, the first of which is block b
abbrev pub restored_from : List ℕ → ℕ → List ℕ → List Call
restored_from memory b [] = []
restored_from memory b (mark ∷ marks) = restored memory b mark ++ restored_from memory (suc b) marks

-- the list, from the marks of the session and its window memory
abbrev pub recipe : Session → List ℕ → List Call
recipe s memory = restored_from memory 0 s.marks

-- FLUSH, if the flush is not done by steps; its number comes after those of the 64 blocks
abbrev pub flush_all : List ℕ
flush_all = command (table.flush).code 66 0 0

-- a second run that is this recovery, on a machine that was found with some other window memory and has a map of its own
pub record ByRecipe (setup : Setup) (m : Machine) (flash worn other : List ℕ) (way : Way) : Type 0 where
  pub run : SecondRun setup m flash
  pub worn_is : run.worn ≡ worn
  pub other_is : run.other ≡ other
  pub info_is : run.info ≡ get_info
  pub create_is : run.create ≡ reopen m.session
  pub calls_are : run.calls ≡ recipe m.session m.memory
  pub way_is : run.way ≡ way

-- for every sound session with a write window, every first list, every window memory found after the cut and every map of the same length in which no marked
-- block is worn there is one, by steps and by FLUSH. That there are 64 marks is a hypothesis of this claim alone: every session record of the code has 64, and so has every second run; of
-- marks of another length, which only the definitions can have, demand 3's second half says nothing
abbrev pub Recovers : Type 0
Recovers =
    (setup : Setup) (m : Machine) → sound_in setup m ≡ true → m.session.window ≡ Write → length m.session.marks ≡ 64
    → (list : List FirstCall) (worn other : List ℕ) → length worn ≡ length m.worn → MeetsNone worn m.session → length other ≡ length m.memory
    → ByRecipe setup m (cut m list).machine.flash worn other by_steps
    × ByRecipe setup m (cut m list).machine.flash worn other (by_flush flush_all)
