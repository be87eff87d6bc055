-- The twelve examples of document 01 as data, then those of tickets of document 02, and what it is for one to hold: its calls are made on the
-- definitions, each on what the one before left, and what each leaves passes the checks that the papers' words ask for.
use Rattle.std.specs.Prelude.{Option, None, Some, ℕ, zero, suc, ◌-◌, ◌≡◌, Bool, true, false, cond, ◌&&◌, List, [], ◌∷◌, ◌++◌, eqb, get_or, take, replicate}
use Rattle.units.specs.Units.{block_bytes}
use Rattle.buffers.specs.Ranges.{range, replace}
use Rattle.chip.specs.Actions.{page_bytes}
use Rattle.session.specs.declared.Window.{Window}
use Rattle.session.specs.declared.Window.TheVariants.{Closed, Read, Write}
use Rattle.session.specs.Machine.{Setup, set_up, Machine, lent, holding, wearing}
use Rattle.session.specs.Record.{fresh, with_version, with_access, with_counted}
use Rattle.session.specs.Suspension.{Suspension, suspended, resumed, resumed_changed}
use Rattle.soundness.specs.declared.pending_work.PendingWork.{PendingWork}
use Rattle.soundness.specs.Pending.{pending_in}
use Rattle.flush.specs.Actions.{Action, program, perform}
use Rattle.flush.specs.Window.{Advanced, advanced}
use Rattle.marklist.specs.MarkList.{Listed, list_code, names_pair, place_named, listed_in}
use Rattle.mailbox.specs.Commands.{Outcome}
use Rattle.mailbox.specs.Mediator.{mediate}

-- ---- what an example is

-- what a call is given and leaves, with the answer of the last command, list of marks, step, suspend or resume
pub record State : Type 0 where
  pub machine : Machine
  pub code : ℕ
  pub arguments : List ℕ
  pub actions : ℕ

-- a call makes one state of another
abbrev pub Call : Type 0
Call = State → State

-- a check looks at a state
abbrev pub Check : Type 0
Check = State → Bool

infix 68 ◌shows◌
-- a call, and the checks of what it leaves
pub data Line : Type 0 where
  ◌shows◌ : Call → List Check → Line

-- an example: its calls in order
abbrev pub Example : Type 0
Example = List Line

-- the test holds of every element
abbrev pub every : {A : Type 0} → (A → Bool) → List A → Bool
every test [] = true
every test (x ∷ xs) = test x && every test xs

-- it holds from a state on: all checks of all lines pass, where each call is given what the one before left
abbrev pub passes : State → Example → Bool
passes s [] = true
passes s ((call shows checks) ∷ lines) = let next = call s in every (λ check. check next) checks && passes next lines

-- ---- where the examples start

-- "B = 16"; T = 8, as in the bench program
abbrev pub setup : Setup
setup = set_up (record { lpc = 16; timeout = 8 })

-- for each value a block that is filled with it
abbrev pub blocks : List ℕ → List ℕ
blocks [] = []
blocks (value ∷ values) = replicate block_bytes value ++ blocks values

-- a map of four blocks of which none is worn: "one byte a block, 0 good" (02, Ticket 8)
abbrev pub good : List ℕ
good = 0 ∷ 0 ∷ 0 ∷ 0 ∷ []

-- "S = 4, C = 2", a fresh session; no two blocks are alike, and none is worn
abbrev pub start : State
start =
    record {
      machine = lent fresh (blocks (0xa0 ∷ 0xa1 ∷ 0xa2 ∷ 0xa3 ∷ [])) good (blocks (0xb0 ∷ 0xb1 ∷ []));
      code = 0;
      arguments = [];
      actions = 0;
    }

-- ---- the calls

-- so many numbers, 0 where the list has ended
abbrev pub padded : ℕ → List ℕ → List ℕ
padded n xs = take n (xs ++ replicate n 0)

-- the state that a command leaves
abbrev pub replied : Outcome → State
replied o =
    record {
      machine = o.machine;
      code = get_or o.registers 13 0;
      arguments = range 2 11 o.registers;
      actions = o.actions;
    }

-- a mailbox command, from register 0 on: the code of the command as a host writes it (not from the table of commands, which the examples are to
-- test), the sequence, the arguments; registers that are not given are 0
abbrev pub command : List ℕ → Call
command registers s = replied (mediate setup (padded 16 registers) s.machine)

-- the state that a step leaves; its yes is one action, its no none
abbrev pub stepped : Advanced → State → State
stepped a s =
    record {
      machine = lent s.machine.session a.flash s.machine.worn s.machine.memory;
      code = a.code;
      arguments = [];
      actions = cond a.yes 1 0;
    }

-- the flush advanced by one action, when so many are done
abbrev pub step : ℕ → Call
step done s = stepped (advanced s.machine done) s

-- the state that a list of marks leaves; the place of the pair that it names stands where a command's arguments do
abbrev pub listed_state : Listed → State → State
listed_state l s =
    record {
      machine = holding l.session s.machine;
      code = list_code l.answer;
      arguments = cond (names_pair l.answer) (place_named l.answer ∷ []) [];
      actions = 0;
    }

-- a list of marks in one call (02, Ticket 4)
abbrev pub mark_list : List ℕ → Call
mark_list list s = listed_state (listed_in setup list s.machine) s

-- so many pairs, all alike
abbrev pub pairs : ℕ → ℕ → ℕ → List ℕ
pairs zero block count = []
pairs (suc n) block count = block ∷ count ∷ pairs n block count

-- the state after a call that answers nothing
abbrev pub changed : Machine → State → State
changed m s = record { machine = m; code = s.code; arguments = s.arguments; actions = s.actions }

-- the state that a suspend or resume leaves; its yes is the code 1, its no 0
abbrev pub accessed : Suspension → State → State
accessed a s = record { machine = holding a.session s.machine; code = cond a.done 1 0; arguments = []; actions = 0 }

-- flash access is suspended, resumed, and resumed "with changed flash"
abbrev pub suspend : Call
suspend s = accessed (suspended s.machine.session) s

abbrev pub resume : Call
resume s = accessed (resumed s.machine.session) s

abbrev pub resume_changed : Call
resume_changed s = accessed (resumed_changed s.machine.session) s

-- another suspension and event byte are found in the record
abbrev pub access : Bool → ℕ → Call
access is_suspended byte s = changed (holding (with_access is_suspended byte s.machine.session) s.machine) s

-- other numbers of dirty and of erased blocks, or another version, are found there
abbrev pub numbers_found : ℕ → ℕ → Call
numbers_found dirty erased s =
    changed (holding (with_counted s.machine.session.marks (record { dirty = dirty; erased = erased }) s.machine.session) s.machine) s

abbrev pub version_found : ℕ → Call
version_found n s = changed (holding (with_version n s.machine.session) s.machine) s

-- another flash and window memory are lent
abbrev pub lend : List ℕ → List ℕ → Call
lend flash memory s = changed (lent s.machine.session flash s.machine.worn memory) s

-- another map of worn blocks is lent, of whatever length
abbrev pub wear : List ℕ → Call
wear worn s = changed (wearing worn s.machine) s

-- the host writes these bytes to the front of window memory
abbrev pub write : List ℕ → Call
write bytes s = lend s.machine.flash (replace 0 bytes s.machine.memory) s

-- a chip action by itself
abbrev pub act : Action → Call
act action s = lend (perform s.machine.memory action s.machine.flash) s.machine.memory s

-- ---- the checks

-- two lists of numbers are equal
abbrev pub same : List ℕ → List ℕ → Bool
same [] [] = true
same [] (y ∷ ys) = false
same (x ∷ xs) [] = false
same (x ∷ xs) (y ∷ ys) = eqb x y && same xs ys

-- the response of a command (register 13), the code of a list of marks or a step, or the yes or no of a suspend or resume
abbrev pub code : ℕ → Check
code n s = eqb s.code n

-- "2 to 12 hold the response's arguments and otherwise zero"
abbrev pub arguments : List ℕ → Check
arguments expected s = same s.arguments (padded 11 expected)

-- "A refusal has zero arguments"
abbrev pub refused : ℕ → Check
refused n s = code n s && arguments [] s

-- the code of a list of marks that names no pair, and that of one that names this pair
abbrev pub unnamed : ℕ → Check
unnamed n s = code n s && same s.arguments []

abbrev pub named : ℕ → Check
named place s = code 2 s && same s.arguments (place ∷ [])

-- the number of chip actions
abbrev pub actions : ℕ → Check
actions n s = eqb s.actions n

-- the agreed version
abbrev pub version : ℕ → Check
version n s = eqb s.machine.session.version n

-- a number for each kind of window
abbrev pub kind : Window → ℕ
kind Closed = 0
kind Read = 1
kind Write = 2

-- "the window (none, read or write, first flash block, size)"
abbrev pub window : Window → ℕ → ℕ → Check
window expected first size s =
    eqb (kind s.machine.session.window) (kind expected) && (eqb s.machine.session.first first && eqb s.machine.session.size size)

-- the event byte
abbrev pub events : ℕ → Check
events n s = eqb s.machine.session.events n

-- the 64 marks: these, and 0 behind them
abbrev pub marks : List ℕ → Check
marks expected s = same s.machine.session.marks (padded 64 expected)

-- the question is answered: so many marked blocks, and so many chip actions, or "unsound"
abbrev pub tells : ℕ → ℕ → Option PendingWork → Bool
tells blocks actions None = false
tells blocks actions (Some work) = eqb work.blocks blocks && eqb work.actions actions

abbrev pub pending : ℕ → ℕ → Check
pending blocks actions s = tells blocks actions (pending_in s.machine.session)

abbrev pub is_unsound : Option PendingWork → Bool
is_unsound None = true
is_unsound (Some work) = false

abbrev pub unsound : Check
unsound s = is_unsound (pending_in s.machine.session)

-- every byte of the flash
abbrev pub flash : List ℕ → Check
flash expected s = same s.machine.flash expected

-- every byte of the window memory
abbrev pub memory : List ℕ → Check
memory expected s = same s.machine.memory expected

-- every byte of the map of worn blocks
abbrev pub map : List ℕ → Check
map expected s = same s.machine.worn expected

-- ---- the twelve: "S = 4, C = 2, B = 16, version 2 unless said"

-- "1. GET_INFO r = 0 refused; 1 gives 1; 255 gives 2."
abbrev pub example1 : Example
example1 =
    command (2 ∷ 1 ∷ 0 ∷ []) shows (refused 2 ∷ version 0 ∷ [])
    ∷ command (2 ∷ 2 ∷ 2 ∷ []) shows (code 1 ∷ version 2 ∷ [])
    ∷ command (2 ∷ 3 ∷ 0 ∷ []) shows (refused 2 ∷ version 2 ∷ [])
    ∷ command (2 ∷ 4 ∷ 1 ∷ []) shows (code 1 ∷ arguments (1 ∷ 2 ∷ 0 ∷ 2 ∷ 0 ∷ []) ∷ version 1 ∷ [])
    ∷ command (2 ∷ 5 ∷ 255 ∷ []) shows (code 1 ∷ arguments (2 ∷ 0 ∷ 0 ∷ 0 ∷ 0 ∷ 12 ∷ 8 ∷ 0 ∷ []) ∷ version 2 ∷ [])
    ∷ []

-- "2. Create at 3: size 1. At 4: refused, no window.": of both kinds
abbrev pub example2 : Example
example2 =
    command (2 ∷ 1 ∷ 2 ∷ []) shows (version 2 ∷ [])
    ∷ command (4 ∷ 2 ∷ 3 ∷ 0 ∷ []) shows (code 1 ∷ arguments (16 ∷ 0 ∷ 1 ∷ 0 ∷ 3 ∷ 0 ∷ []) ∷ window Read 3 1 ∷ [])
    ∷ command (4 ∷ 3 ∷ 4 ∷ 0 ∷ []) shows (refused 2 ∷ window Closed 0 0 ∷ memory (blocks (0xa3 ∷ 0xb1 ∷ [])) ∷ [])
    ∷ command (6 ∷ 4 ∷ 3 ∷ 0 ∷ []) shows (code 1 ∷ arguments (16 ∷ 0 ∷ 1 ∷ 0 ∷ 3 ∷ 0 ∷ []) ∷ window Write 3 1 ∷ [])
    ∷ command (6 ∷ 5 ∷ 4 ∷ 0 ∷ []) shows (refused 2 ∷ window Closed 0 0 ∷ memory (blocks (0xa3 ∷ 0xb1 ∷ [])) ∷ [])
    ∷ []

-- "3. Create at 0: n = 0 gives 2, n = 1 gives 1, n = 65,535 gives 2.": of both kinds
abbrev pub example3 : Example
example3 =
    command (2 ∷ 1 ∷ 2 ∷ []) shows (version 2 ∷ [])
    ∷ command (4 ∷ 2 ∷ 0 ∷ 0 ∷ 0 ∷ 0 ∷ []) shows (code 1 ∷ arguments (16 ∷ 0 ∷ 2 ∷ 0 ∷ 0 ∷ 0 ∷ []) ∷ window Read 0 2 ∷ [])
    ∷ command (4 ∷ 3 ∷ 0 ∷ 0 ∷ 1 ∷ 0 ∷ []) shows (code 1 ∷ arguments (16 ∷ 0 ∷ 1 ∷ 0 ∷ 0 ∷ 0 ∷ []) ∷ window Read 0 1 ∷ [])
    ∷ command (4 ∷ 4 ∷ 0 ∷ 0 ∷ 255 ∷ 255 ∷ []) shows (code 1 ∷ arguments (16 ∷ 0 ∷ 2 ∷ 0 ∷ 0 ∷ 0 ∷ []) ∷ window Read 0 2 ∷ [])
    ∷ command (6 ∷ 5 ∷ 0 ∷ 0 ∷ 0 ∷ 0 ∷ []) shows (code 1 ∷ arguments (16 ∷ 0 ∷ 2 ∷ 0 ∷ 0 ∷ 0 ∷ []) ∷ window Write 0 2 ∷ [])
    ∷ command (6 ∷ 6 ∷ 0 ∷ 0 ∷ 1 ∷ 0 ∷ []) shows (code 1 ∷ arguments (16 ∷ 0 ∷ 1 ∷ 0 ∷ 0 ∷ 0 ∷ []) ∷ window Write 0 1 ∷ [])
    ∷ command (6 ∷ 7 ∷ 0 ∷ 0 ∷ 255 ∷ 255 ∷ []) shows (code 1 ∷ arguments (16 ∷ 0 ∷ 2 ∷ 0 ∷ 0 ∷ 0 ∷ []) ∷ window Write 0 2 ∷ [])
    ∷ []

-- "4. Write window, size 2: w = 65,535, k = 2: PARAM_ERROR.": by MARK_DIRTY and by ERASE
abbrev pub example4 : Example
example4 =
    command (2 ∷ 1 ∷ 2 ∷ []) shows (version 2 ∷ [])
    ∷ command (6 ∷ 2 ∷ 0 ∷ 0 ∷ []) shows (window Write 0 2 ∷ [])
    ∷ command (7 ∷ 3 ∷ 255 ∷ 255 ∷ 2 ∷ 0 ∷ []) shows (refused 2 ∷ marks [] ∷ [])
    ∷ command (10 ∷ 4 ∷ 255 ∷ 255 ∷ 2 ∷ 0 ∷ []) shows (refused 2 ∷ marks [] ∷ memory (blocks (0xa0 ∷ 0xa1 ∷ [])) ∷ [])
    ∷ []

-- "5. There: w = 2, k = 0 succeeds; w = 3, k = 0 refused.": by MARK_DIRTY and by ERASE
abbrev pub example5 : Example
example5 =
    command (2 ∷ 1 ∷ 2 ∷ []) shows (version 2 ∷ [])
    ∷ command (6 ∷ 2 ∷ 0 ∷ 0 ∷ []) shows (window Write 0 2 ∷ [])
    ∷ command (7 ∷ 3 ∷ 2 ∷ 0 ∷ 0 ∷ 0 ∷ []) shows (code 1 ∷ arguments [] ∷ marks [] ∷ [])
    ∷ command (7 ∷ 4 ∷ 3 ∷ 0 ∷ 0 ∷ 0 ∷ []) shows (refused 2 ∷ marks [] ∷ [])
    ∷ command (10 ∷ 5 ∷ 2 ∷ 0 ∷ 0 ∷ 0 ∷ []) shows (code 1 ∷ arguments [] ∷ marks [] ∷ memory (blocks (0xa0 ∷ 0xa1 ∷ [])) ∷ [])
    ∷ command (10 ∷ 6 ∷ 3 ∷ 0 ∷ 0 ∷ 0 ∷ []) shows (refused 2 ∷ marks [] ∷ memory (blocks (0xa0 ∷ 0xa1 ∷ [])) ∷ [])
    ∷ []

-- "6. Version 1, window 1 to 2, a = 1: L = 4,096 marks one block, 4,097 two, 8,193 refused. a = 0, L = 1 refused."; 4,096 is 0x1000 and
-- 8,193 is 0x2001, and the second create leaves no mark of the first window
abbrev pub example6 : Example
example6 =
    command (2 ∷ 1 ∷ 1 ∷ []) shows (version 1 ∷ [])
    ∷ command (6 ∷ 2 ∷ 1 ∷ 0 ∷ []) shows (code 1 ∷ arguments (16 ∷ 0 ∷ []) ∷ window Write 1 2 ∷ marks [] ∷ [])
    ∷ command (7 ∷ 3 ∷ 1 ∷ 0 ∷ 0x00 ∷ 0x10 ∷ 0 ∷ 0 ∷ []) shows (code 1 ∷ arguments [] ∷ marks (1 ∷ []) ∷ [])
    ∷ command (6 ∷ 4 ∷ 1 ∷ 0 ∷ []) shows (code 1 ∷ actions 17 ∷ window Write 1 2 ∷ marks [] ∷ [])
    ∷ command (7 ∷ 5 ∷ 1 ∷ 0 ∷ 0x01 ∷ 0x20 ∷ 0 ∷ 0 ∷ []) shows (refused 2 ∷ marks [] ∷ [])
    ∷ command (7 ∷ 6 ∷ 0 ∷ 0 ∷ 0x01 ∷ 0x00 ∷ 0 ∷ 0 ∷ []) shows (refused 2 ∷ marks [] ∷ [])
    ∷ command (7 ∷ 7 ∷ 1 ∷ 0 ∷ 0x01 ∷ 0x10 ∷ 0 ∷ 0 ∷ []) shows (code 1 ∷ arguments [] ∷ marks (1 ∷ 1 ∷ []) ∷ [])
    ∷ []

-- "7. MARK_DIRTY in a read window: 7; at version 1: 2.": of a block that the window has
abbrev pub example7 : Example
example7 =
    command (2 ∷ 1 ∷ 2 ∷ []) shows (version 2 ∷ [])
    ∷ command (4 ∷ 2 ∷ 0 ∷ 0 ∷ []) shows (window Read 0 2 ∷ [])
    ∷ command (7 ∷ 3 ∷ 0 ∷ 0 ∷ 1 ∷ 0 ∷ []) shows (refused 7 ∷ marks [] ∷ [])
    ∷ command (2 ∷ 4 ∷ 1 ∷ []) shows (version 1 ∷ window Read 0 2 ∷ [])
    ∷ command (7 ∷ 5 ∷ 0 ∷ 0 ∷ 0x00 ∷ 0x10 ∷ 0 ∷ 0 ∷ []) shows (refused 2 ∷ marks [] ∷ [])
    ∷ []

-- "8. Erase then dirty: 17 actions. Dirty then erase: 1.": flash block 1, the first of a window of two. The host writes the whole window each
-- time; block 2 has no mark and stays, and the erased block is FF all the same
abbrev pub example8 : Example
example8 =
    command (2 ∷ 1 ∷ 2 ∷ []) shows (version 2 ∷ [])
    ∷ command (6 ∷ 2 ∷ 1 ∷ 0 ∷ []) shows (window Write 1 2 ∷ memory (blocks (0xa1 ∷ 0xa2 ∷ [])) ∷ [])
    ∷ command (10 ∷ 3 ∷ 0 ∷ 0 ∷ 1 ∷ 0 ∷ []) shows (code 1 ∷ marks (2 ∷ []) ∷ memory (blocks (0xff ∷ 0xa2 ∷ [])) ∷ [])
    ∷ write (blocks (0x3c ∷ 0x3c ∷ [])) shows []
    ∷ command (7 ∷ 4 ∷ 0 ∷ 0 ∷ 1 ∷ 0 ∷ []) shows (code 1 ∷ marks (1 ∷ []) ∷ [])
    ∷ command (8 ∷ 5 ∷ []) shows (code 1 ∷ actions 17 ∷ marks [] ∷ flash (blocks (0xa0 ∷ 0x3c ∷ 0xa2 ∷ 0xa3 ∷ [])) ∷ [])
    ∷ command (7 ∷ 6 ∷ 0 ∷ 0 ∷ 1 ∷ 0 ∷ []) shows (code 1 ∷ marks (1 ∷ []) ∷ [])
    ∷ command (10 ∷ 7 ∷ 0 ∷ 0 ∷ 1 ∷ 0 ∷ []) shows (code 1 ∷ marks (2 ∷ []) ∷ memory (blocks (0xff ∷ 0x3c ∷ [])) ∷ [])
    ∷ write (blocks (0x5a ∷ 0x5a ∷ [])) shows []
    ∷ command (8 ∷ 8 ∷ []) shows (code 1 ∷ actions 1 ∷ marks [] ∷ flash (blocks (0xa0 ∷ 0xff ∷ 0xa2 ∷ 0xa3 ∷ [])) ∷ [])
    ∷ []

-- so many steps in a row that each do an action
abbrev pub steps : ℕ → ℕ → List Line
steps done zero = []
steps done (suc n) = step done shows (code 1 ∷ actions 1 ∷ []) ∷ steps (suc done) n

-- a block whose first page is filled with one value, and the rest with another
abbrev pub paged : ℕ → ℕ → List ℕ
paged first rest = replicate page_bytes first ++ replicate (block_bytes - page_bytes) rest

-- the flash of the start, but for the bytes of block 1
abbrev pub with_block1 : List ℕ → List ℕ
with_block1 bytes = blocks (0xa0 ∷ []) ++ (bytes ++ blocks (0xa2 ∷ 0xa3 ∷ []))

-- "9. One dirty block after 0, 1, 2, 17 actions: old; all FF; first page new, the rest FF; all new.": flash block 1, in a window of its own.
-- The new bytes of the first page are not those of the rest, and an 18th step finds nothing to do
abbrev pub example9 : Example
example9 =
    command (2 ∷ 1 ∷ 2 ∷ []) shows (version 2 ∷ [])
    ∷ command (6 ∷ 2 ∷ 1 ∷ 0 ∷ 1 ∷ 0 ∷ []) shows (window Write 1 1 ∷ [])
    ∷ write (paged 0x11 0x3c) shows []
    ∷ command (7 ∷ 3 ∷ 0 ∷ 0 ∷ 1 ∷ 0 ∷ []) shows (marks (1 ∷ []) ∷ flash start.machine.flash ∷ [])
    ∷ step 0 shows (code 1 ∷ actions 1 ∷ flash (with_block1 (paged 0xff 0xff)) ∷ [])
    ∷ step 1 shows (code 1 ∷ actions 1 ∷ flash (with_block1 (paged 0x11 0xff)) ∷ [])
    ∷ (steps 2 14
    ++ (step 16 shows (code 1 ∷ actions 1 ∷ flash (with_block1 (paged 0x11 0x3c)) ∷ [])
    ∷ step 17 shows (code 1 ∷ actions 0 ∷ marks (1 ∷ []) ∷ flash (with_block1 (paged 0x11 0x3c)) ∷ [])
    ∷ []))

-- "10. Suspended FLUSH: 6; at version 1: 5."; the mark and the flash stay
abbrev pub example10 : Example
example10 =
    command (2 ∷ 1 ∷ 2 ∷ []) shows (version 2 ∷ [])
    ∷ command (6 ∷ 2 ∷ 1 ∷ 0 ∷ []) shows (window Write 1 2 ∷ [])
    ∷ write (blocks (0x3c ∷ 0x3c ∷ [])) shows []
    ∷ command (7 ∷ 3 ∷ 0 ∷ 0 ∷ 1 ∷ 0 ∷ []) shows (marks (1 ∷ []) ∷ [])
    ∷ suspend shows []
    ∷ command (8 ∷ 4 ∷ []) shows (refused 6 ∷ actions 0 ∷ marks (1 ∷ []) ∷ flash start.machine.flash ∷ [])
    ∷ command (2 ∷ 5 ∷ 1 ∷ []) shows (version 1 ∷ [])
    ∷ command (8 ∷ 6 ∷ []) shows (refused 5 ∷ actions 0 ∷ marks (1 ∷ []) ∷ flash start.machine.flash ∷ [])
    ∷ []

-- "11. Repeated sequence: 8; at version 1: 2; GET_INFO served.": the command that repeats is a create, which another number gets through
abbrev pub example11 : Example
example11 =
    command (2 ∷ 1 ∷ 2 ∷ []) shows (version 2 ∷ [])
    ∷ command (6 ∷ 1 ∷ 0 ∷ 0 ∷ []) shows (refused 8 ∷ window Closed 0 0 ∷ [])
    ∷ command (2 ∷ 1 ∷ 1 ∷ []) shows (code 1 ∷ arguments (1 ∷ 2 ∷ 0 ∷ 2 ∷ 0 ∷ []) ∷ version 1 ∷ [])
    ∷ command (6 ∷ 1 ∷ 0 ∷ 0 ∷ []) shows (refused 2 ∷ window Closed 0 0 ∷ [])
    ∷ command (2 ∷ 1 ∷ 2 ∷ []) shows (code 1 ∷ arguments (2 ∷ 0 ∷ 0 ∷ 0 ∷ 0 ∷ 12 ∷ 8 ∷ 0 ∷ []) ∷ version 2 ∷ [])
    ∷ command (6 ∷ 2 ∷ 0 ∷ 0 ∷ []) shows (code 1 ∷ window Write 0 2 ∷ [])
    ∷ []

-- "12. Page byte 0F over F0 gives 00; F0 over FF gives F0.": the first page of block 0, and that of block 1
abbrev pub example12 : Example
example12 =
    lend (blocks (0xf0 ∷ 0xff ∷ 0xff ∷ 0xff ∷ [])) (blocks (0x0f ∷ 0xf0 ∷ [])) shows []
    ∷ act (program 0 0) shows (flash (paged 0x00 0xf0 ++ blocks (0xff ∷ 0xff ∷ 0xff ∷ [])) ∷ [])
    ∷ act (program 1 0) shows (flash (paged 0x00 0xf0 ++ (paged 0xf0 0xff ++ blocks (0xff ∷ 0xff ∷ []))) ∷ [])
    ∷ []

-- ---- what the change requests add

-- Ticket 5, the commands beside the published table: the codes that the twelve leave out. Version 0 knows 1, 2 and 9, and answers 2 to a number again and 5
-- while suspended; version 1 has the flash of 0x4000 bytes and its granule of 0x1000, and not 10; RESET drops a marked window without a flush, CLOSE_WINDOW
-- flushes it; while suspended RESET is refused, and ACK is served and may not repeat its number
abbrev pub example13 : Example
example13 =
    command (3 ∷ 1 ∷ []) shows (refused 2 ∷ [])
    ∷ command (10 ∷ 2 ∷ []) shows (refused 2 ∷ [])
    ∷ command (1 ∷ 3 ∷ []) shows (code 1 ∷ arguments [] ∷ events 0x81 ∷ [])
    ∷ command (1 ∷ 3 ∷ []) shows (refused 2 ∷ [])
    ∷ suspend shows []
    ∷ command (1 ∷ 21 ∷ []) shows (refused 5 ∷ [])
    ∷ resume shows []
    ∷ command (9 ∷ 4 ∷ 0x01 ∷ []) shows (code 1 ∷ arguments [] ∷ events 0x80 ∷ [])
    ∷ command (2 ∷ 5 ∷ 1 ∷ []) shows (version 1 ∷ [])
    ∷ command (3 ∷ 6 ∷ []) shows (code 1 ∷ arguments (0x00 ∷ 0x40 ∷ 0 ∷ 0 ∷ 0x00 ∷ 0x10 ∷ 0 ∷ 0 ∷ []) ∷ [])
    ∷ command (10 ∷ 7 ∷ []) shows (refused 2 ∷ [])
    ∷ command (2 ∷ 8 ∷ 2 ∷ []) shows (version 2 ∷ [])
    ∷ command (3 ∷ 9 ∷ []) shows (code 1 ∷ arguments (4 ∷ 0 ∷ 1 ∷ 0 ∷ []) ∷ [])
    ∷ command (6 ∷ 10 ∷ 1 ∷ 0 ∷ []) shows (window Write 1 2 ∷ [])
    ∷ command (10 ∷ 11 ∷ 1 ∷ 0 ∷ 1 ∷ 0 ∷ []) shows (code 1 ∷ marks (0 ∷ 2 ∷ []) ∷ [])
    ∷ command (0 ∷ 12 ∷ []) shows (refused 2 ∷ window Write 1 2 ∷ marks (0 ∷ 2 ∷ []) ∷ [])
    ∷ command (11 ∷ 13 ∷ []) shows (refused 2 ∷ window Write 1 2 ∷ marks (0 ∷ 2 ∷ []) ∷ [])
    ∷ command (255 ∷ 14 ∷ []) shows (refused 2 ∷ window Write 1 2 ∷ marks (0 ∷ 2 ∷ []) ∷ [])
    ∷ command (1 ∷ 15 ∷ []) shows (code 1 ∷ arguments [] ∷ actions 0 ∷ window Closed 0 0 ∷ marks [] ∷ flash (blocks (0xa0 ∷ 0xa1 ∷ 0xa2 ∷ 0xa3 ∷ [])) ∷ [])
    ∷ command (6 ∷ 16 ∷ 1 ∷ 0 ∷ []) shows (window Write 1 2 ∷ [])
    ∷ command (10 ∷ 17 ∷ 1 ∷ 0 ∷ 1 ∷ 0 ∷ []) shows (code 1 ∷ marks (0 ∷ 2 ∷ []) ∷ [])
    ∷ command (5 ∷ 18 ∷ []) shows (code 1 ∷ arguments [] ∷ actions 1 ∷ window Closed 0 0 ∷ marks [] ∷ flash (blocks (0xa0 ∷ 0xa1 ∷ 0xff ∷ 0xa3 ∷ [])) ∷ [])
    ∷ suspend shows []
    ∷ command (1 ∷ 19 ∷ []) shows (refused 6 ∷ [])
    ∷ command (9 ∷ 20 ∷ 0x00 ∷ []) shows (code 1 ∷ events 0xc0 ∷ [])
    ∷ command (9 ∷ 20 ∷ 0x00 ∷ []) shows (refused 8 ∷ [])
    ∷ []

-- Ticket 1, "event byte 83, ACK FF, leaves 80": of the two events those that are named, at every version, and while suspended; of all other bits none.
-- "Bit 0x40 disagreeing with the suspension is SYSTEM_ERROR, first as before", also where the number repeats, for GET_INFO and for a step; the record stays
-- as it is, and its previous number too. Suspend and resume go by the suspension, as before
abbrev pub example14 : Example
example14 =
    suspend shows (code 1 ∷ events 0xc1 ∷ [])
    ∷ resume_changed shows (code 1 ∷ events 0x83 ∷ [])
    ∷ command (9 ∷ 1 ∷ 0xff ∷ []) shows (code 1 ∷ arguments [] ∷ events 0x80 ∷ [])
    ∷ command (2 ∷ 2 ∷ 1 ∷ []) shows (version 1 ∷ [])
    ∷ access false 0xbf shows []
    ∷ command (9 ∷ 3 ∷ 0xfd ∷ []) shows (code 1 ∷ events 0xbe ∷ [])
    ∷ command (2 ∷ 4 ∷ 2 ∷ []) shows (version 2 ∷ [])
    ∷ command (9 ∷ 5 ∷ 0xfe ∷ []) shows (code 1 ∷ events 0xbc ∷ [])
    ∷ access true 0xff shows []
    ∷ command (9 ∷ 6 ∷ 0xff ∷ []) shows (code 1 ∷ events 0xfc ∷ [])
    ∷ step 0 shows (code 6 ∷ actions 0 ∷ [])
    ∷ resume shows (code 1 ∷ events 0xbc ∷ [])
    ∷ resume shows (code 0 ∷ events 0xbc ∷ [])
    ∷ access true 0x81 shows []
    ∷ command (9 ∷ 6 ∷ 0xff ∷ []) shows (refused 4 ∷ events 0x81 ∷ [])
    ∷ command (2 ∷ 7 ∷ 1 ∷ []) shows (refused 4 ∷ events 0x81 ∷ version 2 ∷ [])
    ∷ step 0 shows (code 4 ∷ actions 0 ∷ [])
    ∷ suspend shows (code 0 ∷ events 0x81 ∷ [])
    ∷ resume shows (code 1 ∷ events 0x81 ∷ [])
    ∷ step 0 shows (code 1 ∷ actions 0 ∷ [])
    ∷ access false 0xc1 shows []
    ∷ command (9 ∷ 6 ∷ 0xff ∷ []) shows (refused 4 ∷ events 0xc1 ∷ [])
    ∷ command (2 ∷ 7 ∷ 1 ∷ []) shows (refused 4 ∷ events 0xc1 ∷ version 2 ∷ [])
    ∷ step 0 shows (code 4 ∷ actions 0 ∷ [])
    ∷ resume shows (code 0 ∷ events 0xc1 ∷ [])
    ∷ resume_changed shows (code 0 ∷ events 0xc1 ∷ [])
    ∷ suspend shows (code 1 ∷ events 0xc1 ∷ [])
    ∷ step 0 shows (code 6 ∷ actions 0 ∷ [])
    ∷ command (9 ∷ 6 ∷ 0xff ∷ []) shows (refused 8 ∷ events 0xc1 ∷ [])
    ∷ []

-- Ticket 7, "From version 2 on only the flag values 0 and 1 are now allowed": a close that is refused for its flags keeps a window of either kind, its mark,
-- window memory and flash, and its number is the previous one; it is refused without a window too, and after the checks of the number and of the
-- suspension. 0 and 1 close. At version 1 a 2 closes
abbrev pub example15 : Example
example15 =
    command (2 ∷ 1 ∷ 2 ∷ []) shows (version 2 ∷ [])
    ∷ command (5 ∷ 2 ∷ 2 ∷ []) shows (refused 2 ∷ actions 0 ∷ window Closed 0 0 ∷ [])
    ∷ command (5 ∷ 2 ∷ 1 ∷ []) shows (refused 8 ∷ [])
    ∷ command (5 ∷ 3 ∷ 1 ∷ []) shows (code 1 ∷ arguments [] ∷ actions 0 ∷ window Closed 0 0 ∷ [])
    ∷ command (4 ∷ 4 ∷ 2 ∷ 0 ∷ []) shows (window Read 2 2 ∷ [])
    ∷ command (5 ∷ 5 ∷ 3 ∷ []) shows (refused 2 ∷ actions 0 ∷ window Read 2 2 ∷ memory (blocks (0xa2 ∷ 0xa3 ∷ [])) ∷ flash start.machine.flash ∷ [])
    ∷ command (5 ∷ 6 ∷ 0 ∷ []) shows (code 1 ∷ arguments [] ∷ actions 0 ∷ window Closed 0 0 ∷ [])
    ∷ command (6 ∷ 7 ∷ 1 ∷ 0 ∷ []) shows (window Write 1 2 ∷ [])
    ∷ write (blocks (0x3c ∷ 0x3c ∷ [])) shows []
    ∷ command (7 ∷ 8 ∷ 1 ∷ 0 ∷ 1 ∷ 0 ∷ []) shows (marks (0 ∷ 1 ∷ []) ∷ [])
    ∷ command (5 ∷ 9 ∷ 2 ∷ []) shows (refused 2 ∷ actions 0 ∷ window Write 1 2 ∷ marks (0 ∷ 1 ∷ []) ∷ memory (blocks (0x3c ∷ 0x3c ∷ [])) ∷ flash start.machine.flash ∷ [])
    ∷ command (5 ∷ 10 ∷ 255 ∷ []) shows (refused 2 ∷ actions 0 ∷ window Write 1 2 ∷ marks (0 ∷ 1 ∷ []) ∷ memory (blocks (0x3c ∷ 0x3c ∷ [])) ∷ flash start.machine.flash ∷ [])
    ∷ suspend shows []
    ∷ command (5 ∷ 11 ∷ 2 ∷ []) shows (refused 6 ∷ [])
    ∷ command (5 ∷ 11 ∷ 2 ∷ []) shows (refused 8 ∷ [])
    ∷ resume shows []
    ∷ command (5 ∷ 12 ∷ 1 ∷ []) shows (code 1 ∷ arguments [] ∷ actions 17 ∷ window Closed 0 0 ∷ marks [] ∷ memory (blocks (0x3c ∷ 0x3c ∷ [])) ∷ flash (blocks (0xa0 ∷ 0xa1 ∷ 0x3c ∷ 0xa3 ∷ [])) ∷ [])
    ∷ command (2 ∷ 13 ∷ 1 ∷ []) shows (version 1 ∷ [])
    ∷ command (6 ∷ 14 ∷ 0 ∷ 0 ∷ []) shows (window Write 0 2 ∷ [])
    ∷ write (blocks (0x5a ∷ 0x5a ∷ [])) shows []
    ∷ command (7 ∷ 15 ∷ 0 ∷ 0 ∷ 1 ∷ 0 ∷ []) shows (marks (1 ∷ []) ∷ [])
    ∷ command (5 ∷ 16 ∷ 2 ∷ []) shows (code 1 ∷ arguments [] ∷ actions 17 ∷ window Closed 0 0 ∷ marks [] ∷ memory (blocks (0x5a ∷ 0x5a ∷ [])) ∷ flash (blocks (0x5a ∷ 0xa1 ∷ 0x3c ∷ 0xa3 ∷ [])) ∷ [])
    ∷ []

-- Ticket 2, "how many window blocks are marked and how many chip actions a flush would take": 17 for a dirty block and 1 for an erased one, the latest mark of
-- a block alone; a refused mark, a step and a suspend leave them. Numbers that disagree with the marks, also where their sum is right, are SYSTEM_ERROR,
-- first, and 4 to a step; the question says "unsound" exactly then: not where the version is unsound. They are 0 where the marks are dropped, on that record
-- too. What is pending is the number that a close or a FLUSH carries, without the marks that a FLUSH of version 1 adds
abbrev pub example16 : Example
example16 =
    command (2 ∷ 1 ∷ 2 ∷ []) shows (pending 0 0 ∷ [])
    ∷ command (6 ∷ 2 ∷ 1 ∷ 0 ∷ []) shows (window Write 1 2 ∷ pending 0 0 ∷ [])
    ∷ command (10 ∷ 3 ∷ 0 ∷ 0 ∷ 2 ∷ 0 ∷ []) shows (marks (2 ∷ 2 ∷ []) ∷ pending 2 2 ∷ [])
    ∷ command (7 ∷ 4 ∷ 1 ∷ 0 ∷ 1 ∷ 0 ∷ []) shows (marks (2 ∷ 1 ∷ []) ∷ pending 2 18 ∷ [])
    ∷ command (7 ∷ 5 ∷ 1 ∷ 0 ∷ 1 ∷ 0 ∷ []) shows (marks (2 ∷ 1 ∷ []) ∷ pending 2 18 ∷ [])
    ∷ command (7 ∷ 6 ∷ 0 ∷ 0 ∷ 2 ∷ 0 ∷ []) shows (marks (1 ∷ 1 ∷ []) ∷ pending 2 34 ∷ [])
    ∷ command (7 ∷ 7 ∷ 1 ∷ 0 ∷ 2 ∷ 0 ∷ []) shows (refused 2 ∷ pending 2 34 ∷ [])
    ∷ command (10 ∷ 8 ∷ 0 ∷ 0 ∷ 1 ∷ 0 ∷ []) shows (marks (2 ∷ 1 ∷ []) ∷ pending 2 18 ∷ [])
    ∷ step 0 shows (code 1 ∷ actions 1 ∷ pending 2 18 ∷ [])
    ∷ suspend shows (code 1 ∷ pending 2 18 ∷ [])
    ∷ command (8 ∷ 9 ∷ []) shows (refused 6 ∷ pending 2 18 ∷ [])
    ∷ resume shows (code 1 ∷ pending 2 18 ∷ [])
    ∷ numbers_found 2 0 shows (unsound ∷ [])
    ∷ command (8 ∷ 9 ∷ []) shows (refused 4 ∷ actions 0 ∷ unsound ∷ marks (2 ∷ 1 ∷ []) ∷ [])
    ∷ command (2 ∷ 10 ∷ 1 ∷ []) shows (refused 4 ∷ version 2 ∷ unsound ∷ [])
    ∷ step 0 shows (code 4 ∷ actions 0 ∷ [])
    ∷ numbers_found 1 2 shows (unsound ∷ [])
    ∷ command (8 ∷ 10 ∷ []) shows (refused 4 ∷ [])
    ∷ numbers_found 1 1 shows (pending 2 18 ∷ [])
    ∷ version_found 7 shows (pending 2 18 ∷ [])
    ∷ command (8 ∷ 10 ∷ []) shows (refused 4 ∷ pending 2 18 ∷ [])
    ∷ version_found 2 shows []
    ∷ command (6 ∷ 10 ∷ 4 ∷ 0 ∷ []) shows (refused 2 ∷ actions 18 ∷ window Closed 0 0 ∷ marks [] ∷ pending 0 0 ∷ [])
    ∷ numbers_found 0 9 shows (unsound ∷ [])
    ∷ suspend shows (code 1 ∷ unsound ∷ [])
    ∷ resume_changed shows (code 1 ∷ marks [] ∷ pending 0 0 ∷ [])
    ∷ command (6 ∷ 11 ∷ 1 ∷ 0 ∷ []) shows (window Write 1 2 ∷ [])
    ∷ command (10 ∷ 12 ∷ 0 ∷ 0 ∷ 2 ∷ 0 ∷ []) shows (pending 2 2 ∷ [])
    ∷ command (8 ∷ 13 ∷ []) shows (code 1 ∷ actions 2 ∷ window Write 1 2 ∷ pending 0 0 ∷ [])
    ∷ command (10 ∷ 14 ∷ 1 ∷ 0 ∷ 1 ∷ 0 ∷ []) shows (pending 1 1 ∷ [])
    ∷ command (5 ∷ 15 ∷ []) shows (code 1 ∷ actions 1 ∷ window Closed 0 0 ∷ pending 0 0 ∷ [])
    ∷ command (2 ∷ 16 ∷ 1 ∷ []) shows (version 1 ∷ [])
    ∷ command (6 ∷ 17 ∷ 1 ∷ 0 ∷ []) shows (window Write 1 2 ∷ [])
    ∷ command (7 ∷ 18 ∷ 2 ∷ 0 ∷ 1 ∷ 0 ∷ []) shows (marks (0 ∷ 1 ∷ []) ∷ pending 1 17 ∷ [])
    ∷ command (8 ∷ 19 ∷ 1 ∷ 0 ∷ 1 ∷ 0 ∷ []) shows (code 1 ∷ actions 34 ∷ marks [] ∷ pending 0 0 ∷ [])
    ∷ []

-- Ticket 4, a list of marks: "Refusals: SYSTEM_ERROR, version not 2, suspended, no write window, odd length or more than 64 pairs, first bad pair, in that
-- order, with codes 4, 2, 6, 7, 2, 2"; "nothing is marked" then, and the first of two bad pairs is named, also after good ones. The empty list is refused for the
-- session, and else it is fine; so are 64 pairs, pairs of count 0 up to the window's end, and pairs that overlap; erased blocks become dirty. The previous number
-- stays
abbrev pub example17 : Example
example17 =
    mark_list (0 ∷ 1 ∷ []) shows (unnamed 2 ∷ [])
    ∷ mark_list [] shows (unnamed 2 ∷ [])
    ∷ command (2 ∷ 1 ∷ 1 ∷ []) shows (version 1 ∷ [])
    ∷ suspend shows []
    ∷ mark_list (0 ∷ 1 ∷ []) shows (unnamed 2 ∷ [])
    ∷ command (2 ∷ 2 ∷ 2 ∷ []) shows (version 2 ∷ [])
    ∷ mark_list (0 ∷ []) shows (unnamed 6 ∷ [])
    ∷ mark_list [] shows (unnamed 6 ∷ [])
    ∷ resume shows []
    ∷ mark_list (0 ∷ []) shows (unnamed 7 ∷ [])
    ∷ mark_list (pairs 65 0 1) shows (unnamed 7 ∷ [])
    ∷ command (4 ∷ 3 ∷ 1 ∷ 0 ∷ []) shows (window Read 1 2 ∷ [])
    ∷ mark_list (0 ∷ 1 ∷ []) shows (unnamed 7 ∷ marks [] ∷ [])
    ∷ mark_list [] shows (unnamed 7 ∷ [])
    ∷ command (6 ∷ 4 ∷ 1 ∷ 0 ∷ []) shows (window Write 1 2 ∷ [])
    ∷ mark_list [] shows (unnamed 1 ∷ marks [] ∷ [])
    ∷ mark_list (0 ∷ 1 ∷ 9 ∷ []) shows (unnamed 2 ∷ marks [] ∷ [])
    ∷ mark_list (pairs 64 0 1 ++ (0 ∷ [])) shows (unnamed 2 ∷ marks [] ∷ [])
    ∷ mark_list (pairs 65 0 1) shows (unnamed 2 ∷ marks [] ∷ [])
    ∷ mark_list (pairs 65 9 9) shows (unnamed 2 ∷ marks [] ∷ [])
    ∷ mark_list (0 ∷ 1 ∷ 65535 ∷ 2 ∷ 3 ∷ 0 ∷ []) shows (named 1 ∷ marks [] ∷ pending 0 0 ∷ [])
    ∷ mark_list (3 ∷ 0 ∷ 0 ∷ 2 ∷ []) shows (named 0 ∷ marks [] ∷ [])
    ∷ mark_list (pairs 63 0 1 ++ (2 ∷ 1 ∷ [])) shows (named 63 ∷ marks [] ∷ [])
    ∷ mark_list (2 ∷ 0 ∷ 1 ∷ 0 ∷ []) shows (unnamed 1 ∷ marks [] ∷ pending 0 0 ∷ [])
    ∷ command (10 ∷ 5 ∷ 0 ∷ 0 ∷ 2 ∷ 0 ∷ []) shows (marks (2 ∷ 2 ∷ []) ∷ pending 2 2 ∷ [])
    ∷ mark_list (1 ∷ 1 ∷ 1 ∷ 1 ∷ []) shows (unnamed 1 ∷ marks (2 ∷ 1 ∷ []) ∷ pending 2 18 ∷ [])
    ∷ suspend shows []
    ∷ mark_list (0 ∷ 1 ∷ []) shows (unnamed 6 ∷ marks (2 ∷ 1 ∷ []) ∷ [])
    ∷ resume shows []
    ∷ command (2 ∷ 6 ∷ 1 ∷ []) shows (version 1 ∷ [])
    ∷ mark_list (0 ∷ 1 ∷ []) shows (unnamed 2 ∷ marks (2 ∷ 1 ∷ []) ∷ [])
    ∷ command (2 ∷ 7 ∷ 2 ∷ []) shows (version 2 ∷ [])
    ∷ mark_list (pairs 64 0 2) shows (unnamed 1 ∷ marks (1 ∷ 1 ∷ []) ∷ pending 2 34 ∷ window Write 1 2 ∷ events 0x81 ∷ [])
    ∷ command (8 ∷ 7 ∷ []) shows (refused 8 ∷ [])
    ∷ version_found 3 shows []
    ∷ mark_list (0 ∷ 1 ∷ []) shows (unnamed 4 ∷ [])
    ∷ numbers_found 1 1 shows []
    ∷ version_found 1 shows []
    ∷ mark_list (0 ∷ []) shows (unnamed 4 ∷ marks (1 ∷ 1 ∷ []) ∷ unsound ∷ [])
    ∷ numbers_found 2 0 shows []
    ∷ version_found 2 shows []
    ∷ command (8 ∷ 8 ∷ []) shows (code 1 ∷ actions 34 ∷ marks [] ∷ flash (blocks (0xa0 ∷ 0xff ∷ 0xff ∷ 0xa3 ∷ [])) ∷ [])
    ∷ []

-- Ticket 8, "An erase of a worn block fails and changes nothing": in a window of flash blocks 1 and 2. A worn block without a mark, or outside the window, has no
-- effect. "A flush stops at the first failure. Finished blocks become clean; the failing one and those behind it keep their marks", "FLUSH and CLOSE_WINDOW then
-- answer WRITE_ERROR and the window stays active", also at version 1, where FLUSH marks first; a create "leaves no window", and nothing is copied. "WRITE_ERROR (3)
-- comes after the argument check, but in a create before it". "The action count leaves out the failed erase", and what is pending counts "as if no block were
-- worn". "The stepped form answers 3 from that erase on", past the end too, and 6 while suspended. "A map whose length is not S is SYSTEM_ERROR, first", and 4 to a
-- step and to a list of marks. With a good map again a FLUSH ends what is left
abbrev pub example18 : Example
example18 =
    command (2 ∷ 1 ∷ 2 ∷ []) shows (version 2 ∷ [])
    ∷ command (6 ∷ 2 ∷ 1 ∷ 0 ∷ []) shows (window Write 1 2 ∷ [])
    ∷ wear (1 ∷ 0 ∷ 255 ∷ 1 ∷ []) shows []
    ∷ command (10 ∷ 3 ∷ 0 ∷ 0 ∷ 1 ∷ 0 ∷ []) shows (code 1 ∷ marks (2 ∷ []) ∷ pending 1 1 ∷ [])
    ∷ command (8 ∷ 4 ∷ []) shows (code 1 ∷ arguments [] ∷ actions 1 ∷ window Write 1 2 ∷ marks [] ∷ pending 0 0 ∷ flash (blocks (0xa0 ∷ 0xff ∷ 0xa2 ∷ 0xa3 ∷ [])) ∷ [])
    ∷ write (blocks (0x5a ∷ 0x5b ∷ [])) shows []
    ∷ command (7 ∷ 5 ∷ 0 ∷ 0 ∷ 2 ∷ 0 ∷ []) shows (code 1 ∷ marks (1 ∷ 1 ∷ []) ∷ pending 2 34 ∷ [])
    ∷ step 1 shows (code 1 ∷ actions 1 ∷ flash (with_block1 (paged 0x5a 0xff)) ∷ [])
    ∷ step 17 shows (code 3 ∷ actions 0 ∷ marks (1 ∷ 1 ∷ []) ∷ pending 2 34 ∷ flash (with_block1 (paged 0x5a 0xff)) ∷ [])
    ∷ step 18 shows (code 3 ∷ actions 0 ∷ [])
    ∷ step 34 shows (code 3 ∷ actions 0 ∷ flash (with_block1 (paged 0x5a 0xff)) ∷ [])
    ∷ step 16 shows (code 1 ∷ actions 1 ∷ [])
    ∷ suspend shows []
    ∷ step 17 shows (code 6 ∷ actions 0 ∷ [])
    ∷ command (8 ∷ 6 ∷ []) shows (refused 6 ∷ actions 0 ∷ marks (1 ∷ 1 ∷ []) ∷ [])
    ∷ resume shows []
    ∷ command (8 ∷ 7 ∷ []) shows (refused 3 ∷ actions 17 ∷ window Write 1 2 ∷ marks (0 ∷ 1 ∷ []) ∷ pending 1 17 ∷ events 0x81 ∷ map (1 ∷ 0 ∷ 255 ∷ 1 ∷ []) ∷ memory (blocks (0x5a ∷ 0x5b ∷ [])) ∷ flash (blocks (0xa0 ∷ 0x5a ∷ 0xa2 ∷ 0xa3 ∷ [])) ∷ [])
    ∷ command (8 ∷ 7 ∷ []) shows (refused 8 ∷ [])
    ∷ command (8 ∷ 8 ∷ []) shows (refused 3 ∷ actions 0 ∷ marks (0 ∷ 1 ∷ []) ∷ pending 1 17 ∷ [])
    ∷ step 0 shows (code 3 ∷ actions 0 ∷ [])
    ∷ write (blocks (0x77 ∷ 0x78 ∷ [])) shows []
    ∷ command (7 ∷ 9 ∷ 0 ∷ 0 ∷ 1 ∷ 0 ∷ []) shows (marks (1 ∷ 1 ∷ []) ∷ [])
    ∷ command (5 ∷ 10 ∷ 2 ∷ []) shows (refused 2 ∷ actions 0 ∷ window Write 1 2 ∷ marks (1 ∷ 1 ∷ []) ∷ flash (blocks (0xa0 ∷ 0x5a ∷ 0xa2 ∷ 0xa3 ∷ [])) ∷ [])
    ∷ command (5 ∷ 11 ∷ 1 ∷ []) shows (refused 3 ∷ actions 17 ∷ window Write 1 2 ∷ marks (0 ∷ 1 ∷ []) ∷ pending 1 17 ∷ memory (blocks (0x77 ∷ 0x78 ∷ [])) ∷ flash (blocks (0xa0 ∷ 0x77 ∷ 0xa2 ∷ 0xa3 ∷ [])) ∷ [])
    ∷ command (10 ∷ 12 ∷ 1 ∷ 0 ∷ 1 ∷ 0 ∷ []) shows (code 1 ∷ marks (0 ∷ 2 ∷ []) ∷ pending 1 1 ∷ memory (blocks (0x77 ∷ 0xff ∷ [])) ∷ [])
    ∷ write (blocks (0x11 ∷ 0x12 ∷ [])) shows []
    ∷ command (7 ∷ 13 ∷ 0 ∷ 0 ∷ 1 ∷ 0 ∷ []) shows (marks (1 ∷ 2 ∷ []) ∷ pending 2 18 ∷ [])
    ∷ command (8 ∷ 14 ∷ []) shows (refused 3 ∷ actions 17 ∷ window Write 1 2 ∷ marks (0 ∷ 2 ∷ []) ∷ pending 1 1 ∷ flash (blocks (0xa0 ∷ 0x11 ∷ 0xa2 ∷ 0xa3 ∷ [])) ∷ [])
    ∷ command (10 ∷ 15 ∷ 0 ∷ 0 ∷ 1 ∷ 0 ∷ []) shows (marks (2 ∷ 2 ∷ []) ∷ pending 2 2 ∷ [])
    ∷ command (5 ∷ 16 ∷ []) shows (refused 3 ∷ actions 1 ∷ window Write 1 2 ∷ marks (0 ∷ 2 ∷ []) ∷ pending 1 1 ∷ flash (blocks (0xa0 ∷ 0xff ∷ 0xa2 ∷ 0xa3 ∷ [])) ∷ [])
    ∷ wear (0 ∷ 128 ∷ 0 ∷ 0 ∷ []) shows []
    ∷ write (blocks (0x31 ∷ 0x32 ∷ [])) shows []
    ∷ command (7 ∷ 17 ∷ 0 ∷ 0 ∷ 1 ∷ 0 ∷ []) shows (marks (1 ∷ 2 ∷ []) ∷ pending 2 18 ∷ [])
    ∷ step 0 shows (code 3 ∷ actions 0 ∷ [])
    ∷ step 17 shows (code 3 ∷ actions 0 ∷ [])
    ∷ command (8 ∷ 18 ∷ []) shows (refused 3 ∷ actions 0 ∷ window Write 1 2 ∷ marks (1 ∷ 2 ∷ []) ∷ pending 2 18 ∷ flash (blocks (0xa0 ∷ 0xff ∷ 0xa2 ∷ 0xa3 ∷ [])) ∷ [])
    ∷ wear (0 ∷ 0 ∷ 1 ∷ 0 ∷ []) shows []
    ∷ command (4 ∷ 19 ∷ 0 ∷ 0 ∷ []) shows (refused 3 ∷ actions 17 ∷ window Closed 0 0 ∷ marks [] ∷ pending 0 0 ∷ memory (blocks (0x31 ∷ 0x32 ∷ [])) ∷ flash (blocks (0xa0 ∷ 0x31 ∷ 0xa2 ∷ 0xa3 ∷ [])) ∷ [])
    ∷ command (6 ∷ 20 ∷ 1 ∷ 0 ∷ []) shows (code 1 ∷ arguments (16 ∷ 0 ∷ 2 ∷ 0 ∷ 1 ∷ 0 ∷ []) ∷ actions 0 ∷ window Write 1 2 ∷ memory (blocks (0x31 ∷ 0xa2 ∷ [])) ∷ [])
    ∷ command (10 ∷ 21 ∷ 0 ∷ 0 ∷ 2 ∷ 0 ∷ []) shows (marks (2 ∷ 2 ∷ []) ∷ [])
    ∷ write (blocks (0x41 ∷ 0x42 ∷ [])) shows []
    ∷ command (6 ∷ 22 ∷ 4 ∷ 0 ∷ []) shows (refused 3 ∷ actions 1 ∷ window Closed 0 0 ∷ marks [] ∷ memory (blocks (0x41 ∷ 0x42 ∷ [])) ∷ flash (blocks (0xa0 ∷ 0xff ∷ 0xa2 ∷ 0xa3 ∷ [])) ∷ [])
    ∷ command (6 ∷ 23 ∷ 4 ∷ 0 ∷ []) shows (refused 2 ∷ actions 0 ∷ window Closed 0 0 ∷ [])
    ∷ command (2 ∷ 24 ∷ 1 ∷ []) shows (version 1 ∷ [])
    ∷ command (6 ∷ 25 ∷ 1 ∷ 0 ∷ []) shows (code 1 ∷ window Write 1 2 ∷ [])
    ∷ write (blocks (0x51 ∷ 0x52 ∷ [])) shows []
    ∷ command (8 ∷ 26 ∷ 1 ∷ 0 ∷ 0x01 ∷ 0x20 ∷ 0 ∷ 0 ∷ []) shows (refused 2 ∷ actions 0 ∷ marks [] ∷ [])
    ∷ command (8 ∷ 27 ∷ 1 ∷ 0 ∷ 0x00 ∷ 0x20 ∷ 0 ∷ 0 ∷ []) shows (refused 3 ∷ actions 17 ∷ window Write 1 2 ∷ marks (0 ∷ 1 ∷ []) ∷ pending 1 17 ∷ flash (blocks (0xa0 ∷ 0x51 ∷ 0xa2 ∷ 0xa3 ∷ [])) ∷ [])
    ∷ command (8 ∷ 28 ∷ []) shows (refused 3 ∷ actions 0 ∷ window Write 1 2 ∷ marks (0 ∷ 1 ∷ []) ∷ [])
    ∷ command (5 ∷ 29 ∷ 2 ∷ []) shows (refused 3 ∷ actions 0 ∷ window Write 1 2 ∷ marks (0 ∷ 1 ∷ []) ∷ [])
    ∷ wear (0 ∷ 0 ∷ 0 ∷ []) shows []
    ∷ command (8 ∷ 30 ∷ []) shows (refused 4 ∷ actions 0 ∷ window Write 1 2 ∷ marks (0 ∷ 1 ∷ []) ∷ pending 1 17 ∷ memory (blocks (0x51 ∷ 0x52 ∷ [])) ∷ flash (blocks (0xa0 ∷ 0x51 ∷ 0xa2 ∷ 0xa3 ∷ [])) ∷ [])
    ∷ command (2 ∷ 30 ∷ 2 ∷ []) shows (refused 4 ∷ version 1 ∷ [])
    ∷ step 0 shows (code 4 ∷ actions 0 ∷ [])
    ∷ mark_list [] shows (unnamed 4 ∷ [])
    ∷ wear (0 ∷ 0 ∷ 0 ∷ 0 ∷ 0 ∷ []) shows []
    ∷ command (5 ∷ 29 ∷ []) shows (refused 4 ∷ actions 0 ∷ window Write 1 2 ∷ marks (0 ∷ 1 ∷ []) ∷ [])
    ∷ step 0 shows (code 4 ∷ actions 0 ∷ [])
    ∷ mark_list (0 ∷ 1 ∷ []) shows (unnamed 4 ∷ marks (0 ∷ 1 ∷ []) ∷ [])
    ∷ wear [] shows []
    ∷ command (6 ∷ 31 ∷ 4 ∷ 0 ∷ []) shows (refused 4 ∷ actions 0 ∷ window Write 1 2 ∷ marks (0 ∷ 1 ∷ []) ∷ [])
    ∷ suspend shows (code 1 ∷ [])
    ∷ step 0 shows (code 4 ∷ actions 0 ∷ flash (blocks (0xa0 ∷ 0x51 ∷ 0xa2 ∷ 0xa3 ∷ [])) ∷ [])
    ∷ mark_list (0 ∷ 1 ∷ []) shows (unnamed 4 ∷ marks (0 ∷ 1 ∷ []) ∷ [])
    ∷ resume shows (code 1 ∷ [])
    ∷ wear good shows []
    ∷ command (5 ∷ 29 ∷ []) shows (refused 2 ∷ actions 0 ∷ window Write 1 2 ∷ marks (0 ∷ 1 ∷ []) ∷ [])
    ∷ command (8 ∷ 30 ∷ []) shows (code 1 ∷ arguments [] ∷ actions 17 ∷ window Write 1 2 ∷ marks [] ∷ pending 0 0 ∷ flash (blocks (0xa0 ∷ 0x51 ∷ 0x52 ∷ 0xa3 ∷ [])) ∷ [])
    ∷ []

-- the twelve, and those
unfoldable pub examples : List Example
examples =
    example1 ∷ example2 ∷ example3 ∷ example4 ∷ example5 ∷ example6 ∷ example7 ∷ example8 ∷ example9 ∷ example10 ∷ example11 ∷ example12
    ∷ example13 ∷ example14 ∷ example15 ∷ example16 ∷ example17 ∷ example18
    ∷ []

-- "The twelve examples are proved from the definitions by a single statement over a single list": its proof is `all_hold`, in proofs/AllHold.antt
abbrev pub AllHold : Type 0
AllHold = every (passes start) examples ≡ true
