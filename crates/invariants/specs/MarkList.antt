-- A list of marks in one call, with the papers' own numbers, and beside the single commands: document 02, Ticket 4. Proved in proofs/MarkList.antt.
use Rattle.std.specs.Prelude.{Option, Some, ◌≡◌, Bool, true, false, cond, List, [], ◌∷◌, ◌⊎◌, ℕ, zero, suc, ◌%◌, ◌≤◌, ◌<◌, length, get_or}
use Rattle.session.specs.Machine.{Setup, Machine, holding}
use Rattle.session.specs.Record.{with_previous, with_counted}
use Rattle.soundness.specs.Soundness.{sound_in}
use Rattle.registers.specs.Registers.{command_of, sequence_of, number}
use Rattle.refusals.specs.Refusals.{is_previous}
use Rattle.marklist.specs.MarkList.{Pair, pairs_of, list_code, names_pair, place_named, is_listed, listed_in, after_list}
use Rattle.mailbox.specs.Mediator.{mediate, response}

-- the code that a list is answered with, and whether it names a pair, by its place
abbrev pub answer_code : Setup → List ℕ → Machine → ℕ
answer_code setup list m = list_code (listed_in setup list m).answer

abbrev pub is_naming : Setup → List ℕ → Machine → Bool
is_naming setup list m = names_pair (listed_in setup list m).answer

pub record Names (place : ℕ) (setup : Setup) (list : List ℕ) (m : Machine) : Type 0 where
  pub code : answer_code setup list m ≡ 2
  pub naming : is_naming setup list m ≡ true
  pub named : place_named (listed_in setup list m).answer ≡ place

-- ---- what it leaves

-- the marks and their numbers alone change: "No sequence numbers are used or remembered"
abbrev pub ListLeaves : Type 0
ListLeaves =
    (setup : Setup) (list : List ℕ) (m : Machine)
    → after_list setup list m
    ≡ holding (with_counted (listed_in setup list m).session.marks (listed_in setup list m).session.counts m.session) m

-- "If one would fail, nothing is marked": a list that is refused, for whatever reason, changes nothing
abbrev pub ListRefused : Type 0
ListRefused = (setup : Setup) (list : List ℕ) (m : Machine) → (answer_code setup list m ≡ 1 → ⊥) → after_list setup list m ≡ m

-- "marks them all dirty" (1), and every other block has the mark that it had; of 64 marks, which an array has
abbrev pub ListMarks : Type 0
ListMarks =
    (setup : Setup) (list : List ℕ) (m : Machine) → length m.session.marks ≡ 64 → answer_code setup list m ≡ 1 → (block : ℕ)
    → get_or (after_list setup list m).session.marks block 0 ≡ cond (is_listed (pairs_of list) block) 1 (get_or m.session.marks block 0)

-- ---- "It equals the single commands sent in order where all of them succeed"

-- the numbers of some pairs, as they are lent
abbrev pub numbers_of : List Pair → List ℕ
numbers_of [] = []
numbers_of (pair ∷ pairs) = pair.block ∷ pair.count ∷ numbers_of pairs

-- commands that are a MARK_DIRTY (7) for each of the pairs in order, "window block w (0-1) and k blocks (2-3)", with any sequence numbers and any other bytes
abbrev pub Single : List Pair → List (List ℕ) → Type 0
Single [] [] = Unit
Single [] (registers ∷ sent) = ⊥
Single (pair ∷ pairs) [] = ⊥
Single (pair ∷ pairs) (registers ∷ sent) =
    (command_of registers ≡ 7) × (number 2 0 registers ≡ pair.block) × (number 2 2 registers ≡ pair.count) × Single pairs sent

-- what a list of commands leaves
abbrev pub after_sent : Setup → List (List ℕ) → Machine → Machine
after_sent setup [] m = m
after_sent setup (registers ∷ sent) m = after_sent setup sent (mediate setup registers m).machine

-- each of them succeeds (1)
abbrev pub AllSucceed : Setup → List (List ℕ) → Machine → Type 0
AllSucceed setup [] m = Unit
AllSucceed setup (registers ∷ sent) m = (response setup registers m ≡ 1) × AllSucceed setup sent (mediate setup registers m).machine

-- they succeed so many times, and the next is refused with PARAM_ERROR (2)
abbrev pub FailAt : ℕ → Setup → List (List ℕ) → Machine → Type 0
FailAt place setup [] m = ⊥
FailAt zero setup (registers ∷ sent) m = response setup registers m ≡ 2
FailAt (suc place) setup (registers ∷ sent) m = (response setup registers m ≡ 1) × FailAt place setup sent (mediate setup registers m).machine

-- numbers that never repeat the one before, the first of them not the session's previous one
abbrev pub NeverRepeat : Option ℕ → List (List ℕ) → Type 0
NeverRepeat previous [] = Unit
NeverRepeat previous (registers ∷ sent) =
    (is_previous previous (sequence_of registers) ≡ false) × NeverRepeat (Some (sequence_of registers)) sent

-- at version 2, of every list of up to 64 pairs and all such commands: where the commands succeed the list leaves what they leave but for the previous
-- number, and answers 1, if there are any; where they fail at a place the list names it; and with numbers that never repeat they fail where it names a place,
-- and succeed where it answers 1. What the empty list is answered is said below
abbrev pub ListAsCommands : Type 0
ListAsCommands =
    (setup : Setup) (pairs : List Pair) (sent : List (List ℕ)) (m : Machine) → m.session.version ≡ 2 → length pairs ≤ 64 → Single pairs sent
    → (AllSucceed setup sent m
    → (after_list setup (numbers_of pairs) m ≡ holding (with_previous m.session.previous (after_sent setup sent m).session) (after_sent setup sent m))
    × ((pairs ≡ [] → ⊥) → answer_code setup (numbers_of pairs) m ≡ 1))
    × ((place : ℕ) → Names place setup (numbers_of pairs) m → NeverRepeat m.session.previous sent → FailAt place setup sent m)
    × (answer_code setup (numbers_of pairs) m ≡ 1 → NeverRepeat m.session.previous sent → AllSucceed setup sent m)
    × ((place : ℕ) → FailAt place setup sent m → Names place setup (numbers_of pairs) m)

-- ---- the refusals that come before the pairs, of any list

-- of the session, 4, 6 and 7: at version 2 a list is so refused exactly where a MARK_DIRTY with a new number is, whatever either names; and where that one is
-- not, the empty list is answered with 1: "An empty list succeeds"
abbrev pub ListRefusedAlike : Type 0
ListRefusedAlike =
    (setup : Setup) (list registers : List ℕ) (m : Machine) → m.session.version ≡ 2 → command_of registers ≡ 7
    → is_previous m.session.previous (sequence_of registers) ≡ false
    → ((answer_code setup list m ≡ 1 → ⊥) → (answer_code setup list m ≡ 2 → ⊥) → response setup registers m ≡ answer_code setup list m)
    × ((response setup registers m ≡ 1 → ⊥) → (response setup registers m ≡ 2 → ⊥) → answer_code setup list m ≡ response setup registers m)
    × ((response setup registers m ≡ 1) ⊎ (response setup registers m ≡ 2) → answer_code setup [] m ≡ 1)

-- "SYSTEM_ERROR, version not 2": at every version 4 where the sizes, B or the session are not sound, else 2 at any other version than 2, and no pair is named
abbrev pub ListAtVersion : Type 0
ListAtVersion =
    (setup : Setup) (list : List ℕ) (m : Machine)
    → (sound_in setup m ≡ false → (answer_code setup list m ≡ 4) × (is_naming setup list m ≡ false))
    × (sound_in setup m ≡ true → (m.session.version ≡ 2 → ⊥) → (answer_code setup list m ≡ 2) × (is_naming setup list m ≡ false))

-- "odd length or more than 64 pairs": such a list is never marked, and no pair of it is named
abbrev pub ListMalformed : Type 0
ListMalformed =
    (setup : Setup) (list : List ℕ) (m : Machine) → (length list % 2 ≡ 1) ⊎ (128 < length list)
    → (answer_code setup list m ≡ 1 → ⊥) × (is_naming setup list m ≡ false)

-- where no pair is named the place is 0 (house)
abbrev pub ListUnnamed : Type 0
ListUnnamed = (setup : Setup) (list : List ℕ) (m : Machine) → is_naming setup list m ≡ false → place_named (listed_in setup list m).answer ≡ 0
