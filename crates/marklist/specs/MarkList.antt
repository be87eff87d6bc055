-- A list of marks in one call: document 02, Ticket 4.
use Rattle.std.specs.Prelude.{Result, Ok, Err, ℕ, suc, ◌+◌, ◌/◌, ◌%◌, Bool, true, false, cond, not, ◌&&◌, ◌||◌, List, [], ◌∷◌, leb, ltb, eqb, length, replicate}
use Rattle.buffers.specs.Ranges.{replace}
use Rattle.session.specs.declared.Session.{Session}
use Rattle.session.specs.Machine.{Setup, Machine, holding}
use Rattle.session.specs.Marks.{dirty}
use Rattle.session.specs.Record.{with_marks}
use Rattle.soundness.specs.Soundness.{sound_at}
use Rattle.refusals.specs.Refusals.{is_write}
use Rattle.marklist.specs.declared.ListError.{ListError}
use Rattle.marklist.specs.declared.ListError.TheVariants.{Unsound, OtherVersion, Suspended, Windowless, Malformed, Outside}

-- what the call answers: no check refuses the list, and it is marked, or the first that does
abbrev pub ListAnswer : Type 0
ListAnswer = Result Unit ListError

-- no check refuses
pattern abbrev pub Marked : ListAnswer
Marked = Ok tt

-- "with codes 4, 2, 6, 7, 2, 2", and 01's SUCCESS
abbrev pub list_code : ListAnswer → ℕ
list_code Marked = 1
list_code (Err Unsound) = 4
list_code (Err OtherVersion) = 2
list_code (Err Suspended) = 6
list_code (Err Windowless) = 7
list_code (Err Malformed) = 2
list_code (Err (Outside place)) = 2

-- "the answer names the first failing pair by its place", and no other answer names one
abbrev pub names_pair : ListAnswer → Bool
names_pair Marked = false
names_pair (Err Unsound) = false
names_pair (Err OtherVersion) = false
names_pair (Err Suspended) = false
names_pair (Err Windowless) = false
names_pair (Err Malformed) = false
names_pair (Err (Outside place)) = true

-- that place, and 0 where none is named (house)
abbrev pub place_named : ListAnswer → ℕ
place_named Marked = 0
place_named (Err Unsound) = 0
place_named (Err OtherVersion) = 0
place_named (Err Suspended) = 0
place_named (Err Windowless) = 0
place_named (Err Malformed) = 0
place_named (Err (Outside place)) = place

-- "pairs of 16-bit numbers, window block and count"
pub record Pair : Type 0 where
  pub block : ℕ
  pub count : ℕ

-- the lent numbers read in pairs; a number left over at the end is none
abbrev pub pairs_of : List ℕ → List Pair
pairs_of [] = []
pairs_of (block ∷ []) = []
pairs_of (block ∷ count ∷ rest) = record { block = block; count = count } ∷ pairs_of rest

-- "odd length or more than 64 pairs", from how many numbers the list has
abbrev pub malformed : ℕ → Bool
malformed numbers = eqb (numbers % 2) 1 || ltb 64 (numbers / 2)

-- MARK_DIRTY at version 2 takes "window block w (0-1) and k blocks (2-3), with w + k <= size", a whole-number sum; any other pair is bad
abbrev pub is_inside : ℕ → Pair → Bool
is_inside size pair = leb (pair.block + pair.count) size

-- "the first failing pair by its place", counted from a place on; or that there is none
abbrev pub first_outside : ℕ → ℕ → List Pair → ListAnswer
first_outside size place [] = Marked
first_outside size place (pair ∷ pairs) = cond (not (is_inside size pair)) (Err (Outside place)) (first_outside size (suc place) pairs)

-- "SYSTEM_ERROR, version not 2, suspended, no write window, odd length or more than 64 pairs, first bad pair, in that order"; from whether the lent
-- sizes, B and the session keep the numbers
unfoldable pub answer_for : Bool → List ℕ → Session → ListAnswer
answer_for sound list s =
    cond (not sound) (Err Unsound)
    (cond (not (eqb s.version 2)) (Err OtherVersion)
    (cond s.suspended (Err Suspended)
    (cond (not (is_write s.window)) (Err Windowless)
    (cond (malformed (length list)) (Err Malformed)
    (first_outside s.size 0 (pairs_of list))))))

-- "marks them all dirty", pair after pair
abbrev pub mark_pairs : List Pair → List ℕ → List ℕ
mark_pairs [] marks = marks
mark_pairs (pair ∷ pairs) marks = mark_pairs pairs (replace pair.block (replicate pair.count dirty) marks)

-- a block that a pair names, "window block and count"
abbrev pub is_listed : List Pair → ℕ → Bool
is_listed [] block = false
is_listed (pair ∷ pairs) block = (leb pair.block block && ltb block (pair.block + pair.count)) || is_listed pairs block

-- "If one would fail, nothing is marked"; "No sequence numbers are used or remembered"
abbrev pub session_for : ListAnswer → List ℕ → Session → Session
session_for Marked list s = with_marks (mark_pairs (pairs_of list) s.marks) s
session_for (Err Unsound) list s = s
session_for (Err OtherVersion) list s = s
session_for (Err Suspended) list s = s
session_for (Err Windowless) list s = s
session_for (Err Malformed) list s = s
session_for (Err (Outside place)) list s = s

-- the session that the call leaves, and what it answers
pub record Listed : Type 0 where
  pub session : Session
  pub answer : ListAnswer

-- as the code has them: a call that is refused leaves the session that it was given
abbrev pub left : Session → Result Session ListError → Listed
left before (Ok after) = record { session = after; answer = Marked }
left before (Err refused) = record { session = before; answer = Err refused }

-- what the call answers and leaves, of the lengths of the flash, its map and the window memory in bytes
unfoldable pub listed : Setup → ℕ → ℕ → ℕ → List ℕ → Session → Listed
listed setup flash worn memory list s =
    record {
      session = session_for (answer_for (sound_at setup flash worn memory s) list s) list s;
      answer = answer_for (sound_at setup flash worn memory s) list s;
    }

-- the same, of what a call is given
abbrev pub listed_in : Setup → List ℕ → Machine → Listed
listed_in setup list m = listed setup (length m.flash) (length m.worn) (length m.memory) list m.session

-- neither buffer is touched
abbrev pub after_list : Setup → List ℕ → Machine → Machine
after_list setup list m = holding (listed_in setup list m).session m
