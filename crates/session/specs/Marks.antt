-- The marks of window blocks, by what they ask of a flush: document 01, "Session" and "Chip actions"; and their numbers: 02, Ticket 2.
use Rattle.std.specs.Prelude.{ℕ, ◌+◌, Bool, cond, ◌&&◌, ◌||◌, List, [], ◌∷◌, eqb}
use Rattle.session.specs.declared.Counts.{Counts}

-- "0 clean, 1 dirty, 2 erased"
abbrev pub dirty : ℕ
dirty = 1

abbrev pub erased_mark : ℕ
erased_mark = 2

-- "A dirty block needs one erase and then 16 page actions ..; an erased block needs the erase only": whether a block with this mark is erased,
-- and whether its pages are programmed
abbrev pub erases : ℕ → Bool
erases mark = eqb mark dirty || eqb mark erased_mark

abbrev pub programs : ℕ → Bool
programs mark = eqb mark dirty

-- a mark that asks for an action
abbrev pub is_marked : ℕ → Bool
is_marked mark = erases mark || programs mark

-- a mark counts 1 where it is of this kind, else 0
abbrev pub of_kind : ℕ → ℕ → ℕ
of_kind kind mark = cond (eqb mark kind) 1 0

-- how many of the marks are of this kind
abbrev pub marks_of : ℕ → List ℕ → ℕ
marks_of kind [] = 0
marks_of kind (mark ∷ marks) = of_kind kind mark + marks_of kind marks

-- "the numbers of dirty and erased blocks" of these marks (02, Ticket 2): a full count
abbrev pub counts_of : List ℕ → Counts
counts_of marks = record { dirty = marks_of dirty marks; erased = marks_of erased_mark marks }

-- whether the number of each kind is the same in both
abbrev pub same_counts : Counts → Counts → Bool
same_counts a b = eqb a.dirty b.dirty && eqb a.erased b.erased

-- whether they are those of no mark at all
abbrev pub none_marked : Counts → Bool
none_marked counts = same_counts counts (counts_of [])
