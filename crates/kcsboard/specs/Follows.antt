-- A list of C's calls on one record is the list of the port that it stands for. A call's result is, by its contract, that of the port which the record stands for then; so
-- what crates/kcshost says of lists of accesses and answers holds of C's calls. Proved in proofs/Follows.antt.
use Rattle.std.specs.Prelude.{◌≡◌, List, [], ◌∷◌, ℕ, ◌≤◌, length}
use Rattle.buffers.specs.Ranges.{range}
use Rattle.kcs.specs.Port.{fresh}
use Rattle.kcs.specs.Accesses.{message}
use Rattle.kcshost.specs.Runs.{Step, stepped, stepped_all}
use Rattle.kcs.specs.Bytes.{port_of, bytes_of}

-- what a call leaves of the record, by its contract
abbrev pub called : Step → List ℕ → List ℕ
called step bytes = bytes_of (stepped step (port_of bytes))

abbrev pub called_all : List Step → List ℕ → List ℕ
called_all [] bytes = bytes
called_all (step ∷ rest) bytes = called_all rest (called step bytes)

-- the port that the record stands for after any calls is what the same steps leave of the port before
abbrev pub Follows : Type 0
Follows = (steps : List Step) (bytes : List ℕ) → length bytes ≡ 136 → (port_of (called_all steps bytes) ≡ stepped_all steps (port_of bytes)) × (length (called_all steps bytes) ≡ 136)

-- the bytes of a fresh port stand for it (that `kcs_fresh`'s record has these bytes is the layout of its fields, which is not proved but tested), and the message that a
-- call tells of is so many bytes of `request`, from offset 8 on
abbrev pub FreshFollows : Type 0
FreshFollows = port_of (bytes_of fresh) ≡ fresh

abbrev pub MessageBytes : Type 0
MessageBytes = (n : ℕ) (bytes : List ℕ) → n ≤ 64 → message n (port_of bytes) ≡ range 8 n bytes
