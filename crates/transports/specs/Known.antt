-- The table of parameters beside what the papers say of all commands, with their own numbers: documents 01, 000 and 002. Proved in proofs/Known.antt.
use Rattle.std.specs.Prelude.{Option, None, Some, ℕ, ◌+◌, ◌≤◌, ◌≡◌, Bool, true, false, ◌&&◌, List, [], ◌∷◌, eqb, leb}
use Rattle.messages.specs.Parameters.{Parameter, Row, row_of, is_known}
use Rattle.invariants.specs.Codes.{knows}

-- "Version 0 knows 1, 2 and 9; version 1 knows 1 to 9; version 2 knows 1 to 10", and the commands that the table has rows of are those; a version above 2 does
-- not exist, and knows none
abbrev pub KnownAsSaid : Type 0
KnownAsSaid =
    (code version : ℕ) → (version ≤ 2 → is_known code version ≡ knows version code) × (3 ≤ version → is_known code version ≡ false)

-- "Parameter alignment: Packed (no padding)": by message each parameter begins where the one before ends
abbrev pub is_packed : ℕ → List Parameter → Bool
is_packed at [] = true
is_packed at (p ∷ ps) = eqb p.message at && is_packed (at + p.size) ps

-- "only 11 bytes are available for encoding of command parameters": by mailbox none ends behind the eleventh
abbrev pub has_room : List Parameter → Bool
has_room [] = true
has_room (p ∷ ps) = leb (p.mailbox + p.size) 11 && has_room ps

-- both, of what a command is sent and answered
abbrev pub IsLaidOut : Option Row → Type 0
IsLaidOut None = Unit
IsLaidOut (Some r) =
    (is_packed 0 r.request ≡ true) × (is_packed 0 r.response ≡ true) × (has_room r.request ≡ true) × (has_room r.response ≡ true)

-- the claim, of every row
abbrev pub RowsAreLaidOut : Type 0
RowsAreLaidOut = (code version : ℕ) → IsLaidOut (row_of code version)
