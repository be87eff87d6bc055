-- What the papers say of commands by their codes, with their own numbers, is what the rows of the table say: document 01, and 02, Ticket 7. Proved in
-- proofs/Codes.antt.
use Rattle.std.specs.Prelude.{◌≡◌, Bool, cond, not, ◌&&◌, ◌||◌, List, ℕ, leb, eqb}
use Rattle.session.specs.declared.Session.{Session}
use Rattle.refusals.specs.Refusals.{never_broken, no_version, outside_flash, undefined_flags, outside_window, flush_outside, needs_number, needs_access, needs_window}
use Rattle.mailbox.specs.Commands.{refused, closing_first}
use Rattle.mailbox.specs.Mediator.{command_at}

-- "Version 0 knows 1, 2 and 9; version 1 knows 1 to 9; version 2 knows 1 to 10"
abbrev pub knows : ℕ → ℕ → Bool
knows version code =
    cond (eqb version 0) (eqb code 1 || (eqb code 2 || eqb code 9)) (leb 1 code && leb code (cond (eqb version 1) 9 10))

-- "4 and 6, create a read or write window"
abbrev pub is_create : ℕ → Bool
is_create code = eqb code 4 || eqb code 6

-- which of the argument rules of Refusals.antt a command has: GET_INFO (2), a create (4, 6), CLOSE_WINDOW (5), MARK_DIRTY and ERASE (7, 10), FLUSH (8); no
-- other command has one
abbrev pub rule_of : ℕ → Session → List ℕ → ℕ → Bool
rule_of code =
    cond (eqb code 2) no_version
    (cond (is_create code) outside_flash
    (cond (eqb code 5) undefined_flags (cond (eqb code 7 || eqb code 10) outside_window (cond (eqb code 8) flush_outside never_broken))))

-- the claim, of every code: which versions know it, "the sequence equals the previous one, not GET_INFO" (2), "suspended and not GET_INFO or ACK"
-- (9), "MARK_DIRTY, ERASE or FLUSH" (7, 10, 8) "without an active write window", its argument rule, and what is left where
-- that is broken: "a create refused for its argument has already closed and flushed the old window", and "WRITE_ERROR (3)" comes "in a create before it"
-- (02, Ticket 8)
abbrev pub CodesAsSaid : Type 0
CodesAsSaid =
    (code : ℕ)
    → ((version : ℕ) → (command_at code).known version ≡ knows version code)
    × (needs_number (command_at code).needs ≡ not (eqb code 2))
    × (needs_access (command_at code).needs ≡ not (eqb code 2 || eqb code 9))
    × (needs_window (command_at code).needs ≡ (eqb code 7 || (eqb code 8 || eqb code 10)))
    × ((command_at code).broken ≡ rule_of code)
    × ((command_at code).when_broken ≡ cond (is_create code) closing_first refused)
