-- How much is pending, which the board may ask of any session: document 02, Ticket 2.
use Rattle.std.specs.Prelude.{ℕ, ◌+◌, ◌*◌, cond, Option, None, Some}
use Rattle.session.specs.declared.Counts.{Counts}
use Rattle.session.specs.declared.Session.{Session}
use Rattle.soundness.specs.Soundness.{counts_sound}
use Rattle.soundness.specs.declared.pending_work.PendingWork.{PendingWork}

-- "how many window blocks are marked"
abbrev pub blocks_counted : Counts → ℕ
blocks_counted counts = counts.dirty + counts.erased

-- "and how many chip actions a flush would take": 01's "17 for each dirty block plus 1 for each erased one"
abbrev pub actions_counted : Counts → ℕ
actions_counted counts = 17 * counts.dirty + counts.erased

-- so many marked blocks, and so many actions
abbrev pub marked_work : ℕ → ℕ → Option PendingWork
marked_work blocks actions = Some (record { blocks = blocks; actions = actions })

-- the answer is made "from them", and is "unsound", which has no numbers, exactly where they disagree with the marks, whatever else the session is
abbrev pub pending_in : Session → Option PendingWork
pending_in s = cond (counts_sound s) (marked_work (blocks_counted s.counts) (actions_counted s.counts)) None
