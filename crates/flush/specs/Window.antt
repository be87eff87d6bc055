-- The flush of a session's window: document 01, "Chip actions", and 02, Ticket 8.
use Rattle.std.specs.Prelude.{ℕ, ◌+◌, Bool, false, cond, not, ◌&&◌, Option, None, Some, is_some, Result, Ok, Err, List, ltb, length, take, drop}
use Rattle.buffers.specs.Ranges.{range, replace}
use Rattle.units.specs.Units.{to_bytes}
use Rattle.session.specs.declared.Session.{Session}
use Rattle.session.specs.Machine.{Machine}
use Rattle.session.specs.Record.{clean}
use Rattle.soundness.specs.Soundness.{sound}
use Rattle.flush.specs.declared.window.StepError.{StepError}
use Rattle.flush.specs.declared.window.StepError.TheVariants.{Unsound, Suspended, Failed}
use Rattle.flush.specs.declared.window.Flush.{Flush}
use Rattle.flush.specs.Actions.{Action, flush_actions, perform_all}
use Rattle.flush.specs.Worn.{until_failure, some_fail, marks_behind, marks_kept}

-- the actions of the session's window; without a write window a sound session has no marks
abbrev pub window_actions : Session → List Action
window_actions s = flush_actions s.marks

-- "window (.. first flash block, size)": its part of the flash, and where that ends
abbrev pub window_part : Session → List ℕ → List ℕ
window_part s flash = range (to_bytes s.first) (to_bytes s.size) flash

abbrev pub part_end : Session → ℕ
part_end s = to_bytes s.first + to_bytes s.size

-- the flash after some actions in the window's part
unfoldable pub perform_in : Session → List ℕ → List Action → List ℕ → List ℕ
perform_in s memory actions flash = replace (to_bytes s.first) (perform_all memory actions (window_part s flash)) flash

-- the window's part of the map of worn blocks
abbrev pub window_worn : Session → List ℕ → List ℕ
window_worn s worn = range s.first s.size worn

-- "A flush stops at the first failure" (02, Ticket 8): the actions that are done, and whether one fails
abbrev pub done_actions : Machine → List Action
done_actions m = until_failure (window_worn m.session m.worn) (window_actions m.session)

abbrev pub flush_fails : Machine → Bool
flush_fails m = some_fail (window_worn m.session m.worn) (window_actions m.session)

-- of these there is one after the first so many, and the flash after it; past the end, and from the failed erase on, "nothing changes"
abbrev pub has_next : Machine → ℕ → Bool
has_next m done = ltb done (length (done_actions m))

abbrev pub perform_next : Machine → ℕ → List ℕ
perform_next m done = perform_in m.session m.memory (take 1 (drop done (done_actions m))) m.flash

-- "It answers 4 .., then 6 when suspended, and changes nothing; otherwise 1", and "3 from that erase on" (02, Ticket 8): the number of each answer
abbrev pub step_code : Result Bool StepError → ℕ
step_code (Ok acted) = 1
step_code (Err Unsound) = 4
step_code (Err Suspended) = 6
step_code (Err Failed) = 3

-- "with yes if it did an action and no past the end"; a step that is refused, or whose erase fails, did none
abbrev pub step_yes : Result Bool StepError → Bool
step_yes (Ok acted) = acted
step_yes (Err e) = false

-- the code of a step, its yes or no, and the flash after it
pub record Advanced : Type 0 where
  pub code : ℕ
  pub yes : Bool
  pub flash : List ℕ

-- as the code has them
abbrev pub stepped : Result Bool StepError → List ℕ → Advanced
stepped step flash = record { code = step_code step; yes = step_yes step; flash = flash }

-- the flush advanced by one action, "from the session, both buffers and the number of actions already done", and the map: B is not among these, so
-- of "what the table calls SYSTEM_ERROR" the sizes and the session are looked at
unfoldable pub advanced : Machine → ℕ → Advanced
advanced m done =
    cond (sound (length m.flash) (length m.worn) (length m.memory) m.session)
    (cond m.session.suspended
    (record { code = 6; yes = false; flash = m.flash })
    (record { code = cond (not (has_next m done) && flush_fails m) 3 1; yes = has_next m done; flash = perform_next m done }))
    (record { code = 4; yes = false; flash = m.flash })

-- the number of actions, whether an erase failed, the marks that are left, and the flash after the actions
pub record Flushed : Type 0 where
  pub actions : ℕ
  pub failed : Bool
  pub marks : List ℕ
  pub flash : List ℕ

-- as the code has them: from the window's block whose erase failed, if one did, and the marks before the flush. A number that no block has is none
abbrev pub left_marks : Option ℕ → List ℕ → List ℕ
left_marks None marks = clean
left_marks (Some block) marks = cond (ltb block 64) (marks_behind block marks) clean

abbrev pub flush_left : Session → Flush → List ℕ → Flushed
flush_left s f flash =
    record { actions = f.actions; failed = is_some f.failed; marks = left_marks f.failed s.marks; flash = flash }

-- all actions of a sound session's window, suspended or not, up to the first that fails: "The action count leaves out the failed erase" (02, Ticket
-- 8). Where none fails no mark is left. Of any other session nothing is done, and its marks are not told (house: a command that flushes has passed the table)
unfoldable pub flush_whole : Machine → Flushed
flush_whole m =
    cond (sound (length m.flash) (length m.worn) (length m.memory) m.session)
    (record {
      actions = length (done_actions m);
      failed = flush_fails m;
      marks = cond (flush_fails m) (marks_kept (window_worn m.session m.worn) m.session.marks) clean;
      flash = perform_in m.session m.memory (done_actions m) m.flash;
    })
    (record { actions = 0; failed = false; marks = clean; flash = m.flash })
