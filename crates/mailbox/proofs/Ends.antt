-- A command that flushes, by whether an erase fails: what holds of both ends, each in its case, holds of what is left.
use Rattle.std.proofs.Common.{◌≡◌, ap, ◌∙◌, true, false, List, [], ◌∷◌, ◌++◌, ℕ, ◌+◌, arith, length, get_or, length-append, length-take, get_or-append-add}
use lib.ListN.{length-replicate}
use Rattle.units.proofs.Cases.{chosen}
use Rattle.session.specs.declared.Window.{Window}
use Rattle.session.specs.Machine.{Setup, Machine}
use Rattle.flush.specs.Window.{flush_whole}
use Rattle.registers.specs.Registers.{padded, reply}
use Rattle.mailbox.specs.Commands.{Outcome, create_arguments, closing, opened, opening, stopped, closed, flushed_through, flushed_all}

module _ (P : Outcome → Type 0) (registers : List ℕ) (m : Machine) where
  pub close_ends : ((flush_whole m).failed ≡ true → P (stopped registers m)) → ((flush_whole m).failed ≡ false → P (closing 1 registers m)) → P (closed registers m)
  close_ends = chosen P (flush_whole m).failed (stopped registers m) (closing 1 registers m)

  pub flush_ends : ((flush_whole m).failed ≡ true → P (stopped registers m)) → ((flush_whole m).failed ≡ false → P (flushed_through registers m)) → P (flushed_all registers m)
  flush_ends = chosen P (flush_whole m).failed (stopped registers m) (flushed_through registers m)

  pub open_ends : (window : Window) (o size : ℕ) (setup : Setup) → ((flush_whole m).failed ≡ true → P (closing 3 registers m))
      → ((flush_whole m).failed ≡ false → P (opened window o size setup registers m)) → P (opening window o size setup registers m)
  open_ends window o size setup = chosen P (flush_whole m).failed (closing 3 registers m) (opened window o size setup registers m)

-- ---- the response
-- the code that an outcome shows
abbrev pub code_of : Outcome → ℕ
code_of o = get_or o.registers 13 0

pub code_at : (registers : List ℕ) (code : ℕ) (arguments : List ℕ) (events : ℕ) → get_or (reply registers code (padded arguments) events) 13 0 ≡ code
code_at registers code arguments events =
    ap (λ (n : ℕ). get_or (padded arguments ++ (code ∷ get_or registers 14 0 ∷ events ∷ [])) n 0) place
    ∙ get_or-append-add (padded arguments) (code ∷ get_or registers 14 0 ∷ events ∷ []) 0 0
  where
    place : 11 ≡ length (padded arguments) + 0
    place = simp (length-take, length-append, length-replicate) (omega arith)

-- a create that opened its window
pub opened_code : (window : Window) (o size : ℕ) (setup : Setup) (registers : List ℕ) (m : Machine) → code_of (opened window o size setup registers m) ≡ 1
opened_code window o size setup registers m =
    code_at registers 1 (create_arguments m.session.version setup.lpc size o) m.session.events
