-- The records from this offset on are still to be run.
use Rattle.std.proofs.Common.{◌-◌, ◌*◌, ◌≤◌, ◌≡◌, length}
use Rattle.session.specs.Machine.{lent}
use Rattle.script.specs.Effects.{none_worn}
use Rattle.transcript.proofs.Turns.{Going}
use Rattle.transcript.proofs.run_records.Given as goal

abbrev pub invariant-loop-at : goal.invariant-loop-at
invariant-loop-at l =
    (l.printed.end ≤ 48 * l.at) × (l.printed.end ≤ 48 * length l.input)
    × (length l.flash ≡ length l.initial.flash) × (length l.memory ≡ length l.initial.memory)
    × Going l.input l.initial.flash l.initial.memory l.initial.printed l.at (lent l.session l.flash none_worn l.memory) l.printed

abbrev pub decreases-loop-at : goal.decreases-loop-at
decreases-loop-at l = length l.input - l.at
