-- The counts from this block on are still to be put, and the end of the line.
use Rattle.std.proofs.Common.{◌+◌, ◌*◌, ◌≤◌}
use Rattle.transcript.proofs.FlashLine.{counts_left}
use Rattle.transcript.proofs.Written.{Left}
use Rattle.transcript.proofs.printing.Printed.put_flash.Given as goal

abbrev pub invariant-loop-block : goal.invariant-loop-block
invariant-loop-block l =
    (l.self.end ≤ l.initial.self.end + 21 * l.block) × Left l.initial.self (counts_left 0 l.flash) l.self (counts_left l.block l.flash)
