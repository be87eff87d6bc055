-- The bytes from place i on are still to be written.
use Rattle.std.proofs.Common.{◌≡◌, ◌+◌, length, drop}
use Rattle.transcript.specs.Printing.{written}
use Rattle.transcript.proofs.printing.Printed.put.Given as goal

abbrev pub invariant-loop-i : goal.invariant-loop-i
invariant-loop-i l =
    (written (l.at + l.i) (drop l.i l.part) l.self.text.now ≡ written l.at l.part l.initial.self.text.now)
    × (length l.self.text.now ≡ length l.initial.self.text.now) × (l.self.text.ghost_name ≡ l.initial.self.text.ghost_name)
