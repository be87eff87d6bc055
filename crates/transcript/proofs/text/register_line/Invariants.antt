-- The registers before place i are written.
use Rattle.std.proofs.Common.{◌≡◌}
use Rattle.transcript.proofs.Lines.{part_way}
use Rattle.transcript.proofs.text.register_line.Given as goal

abbrev pub invariant-loop-i : goal.invariant-loop-i
invariant-loop-i l = l.line ≡ part_way l.i l.byte-items
