-- The values from place i on are still to be read.
use Rattle.std.proofs.Common.{◌≡◌, ◌-◌, replicate}
use Rattle.records.specs.Records.{values_at}
use Rattle.records.proofs.values_at.Given as goal

abbrev pub invariant-loop-i : goal.invariant-loop-i
invariant-loop-i l =
    values_at l.bytes (l.count - l.i) l.i l.registers l.next ≡ values_at l.bytes l.count 0 (replicate 16 0) l.start
