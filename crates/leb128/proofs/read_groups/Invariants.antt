-- The number behind the groups that are left is known.
use Rattle.std.proofs.Common.{◌≡◌, ◌+◌, ◌-◌, ◌^◌, ◌≤◌, ◌<◌, drop}
use Rattle.leb128.specs.Groups.{found, decode}
use Rattle.leb128.proofs.read_groups.Given as goal

abbrev pub invariant-loop-i : goal.invariant-loop-i
invariant-loop-i l =
    (l.at ≤ l.i) × (l.i ≤ l.last) × (l.value < 2 ^ 32) × (decode (drop l.i l.bytes) ≡ found l.value (l.last + 1 - l.i))
