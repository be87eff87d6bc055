-- `transcript::text::count_written`: the bytes from the next place on are still to be counted.
use Rattle.std.proofs.Common.{◌≡◌, ◌+◌, ◌≤◌, drop}
use Rattle.transcript.specs.Text.{other_than_ff}
use Rattle.transcript.proofs.text.count_written.Given as goal

abbrev pub invariant-loop-byte : goal.invariant-loop-byte
invariant-loop-byte l = (l.count ≤ l.byte-index) × (l.count + other_than_ff (drop l.byte-index l.part) ≡ other_than_ff l.part)
