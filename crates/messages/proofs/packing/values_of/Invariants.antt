-- The values before this place are the registers behind the second, as far as there are so many, and the others 0.
use Rattle.std.proofs.Common.{◌≡◌, ◌+◌, ◌<◌, ◌&&◌, ℕ, cond, ltb, length, get_or}
use Rattle.messages.proofs.packing.values_of.Given as goal

abbrev pub invariant-loop-place : goal.invariant-loop-place
invariant-loop-place l =
    (length l.values ≡ 11)
    × ((k : ℕ) → k < 11 → get_or l.values k 0 ≡ cond (ltb k l.place && ltb k l.count) (get_or l.registers (2 + k) 0) 0)
