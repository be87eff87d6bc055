-- The registers before this place are the message's bytes, 0 past its end, and the others 0.
use Rattle.std.proofs.Common.{◌≡◌, ◌+◌, ◌<◌, ℕ, cond, ltb, length, get_or}
use Rattle.messages.proofs.taking.unpack.Given as goal

abbrev pub invariant-loop-place : goal.invariant-loop-place
invariant-loop-place l =
    (length l.registers ≡ 16) × ((k : ℕ) → k < 16 → get_or l.registers k 0 ≡ cond (ltb k l.place) (get_or l.message (k + 2) 0) 0)
