-- The blocks before this one have their marks, and how far the pairs reach that begin there is known.
use Rattle.std.proofs.Common.{◌≡◌, ℕ, suc, ◌<◌, cond, ltb, length, get_or}
use Rattle.session.specs.Marks.{dirty}
use Rattle.marklist.specs.Reach.{farthest}
use Rattle.marklist.proofs.pairs.mark_reached.Given as goal

abbrev pub invariant-loop-at : goal.invariant-loop-at
invariant-loop-at l =
    (length l.next ≡ 64)
    × (l.reach ≡ farthest l.at l.ends)
    × ((block : ℕ) → block < l.at → get_or l.next block 0 ≡ cond (ltb block (farthest (suc block) l.ends)) dirty (get_or l.marks block 0))
