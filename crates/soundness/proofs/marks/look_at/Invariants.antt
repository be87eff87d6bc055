-- Of the marks before this one the largest, the end of the last marked block, and the numbers are known.
use Rattle.std.proofs.Common.{◌≡◌, ◌&&◌, leb, take}
use Rattle.session.specs.Marks.{counts_of}
use Rattle.soundness.specs.Soundness.{marks_sound}
use Rattle.soundness.proofs.marks.look_at.Given as goal

abbrev pub invariant-loop-block : goal.invariant-loop-block
invariant-loop-block l =
    (marks_sound l.markable (take l.block l.marks) ≡ (leb l.largest 2 && leb l.end l.markable)) × (l.counts ≡ counts_of (take l.block l.marks))
