-- `mailbox::call::Call::marked`: the blocks before this one have the mark, and the numbers are those of the marks.
use Rattle.std.proofs.Common.{◌≡◌, ◌-◌, length, replicate}
use Rattle.buffers.specs.Ranges.{replace}
use Rattle.session.specs.Marks.{counts_of}
use Rattle.mailbox.proofs.call.Call.marked.Given as goal

abbrev pub invariant-loop-at : goal.invariant-loop-at
invariant-loop-at l =
    (l.marks ≡ replace l.start (replicate (l.at - l.start) l.mark) l.initial.marks) × (l.counts ≡ counts_of l.marks) × (length l.marks ≡ 64)
