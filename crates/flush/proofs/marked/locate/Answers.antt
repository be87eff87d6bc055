-- `flush::marked::locate`: a block that holds the action.
use Rattle.std.proofs.Common.{sym, arith}
use Rattle.flush.proofs.Lists.{nth_of_lem}
use Rattle.flush.proofs.marked.locate.Goals as goal

pub returns-then-left-count : goal.returns-then-left-count
returns-then-left-count c =
    let l = c.loop-i in
    let found = nth_of_lem c.args.marks l.i (omega arith) l.left (omega (arith, c.if-left-count.true, c.from-count.ensures, c.actions_of.ensures)) in
    rw (l.invariant, sym c.first_action.ensures) at found
