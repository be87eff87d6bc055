-- It ends, since the number falls at each call.
use Rattle.leb128.proofs.+write_at.Given as goal

abbrev pub decreases-write_at : goal.decreases-write_at
decreases-write_at l = l.value
