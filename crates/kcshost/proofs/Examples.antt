-- The worked examples hold, by computation.
use mathlib.Core.Path.{refl}
use Rattle.kcs.specs.Port.{fresh}
use Rattle.kcshost.specs.Examples.{ExamplesHold}

pub examples_hold : ExamplesHold
unfolding fresh
examples_hold = refl
