use Rattle.std.proofs.Common.{refl, ℕ, List, set}
use Rattle.kcs.specs.Port.{number_of}
use Rattle.kcs.specs.Effects.{showing}
use Rattle.kcs.specs.Kinds.{phase_meant}
use Rattle.kcs.proofs.Places.{stored}
use Rattle.kcs.proofs.Phases.{number_stored}
use Rattle.kcs.proofs.rows.show.Goals as goal

pub returns : goal.returns
returns c =
    let a = c.args in
    rw (number_stored a.phase)
    (stored (λ (xs : List ℕ). set (set (set xs 0 (number_of (phase_meant a.phase))) 2 1) 3 a.byte) (showing (phase_meant a.phase) a.byte) (λ k t. refl) a.port.now c.told-port)
