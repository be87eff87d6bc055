use Rattle.std.proofs.Common.{ℕ, set, ap, ◌∙◌, sym, cond, true}
use Rattle.kcs.specs.Port.{Port, Phase, aborting}
use Rattle.kcs.specs.Effects.{Keeps, Completes, TooLong, Tells, has_room, has_next, on_data}
use Rattle.kcs.specs.Accesses.{next_byte}
use Rattle.kcs.specs.Bytes.{control_of, port_of, bytes_of}
use Rattle.kcs.proofs.Phases.{kept_data}
use Rattle.kcs.proofs.Phases.{aborting_step}
use Rattle.kcs.proofs.Leaving.{data_left}
use Rattle.kcs.proofs.accesses.write_data.Goals as goal

pub returns-in-Aborting : goal.returns-in-Aborting
returns-in-Aborting c =
    let a = c.args in
    let xs = a.port.now in
    let p = port_of (set xs 1 0) in
    let step = aborting_step true (next_byte p) a.byte p in
    data_left (λ (q : Port). Tells) a.byte _ xs _ c.told-port
    (ap (λ (q : Phase). on_data q (has_room (control_of xs)) (has_next (control_of xs)) a.byte) (sym c.in-Aborting.ensures)
    ∙ ap (λ (n : ℕ). on_data aborting true true n) c.if-byte-eq0.true)
    (c.tell.ensures (next_byte p) ∙ ap bytes_of step.0)
    step.1

pub returns-in-Writing : goal.returns-in-Writing
returns-in-Writing c =
    let a = c.args in
    let xs = a.port.now in
    let now = control_of xs in
    let last = c.eq.result in
    data_left (λ (q : Port). cond (has_room q.control) (cond last Completes Keeps) TooLong) a.byte _ xs _ c.told-port
    (kept_data c.from-phase.result last now.phase (has_room now) (has_next now) a.byte c.in-Writing.is c.eq.ensures c.from-phase.ensures)
    (c.keep.ensures.0 (next_byte (port_of (set xs 1 0))))
    c.keep.ensures.1
