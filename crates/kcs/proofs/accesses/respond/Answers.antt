use Rattle.std.proofs.Common.{length, get_or, refl, sym, ap, ◌∙◌}
use Rattle.kcs.specs.Port.{Port, reading}
use Rattle.kcs.specs.Effects.{showing, with_place}
use Rattle.kcs.specs.Accesses.{with_control}
use Rattle.kcs.specs.Bytes.{control_of, port_of, bytes_of}
use Rattle.kcs.proofs.RoundTrip.{bytes_back}
use Rattle.kcs.proofs.Places.{response_put}
use Rattle.kcs.proofs.Taking.{taken_short}
use Rattle.kcs.proofs.accesses.respond.Goals as goal

pub returns-then-not-is_taken : goal.returns-then-not-is_taken
returns-then-not-is_taken c =
    let refused = sym c.is_taken.ensures ∙ c.if-not-is_taken.true in
    rw refused (sym (bytes_back c.args.port.now c.told-port), refl)

pub returns : goal.returns
returns c =
    let xs = c.args.port.now in
    let ys = c.args.response.now in
    let n = length ys in
    let taken = sym c.is_taken.ensures ∙ c.if-not-is_taken.false in
    let placed = ap port_of c.put_response.ensures ∙ response_put ys xs c.told-port (taken_short n (control_of xs) taken) in
    let offered = c.offer.ensures
    ∙ ap (λ (p : Port). bytes_of (with_control (showing reading (get_or ys 0 0) (with_place 1 n p.control)) p)) placed in
    rw (taken, sym c.is_empty.ensures ∙ c.if-is_empty.false) (offered, refl)
