use Rattle.std.proofs.Common.{ℕ, ◌+◌, List, get_or, set, refl, sym, ap, ◌∙◌, eq-eqb}
use Rattle.buffers.proofs.Replace.{range_at}
use Rattle.kcs.specs.Effects.{shown, with_place}
use Rattle.kcs.specs.Accesses.{with_control}
use Rattle.kcs.specs.Bytes.{control_of, port_of, bytes_of}
use Rattle.kcs.proofs.Taking.{next_inside}
use Rattle.kcs.proofs.Places.{after}
use Rattle.kcs.proofs.rows.read_on.Goals as goal

pub returns-then-has_next : goal.returns-then-has_next
returns-then-has_next c =
    let xs = c.args.port.now in
    let n = get_or xs 6 0 in
    let more = sym c.has_next.ensures ∙ c.if-has_next.true in
    let inside = next_inside (control_of xs) more in
    rw
    (eq-eqb c.args.byte 0x68 c.if-byte-ne104.false, more)
    (c.show.ensures
    ∙ after (shown 4 (get_or xs (72 + n) 0)) (λ (ys : List ℕ). set ys 6 (n + 1)) (λ k. with_place (n + 1) k.end k) (λ k t. refl) xs c.told-port
    ∙ ap (λ (b : ℕ). bytes_of (with_control (shown 4 b (with_place (n + 1) (get_or xs 7 0) (control_of xs))) (port_of xs))) (sym (range_at 72 64 xs n inside)))
