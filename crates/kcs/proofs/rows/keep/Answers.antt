use Rattle.std.proofs.Common.{◌≡◌, ℕ, ◌+◌, List, length, get_or, set, refl, ap, ◌∙◌, arith}
use borrow.Author.Tests.{lt-ltb}
use Rattle.kcs.specs.Port.{Port, awaiting}
use Rattle.kcs.specs.Effects.{shown, clearing}
use Rattle.kcs.specs.Accesses.{with_control}
use Rattle.kcs.specs.Bytes.{bytes_of}
use Rattle.kcs.proofs.Places.{stored, kept_port, kept_size}
use Rattle.kcs.proofs.rows.keep.Goals as goal

pub returns-then-not-last : goal.returns-then-not-last
returns-then-not-last c =
    let a = c.args in
    let xs = a.port.now in
    let n = get_or xs 5 0 in
    let kept = kept_port n (n + 1) a.byte xs c.told-port (omega arith) in
    rw
    (lt-ltb n 64 (omega arith), c.if-not-last.true)
    (λ given. c.show.ensures ∙ ap (λ (p : Port). bytes_of (with_control (shown 1 0x00 p.control) p)) kept, refl)

pub returns : goal.returns
returns c =
    let a = c.args in
    let xs = a.port.now in
    let n = get_or xs 5 0 in
    let kept = kept_port n (n + 1) a.byte xs c.told-port (omega arith) in
    let ys = set (set xs (8 + n) a.byte) 5 (n + 1) in
    let size : length ys ≡ 136 = kept_size xs (8 + n) (n + 1) a.byte ∙ c.told-port in
    rw
    (lt-ltb n 64 (omega arith), c.if-not-last.false) (
      λ given.
          stored (λ (zs : List ℕ). set (set (set zs 0 3) 2 0) 3 0) (clearing awaiting) (λ k t. refl) ys size
          ∙ ap (λ (p : Port). bytes_of (with_control (clearing awaiting p.control) p)) kept,
      refl,
    )
