-- Both buffers keep their 64 bytes.
use mathlib.Core.Path.{◌≡◌, ◌∙◌}
use mathlib.Core.List.{List, [], ◌∷◌}
use Prim.Native.Nat.{ℕ}
use native.Mathlib.Omega.{arith}
use lib.ListN.{length}
use Rattle.units.proofs.Cases.{chosen}
use Rattle.buffers.proofs.Replace.{replace_length}
use Rattle.kcs.specs.Port.{Port}
use Rattle.kcs.specs.Effects.{data_effect, is_kept}
use Rattle.kcs.specs.Accesses.{answers}
use Rattle.kcs.proofs.Taking.{kept_inside, taken_short}
use Rattle.kcshost.specs.Runs.{read_status, read_data, write_command, write_data, Step, access, answer, stepped}
use Rattle.kcshost.specs.Rows.{Long, StaysLong}

step_long : (step : Step) (p : Port) → Long p → Long (stepped step p)
step_long (access read_status) p l = l
step_long (access read_data) p l = l
step_long (access (write_command code)) p l = l
step_long (access (write_data byte)) p l = (
  chosen
      (λ (xs : List ℕ). length xs ≡ 64)
      (is_kept (data_effect byte p.control))
      _
      _
      (λ kept. replace_length p.control.length (byte ∷ []) p.request (omega (arith, l.0, kept_inside byte p.control kept)) ∙ l.0)
      (λ _. l.0),
  l.1,
)
step_long (answer response) p l =
    chosen
    Long
    (answers response p)
    _
    _
    (λ taken. (l.0, replace_length 0 response p.response (omega (arith, l.1, taken_short (length response) p.control taken)) ∙ l.1))
    (λ _. l)

pub stays_long : StaysLong
stays_long [] p l = l
stays_long (step ∷ rest) p l = stays_long rest (stepped step p) (step_long step p l)
