-- The boxes of the charts: what the host sees of any port, and which way each box goes then.
use mathlib.Core.Path.{◌≡◌, refl, ap, ◌∙◌}
use mathlib.Core.Bool.{Bool, true, false, cond}
use Prim.Native.Nat.{ℕ, ◌+◌, ◌*◌, ◌/◌, ◌%◌}
use native.Mathlib.Omega.{arith}
use lib.Dec.{eqb}
use Rattle.kcs.specs.Port.{Port, phase_of, state_bits, is_set}
use Rattle.kcs.specs.Accesses.{status_read}
use Rattle.kcshost.specs.Runs.{read_data}
use Rattle.kcshost.specs.Host.{state_seen, ibf_seen, obf_seen, waits, error_exit, Transfer, Chart, leaves, does, wait_ibf, wait_obf, clear_obf, expect, if_reading}

-- ---- the status register, read bit by bit

module _ (state : ℕ) where
  abbrev register : Bool → Bool → ℕ
  register command full = state * 64 + (cond command 8 0 + cond full 1 0)

  state_of : (command full : Bool) → register command full / 64 ≡ state
  state_of true true = omega arith
  state_of true false = omega arith
  state_of false true = omega arith
  state_of false false = omega arith

  command_of_lem : (command full : Bool) → register command full / 8 % 2 ≡ cond command 1 0
  command_of_lem true true = omega arith
  command_of_lem true false = omega arith
  command_of_lem false true = omega arith
  command_of_lem false false = omega arith

  full_of : (command full : Bool) → register command full % 2 ≡ cond full 1 0
  full_of true true = omega arith
  full_of true false = omega arith
  full_of false true = omega arith
  full_of false false = omega arith

  others_of : (command full : Bool) → (register command full / 2 % 2 ≡ 0) × (register command full / 4 % 2 ≡ 0) × (register command full / 16 % 4 ≡ 0)
  others_of true true = (omega arith, omega arith, omega arith)
  others_of true false = (omega arith, omega arith, omega arith)
  others_of false true = (omega arith, omega arith, omega arith)
  others_of false false = (omega arith, omega arith, omega arith)

same_bit : (t : Bool) → eqb (cond t 1 0) 1 ≡ t
same_bit true = refl
same_bit false = refl

module _ (p : Port) where
  pub state_seen_lem : state_seen (status_read p) ≡ state_bits (phase_of p.control.phase)
  state_seen_lem = state_of (state_bits (phase_of p.control.phase)) (is_set p.control.command) (is_set p.control.full)

  pub command_seen : status_read p / 8 % 2 ≡ cond (is_set p.control.command) 1 0
  command_seen = command_of_lem (state_bits (phase_of p.control.phase)) (is_set p.control.command) (is_set p.control.full)

  pub obf_seen_lem : obf_seen (status_read p) ≡ is_set p.control.full
  obf_seen_lem =
      ap (λ (n : ℕ). eqb n 1) (full_of (state_bits (phase_of p.control.phase)) (is_set p.control.command) (is_set p.control.full))
      ∙ same_bit (is_set p.control.full)

  pub others_seen : (status_read p / 2 % 2 ≡ 0) × (status_read p / 4 % 2 ≡ 0) × (status_read p / 16 % 4 ≡ 0)
  others_seen = others_of (state_bits (phase_of p.control.phase)) (is_set p.control.command) (is_set p.control.full)

  pub ibf_seen_lem : ibf_seen (status_read p) ≡ false
  ibf_seen_lem = ap (λ (n : ℕ). eqb n 1) others_seen.0

-- ---- the boxes

pick : (t : Bool) (x y : Transfer) → t ≡ true → cond t x y ≡ x
pick t x y e = ap (λ (u : Bool). cond u x y) e

pass : (t : Bool) (x y : Transfer) → t ≡ false → cond t x y ≡ y
pass t x y e = ap (λ (u : Bool). cond u x y) e

module _ (next : Chart) (t : Transfer) where
  pub no_wait : wait_ibf next t ≡ next t
  no_wait = pass (ibf_seen (status_read t.port)) _ _ (ibf_seen_lem t.port)

  pub as_expected : (state : ℕ) → eqb (state_bits (phase_of t.port.control.phase)) state ≡ true → expect state next t ≡ next t
  as_expected state e = pick (eqb (state_seen (status_read t.port)) state) _ _ (ap (λ (n : ℕ). eqb n state) (state_seen_lem t.port) ∙ e)

  pub unexpected : (state : ℕ) → eqb (state_bits (phase_of t.port.control.phase)) state ≡ false → expect state next t ≡ leaves error_exit t
  unexpected state e = pass (eqb (state_seen (status_read t.port)) state) _ _ (ap (λ (n : ℕ). eqb n state) (state_seen_lem t.port) ∙ e)

  pub cleared : is_set t.port.control.full ≡ true → clear_obf next t ≡ does read_data next t
  cleared e = pick (obf_seen (status_read t.port)) _ _ (obf_seen_lem t.port ∙ e)

  pub is_clear : is_set t.port.control.full ≡ false → clear_obf next t ≡ next t
  is_clear e = pass (obf_seen (status_read t.port)) _ _ (obf_seen_lem t.port ∙ e)

  pub no_longer_waits : is_set t.port.control.full ≡ true → wait_obf next t ≡ next t
  no_longer_waits e = pick (obf_seen (status_read t.port)) _ _ (obf_seen_lem t.port ∙ e)

  pub still_waits : is_set t.port.control.full ≡ false → wait_obf next t ≡ leaves waits t
  still_waits e = pass (obf_seen (status_read t.port)) _ _ (obf_seen_lem t.port ∙ e)

module _ (next other : Chart) (t : Transfer) where
  pub reads : eqb (state_bits (phase_of t.port.control.phase)) 1 ≡ true → if_reading next other t ≡ next t
  reads e = pick (eqb (state_seen (status_read t.port)) 1) _ _ (ap (λ (n : ℕ). eqb n 1) (state_seen_lem t.port) ∙ e)

  pub reads_no_more : eqb (state_bits (phase_of t.port.control.phase)) 1 ≡ false → if_reading next other t ≡ other t
  reads_no_more e = pass (eqb (state_seen (status_read t.port)) 1) _ _ (ap (λ (n : ℕ). eqb n 1) (state_seen_lem t.port) ∙ e)
