-- The status that 60 tells, after any steps.
use mathlib.Core.Path.{◌≡◌, refl, sym, ap, ◌∙◌}
use mathlib.Core.Bool.{Bool, true, false, cond}
use mathlib.Core.List.{List, [], ◌∷◌}
use Prim.Native.Nat.{ℕ}
use native.Mathlib.Omega.{arith}
use lib.Dec.{eqb}
use lib.ListN.{length}
use borrow.Author.Tests.{eqb-true}
use Rattle.units.proofs.Cases.{chosen}
use Rattle.kcs.specs.Port.{Control, Port, phase_of, state_bits}
use Rattle.kcs.specs.Effects.{Effect, Opens, Closes, Aborts, Keeps, Completes, Tells, Continues, Finishes, WrongCode, TooLong, on_end, on_command, on_data, has_room, has_next, data_effect, left, with_command}
use Rattle.kcs.specs.Accesses.{command_written, next_byte, data_written, answers}
use Rattle.kcs.proofs.Phases.{each_phase}
use Rattle.kcshost.specs.Runs.{read_status, read_data, write_command, write_data, Step, access, answer, stepped, stepped_all}
use Rattle.kcshost.specs.History.{Mark, rested, passed, of_write, data_fault, mark_of, marks_of, named, StatusNamed}
use Rattle.kcshost.proofs.Boxes.{state_seen_lem}

-- what an effect must be told of its write: whether it is 61, and the status of its refusal
abbrev Told : Effect → Bool → ℕ → Type 0
Told Opens is_start status = is_start ≡ true
Told WrongCode is_start status = status ≡ 0x02
Told TooLong is_start status = status ≡ 0x06
Told Closes is_start status = is_start ≡ false
Told Aborts is_start status = is_start ≡ false
Told Keeps is_start status = is_start ≡ false
Told Completes is_start status = is_start ≡ false
Told Tells is_start status = is_start ≡ false
Told Continues is_start status = is_start ≡ false
Told Finishes is_start status = is_start ≡ false

-- the status after an effect is the named one
module _ (is_start : Bool) (status given : ℕ) (c : Control) (first : ℕ) (older : List Mark) (before : c.fault ≡ named first older) where
  abbrev Names : Effect → Type 0
  Names e = (left e given c).fault ≡ named first (of_write is_start status (state_bits (phase_of (left e given c).phase)) ∷ older)

  names : (e : Effect) → Told e is_start status → Names e
  names Opens t = rw t
  names WrongCode t = sym t
  names TooLong t = sym t
  names Closes t = rw t before
  names Aborts t = rw t before
  names Keeps t = rw t before
  names Completes t = rw t before
  names Tells t = rw t before
  names Continues t = rw t before
  names Finishes t = rw t

-- the two writes tell it

command_told : (phase code : ℕ) → Told (on_command (phase_of phase) code) (eqb code 0x61) 0x02
command_told phase code =
    chosen (λ e. Told e (eqb code 0x61) 0x02) (eqb code 0x60) _ _ (λ e. ap (λ (n : ℕ). eqb n 0x61) (eqb-true code 0x60 e)) (λ _.
    chosen (λ e. Told e (eqb code 0x61) 0x02) (eqb code 0x61) _ _ (λ e. e) (λ other.
    chosen (λ e. Told e (eqb code 0x61) 0x02) (eqb code 0x62) _ _
    (λ _. each_phase (λ q. Told (on_end q) (eqb code 0x61) 0x02) phase (λ _. refl) (λ _. other) (λ _. refl) (λ _. refl) (λ _. refl) (λ _. refl) refl)
    (λ _. refl)))

data_told : (phase : ℕ) (room more : Bool) (byte : ℕ) → Told (on_data (phase_of phase) room more byte) false (data_fault (phase_of phase))
data_told phase room more byte =
    each_phase
    (λ q. Told (on_data q room more byte) false (data_fault q))
    phase
    (λ _. refl)
    (λ _. chosen (λ e. Told e false 0x06) room _ _ (λ _. refl) (λ _. refl))
    (λ _. chosen (λ e. Told e false 0x06) room _ _ (λ _. refl) (λ _. refl))
    (λ _. refl)
    (λ _.
    chosen (λ e. Told e false 0x02) (eqb byte 0x68) _ _ (λ _. chosen (λ e. Told e false 0x02) more _ _ (λ _. refl) (λ _. refl)) (λ _. refl))
    (λ _. chosen (λ e. Told e false 0x02) (eqb byte 0x00) _ _ (λ _. refl) (λ _. refl))
    refl

-- ---- a step, and any list of them

either
    : (t : Bool) (x y : Port) (m n : Mark) (first : ℕ) (older : List Mark)
    → x.control.fault ≡ named first (m ∷ older) → y.control.fault ≡ named first (n ∷ older)
    → (cond t x y).control.fault ≡ named first (cond t m n ∷ older)
either true x y m n first older e f = e
either false x y m n first older e f = f

step_named
    : (step : Step) (p : Port) (first : ℕ) (older : List Mark) → p.control.fault ≡ named first older
    → (stepped step p).control.fault ≡ named first (mark_of step p ∷ older)
step_named (access read_status) p first older before = before
step_named (access read_data) p first older before = before
step_named (access (write_command code)) p first older before =
    names (eqb code 0x61) 0x02 0x00 (with_command 1 p.control) first older before (on_command (phase_of p.control.phase) code) (command_told p.control.phase code)
    ∙ sym (ap (λ (s : ℕ). named first (of_write (eqb code 0x61) 0x02 s ∷ older)) (state_seen_lem (command_written code p)))
step_named (access (write_data byte)) p first older before =
    let status = data_fault (phase_of p.control.phase) in
    names false status (next_byte p) (with_command 0 p.control) first older before (data_effect byte p.control) (data_told p.control.phase (has_room p.control) (has_next p.control) byte)
    ∙ sym (ap (λ (s : ℕ). named first (of_write false status s ∷ older)) (state_seen_lem (data_written byte p)))
step_named (answer []) p first older before = either (answers [] p) _ p rested passed first older refl before
step_named (answer (byte ∷ rest)) p first older before =
    chosen
    (λ (q : Port). q.control.fault ≡ named first older)
    (answers (byte ∷ rest) p)
    _
    _
    (λ _.
    chosen
    (λ (c : Control). c.fault ≡ named first older)
    (eqb (length (byte ∷ rest)) 0)
    _
    _
    (λ none. absurd (omega (arith, eqb-true (length (byte ∷ rest)) 0 none)))
    (λ _. before))
    (λ _. before)

pub status_named : StatusNamed
status_named steps p = after steps p [] refl
  where
    after
        : (steps : List Step) (q : Port) (older : List Mark) → q.control.fault ≡ named p.control.fault older
        → (stepped_all steps q).control.fault ≡ named p.control.fault (marks_of steps q older)
    after [] q older e = e
    after (step ∷ rest) q older e = after rest (stepped step q) (mark_of step q ∷ older) (step_named step q p.control.fault older e)
