-- A message stays in the record until the next 61.
use mathlib.Core.Path.{◌≡◌, refl, sym, ap, subst, ◌∙◌}
use mathlib.Core.Bool.{true, false, not, false≢true}
use mathlib.Core.List.{List, [], ◌∷◌}
use Prim.Native.Nat.{ℕ}
use lib.Dec.{eqb}
use lib.ListN.{length}
use borrow.Author.Tests.{ne_eqb, not-true}
use Rattle.units.proofs.Cases.{chosen, both}
use Rattle.units.proofs.Keys.{has}
use Rattle.kcs.specs.Port.{Control, Port, phase_of}
use Rattle.kcs.specs.Effects.{Effect, on_data, has_room, has_next, data_effect, left, is_kept, with_command}
use Rattle.kcs.specs.Accesses.{command_written, data_written, answers, answered}
use Rattle.kcs.proofs.Phases.{each_phase, no_end}
use Rattle.kcshost.specs.Runs.{read_status, read_data, write_command, write_data, Step, access, answer, stepped, stepped_all}
use Rattle.kcshost.specs.History.{is_start, no_start, MessageStays}
use Rattle.kcshost.proofs.Messages.{by}

-- outside a write phase
abbrev Calm : ℕ → Type 0
Calm phase = has phase (1 ∷ 2 ∷ []) ≡ false

not_in : (n k : ℕ) → has k (1 ∷ 2 ∷ []) ≡ true → Calm n → n ≡ k → ⊥
not_in n k is calm e = false≢true (sym calm ∙ ap (λ (m : ℕ). has m (1 ∷ 2 ∷ [])) e ∙ is)

-- a step that is no 61 stays there, and leaves the request
Stays : Port → Port → Type 0
Stays p q = Calm q.control.phase × (q.request ≡ p.request)

commanded : (code : ℕ) (p : Port) → Calm p.control.phase → eqb code 0x61 ≡ false → Stays p (command_written code p)
unfolding Stays
commanded code p calm other =
    let c = with_command 1 p.control in
    let n = p.control.phase in
    let Fine : Effect → Type 0 = λ e. Calm (left e 0x00 c).phase in
    let end = subst Fine (sym (no_end n (not_in n 1 refl calm))) refl in
    (rw other (chosen Fine (eqb code 0x60) _ _ (λ _. refl) (λ _. chosen Fine (eqb code 0x62) _ _ (λ _. end) (λ _. refl))), refl)

module _ (byte : ℕ) (p : Port) (calm : Calm p.control.phase) where
  abbrev Fine : Effect → Type 0
  Fine e = Calm (by p byte e).control.phase × (is_kept e ≡ false)

  fine : Fine (data_effect byte p.control)
  fine =
      let n = p.control.phase in
      each_phase
      (λ q. Fine (on_data q (has_room p.control) (has_next p.control) byte))
      n
      (λ _. (refl, refl))
      (λ one. absurd (not_in n 1 refl calm one))
      (λ two. absurd (not_in n 2 refl calm two))
      (λ _. (refl, refl))
      (λ _. chosen Fine (eqb byte 0x68) _ _ (λ _. chosen Fine (has_next p.control) _ _ (λ _. (refl, refl)) (λ _. (refl, refl))) (λ _. (refl, refl)))
      (λ _. chosen Fine (eqb byte 0x00) _ _ (λ _. (refl, refl)) (λ _. (refl, refl)))
      (refl, refl)

  datum : Stays p (data_written byte p)
  unfolding Stays
  datum = (fine.0, rw fine.1)

answers_stay : (response : List ℕ) (p : Port) → Calm p.control.phase → Stays p (answered response p)
unfolding Stays
answers_stay response p calm =
    chosen
    (λ (q : Port). Calm q.control.phase × (q.request ≡ p.request))
    (answers response p)
    _
    _
    (λ _. (chosen (λ (c : Control). Calm c.phase) (eqb (length response) 0) _ _ (λ _. refl) (λ _. refl), refl))
    (λ _. (calm, refl))

step_stays : (step : Step) (p : Port) → Calm p.control.phase → is_start step ≡ false → Stays p (stepped step p)
unfolding Stays
step_stays (access read_status) p calm other = (calm, refl)
step_stays (access read_data) p calm other = (calm, refl)
step_stays (access (write_command code)) p calm other = commanded code p calm other
step_stays (access (write_data byte)) p calm other = datum byte p calm
step_stays (answer response) p calm other = answers_stay response p calm

all_stay : (steps : List Step) (p : Port) → Calm p.control.phase → no_start steps ≡ true → (stepped_all steps p).request ≡ p.request
unfolding Stays
all_stay [] p calm none = refl
all_stay (step ∷ rest) p calm none =
    let first = both (not (is_start step)) (no_start rest) none in
    let now = step_stays step p calm (not-true (is_start step) first.0) in
    all_stay rest (stepped step p) now.0 first.1 ∙ now.1

pub message_stays : MessageStays
message_stays steps p not_writing not_ending none =
    let n = p.control.phase in
    all_stay steps p (rw (ne_eqb n 1 (λ e. not_writing (ap phase_of e)), ne_eqb n 2 (λ e. not_ending (ap phase_of e)))) none
