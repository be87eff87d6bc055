-- What a refusal leaves: the claim stands in specs/Refused.antt.
use Rattle.std.proofs.Common.{◌≡◌, refl, sym, ap, ◌∙◌, Bool, true, cond, List, ⊎_elim, ℕ, Err}
use Rattle.units.proofs.Cases.{decided}
use Rattle.session.specs.Machine.{Setup, Machine}
use Rattle.refusals.specs.declared.Reason.TheVariants.{System, Argument}
use Rattle.registers.specs.Registers.{command_of}
use Rattle.mailbox.specs.Commands.{Outcome, numbered_in, refused, closing_first}
use Rattle.mailbox.specs.Mediator.{command_in, reason_in, answer_to, mediate}
use Rattle.mailbox.proofs.Mediating.{mediate_as}
use Rattle.mailbox.proofs.Refusing.{refused_as}
use Rattle.invariants.specs.Codes.{is_create}
use Rattle.invariants.specs.Refused.{refusal, RefusalsAsSaid}
use Rattle.invariants.proofs.Codes.{codes_as_said}

module _ (setup : Setup) (registers : List ℕ) (m : Machine) where
  system : reason_in setup registers m ≡ Err System → mediate setup registers m ≡ refusal 4 m.session registers m
  unfolding answer_to
  system e = mediate_as setup registers m (Err System) e

  -- a refusal for its argument
  broken_left : {creates : Bool} → is_create (command_of registers) ≡ creates → (command_in registers).when_broken ≡ cond creates closing_first refused
  broken_left e = (codes_as_said (command_of registers)).5 ∙ ap (λ (b : Bool). cond b closing_first refused) e

  broken_create : is_create (command_of registers) ≡ true → reason_in setup registers m ≡ Err Argument
      → mediate setup registers m ≡ closing_first 2 registers (numbered_in registers m)
  unfolding answer_to
  broken_create c e =
      mediate_as setup registers m (Err Argument) e ∙ ap (λ (f : ℕ → List ℕ → Machine → Outcome). f 2 registers (numbered_in registers m)) (broken_left c)

  broken_alone : (is_create (command_of registers) ≡ true → reason_in setup registers m ≡ Err Argument → ⊥) → reason_in setup registers m ≡ Err Argument
      → (command_in registers).when_broken ≡ refused
  broken_alone n e = ⊎_elim (λ c. absurd (n c e)) (λ c. broken_left c) (decided (is_create (command_of registers)))

pub refusals_as_said : RefusalsAsSaid
refusals_as_said setup registers m = (
  system setup registers m,
  broken_create setup registers m,
  λ a s n.
      mediate_as setup registers m (reason_in setup registers m) refl
      ∙ sym (refused_as (reason_in setup registers m) (command_in registers) setup registers m a s (broken_alone setup registers m n)),
)
