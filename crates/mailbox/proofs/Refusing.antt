-- What a refusal leaves.
use Rattle.std.proofs.Common.{◌≡◌, refl, sym, ap, List, ℕ, Err}
use Rattle.session.specs.Machine.{Setup, Machine}
use Rattle.refusals.specs.declared.Reason.TheVariants.{System, Repeated, Unknown, Suspended, Windowless, Argument}
use Rattle.refusals.specs.Refusals.{Checked, Accepted, code_for}
use Rattle.mailbox.specs.Commands.{Outcome, numbered_in, refused}
use Rattle.mailbox.specs.Table.{Command}
use Rattle.mailbox.specs.Mediator.{answer_to}

-- ---- a refusal after the first check makes the call's number the previous one
pub refused_as : (r : Checked) (c : Command) (setup : Setup) (registers : List ℕ) (m : Machine) → (r ≡ Accepted → ⊥) → (r ≡ Err System → ⊥)
    → (r ≡ Err Argument → c.when_broken ≡ refused)
    → refused (code_for m.session.version r) registers (numbered_in registers m) ≡ answer_to r c setup registers m
unfolding answer_to
refused_as Accepted c setup registers m a s b = absurd (a refl)
refused_as (Err System) c setup registers m a s b = absurd (s refl)
refused_as (Err Repeated) c setup registers m a s b = refl
refused_as (Err Unknown) c setup registers m a s b = refl
refused_as (Err Suspended) c setup registers m a s b = refl
refused_as (Err Windowless) c setup registers m a s b = refl
refused_as (Err Argument) c setup registers m a s b =
    ap (λ (f : ℕ → List ℕ → Machine → Outcome). f (code_for m.session.version (Err Argument)) registers (numbered_in registers m)) (sym (b refl))
