-- A response of 1 is that of a command that no check refused.
use Rattle.std.proofs.Common.{◌≡◌, refl, sym, ap, ◌∙◌, Bool, cond, List, ℕ, arith, ltb, get_or, Err}
use Rattle.units.proofs.Cases.{chosen}
use Rattle.session.specs.declared.Session.{Session}
use Rattle.session.specs.Machine.{Setup, lent}
use Rattle.flush.specs.Window.{flush_whole}
use Rattle.refusals.specs.declared.Reason.TheVariants.{System, Repeated, Unknown, Suspended, Windowless, Argument}
use Rattle.refusals.specs.Refusals.{Checked, Accepted}
use Rattle.registers.specs.Registers.{command_of}
use Rattle.mailbox.specs.Commands.{Outcome, numbered}
use Rattle.mailbox.specs.Table.{Command}
use Rattle.mailbox.specs.Mediator.{command_at, command_in, reason_in, answer_to, mediate}
use Rattle.mailbox.proofs.Mediating.{mediate_as, each_command}

-- a choice of two numbers, neither of which is a third, is not the third
pub neither : (c a b : ℕ) → (a ≡ c → ⊥) → (b ≡ c → ⊥) → (t : Bool) → cond t a b ≡ c → ⊥
neither c a b p q t = chosen (λ (n : ℕ). n ≡ c → ⊥) t a b (λ _. p) (λ _. q)

module _ (setup : Setup) (s : Session) (registers flash worn memory : List ℕ) where
  abbrev code : Outcome → ℕ
  code o = get_or o.registers 13 0

  -- a refusal for an argument has code 2, and that of a create 3 where an erase fails
  broken_code : (n : ℕ) → code ((command_at n).when_broken 2 registers (lent (numbered s registers) flash worn memory)) ≡ 1 → ⊥
  broken_code = each_command (λ (_ : ℕ) (c : Command). code (c.when_broken 2 registers (lent (numbered s registers) flash worn memory)) ≡ 1 → ⊥) two two two failed two failed two two two two (λ _. two)
    where
      two : ◌≡◌ {A = ℕ} 2 1 → ⊥
      two q = omega arith

      failed : ◌≡◌ {A = ℕ} (cond (flush_whole (lent (numbered s registers) flash worn memory)).failed 3 2) 1 → ⊥
      failed = neither 1 3 2 (λ q. omega arith) (λ q. omega arith) (flush_whole (lent (numbered s registers) flash worn memory)).failed

  refused_code : (r : Checked) → (r ≡ Accepted → ⊥) → code (answer_to r (command_in registers) setup registers (lent s flash worn memory)) ≡ 1 → ⊥
  unfolding answer_to
  refused_code Accepted n e = n refl
  refused_code (Err System) n e = omega arith
  refused_code (Err Repeated) n e = neither 1 2 8 (λ q. omega arith) (λ q. omega arith) (ltb s.version 2) e
  refused_code (Err Unknown) n e = omega arith
  refused_code (Err Suspended) n e = neither 1 5 6 (λ q. omega arith) (λ q. omega arith) (ltb s.version 2) e
  refused_code (Err Windowless) n e = neither 1 2 7 (λ q. omega arith) (λ q. omega arith) (ltb s.version 2) e
  refused_code (Err Argument) n e = broken_code (command_of registers) e

  pub accepted : code (mediate setup registers (lent s flash worn memory)) ≡ 1 → reason_in setup registers (lent s flash worn memory) ≡ Accepted
  accepted h = go (reason_in setup registers (lent s flash worn memory)) refl
    where
      no : (r : Checked) → reason_in setup registers (lent s flash worn memory) ≡ r → (r ≡ Accepted → ⊥) → ⊥
      no r e n = refused_code r n (ap code (sym (mediate_as setup registers (lent s flash worn memory) r e)) ∙ h)

      go : (r : Checked) → reason_in setup registers (lent s flash worn memory) ≡ r → reason_in setup registers (lent s flash worn memory) ≡ Accepted
      go Accepted e = e
      go (Err why) e = absurd (no (Err why) e (λ q. cc))
