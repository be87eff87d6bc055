-- What every command makes of the window memory: the claim stands in specs/Memory.antt.
use Rattle.std.proofs.Common.{◌≡◌, refl, List, ℕ}
use Rattle.session.specs.Machine.{Setup, Machine, holding}
use Rattle.registers.specs.Registers.{command_of}
use Rattle.mailbox.specs.Commands.{Outcome, numbered, numbered_in, flushing}
use Rattle.mailbox.specs.Table.{Command}
use Rattle.mailbox.specs.Mediator.{command_at, reason_in, mediate}
use Rattle.mailbox.proofs.Ends.{close_ends, flush_ends}
use Rattle.mailbox.proofs.Mediating.{each_command, each_answer}
use Rattle.invariants.specs.Memory.{MemoryStays}
use Rattle.refusals.specs.Refusals.{Accepted}

module _ (setup : Setup) (registers : List ℕ) (m : Machine) where
  -- what is to be shown of an outcome
  abbrev Stays : Outcome → Type 0
  Stays o = o.machine.memory ≡ m.memory

  -- a command that no check refused, by its row
  served : (n : ℕ) → (n ≡ 4 → ⊥) → (n ≡ 6 → ⊥) → (n ≡ 10 → ⊥) → ((command_at n).leaves setup registers (numbered_in registers m)).machine.memory ≡ m.memory
  served =
      each_command
      (λ (n : ℕ) (c : Command). (n ≡ 4 → ⊥) → (n ≡ 6 → ⊥) → (n ≡ 10 → ⊥) → (c.leaves setup registers (numbered_in registers m)).machine.memory ≡ m.memory)
      (λ _ _ _. refl) (λ _ _ _. refl) (λ _ _ _. refl) (λ a _ _. absurd (a refl)) (λ _ _ _. close_ends Stays registers (numbered_in registers m) (λ _. refl) (λ _. refl))
      (λ _ b _. absurd (b refl)) (λ _ _ _. refl)
      (λ _ _ _. flush_ends Stays registers (holding (flushing (numbered m.session registers) registers) m) (λ _. refl) (λ _. refl))
      (λ _ _ _. refl) (λ _ _ c. absurd (c refl)) (λ _ _ _ _. refl)

  -- and one that is refused for its argument
  broken : (code n : ℕ) → ((command_at n).when_broken code registers (numbered_in registers m)).machine.memory ≡ m.memory
  broken code =
      each_command (λ (_ : ℕ) (c : Command). (c.when_broken code registers (numbered_in registers m)).machine.memory ≡ m.memory)
      refl refl refl refl refl refl refl refl refl refl (λ _. refl)

  stays : (reason_in setup registers m ≡ Accepted → ((command_at (command_of registers)).leaves setup registers (numbered_in registers m)).machine.memory ≡ m.memory)
      → (mediate setup registers m).machine.memory ≡ m.memory
  stays served =
      each_answer (λ (o : Outcome). o.machine.memory ≡ m.memory) setup registers m served (λ code. broken code (command_of registers)) (λ _. refl) (λ _. refl)

pub memory_stays : MemoryStays
memory_stays setup registers m = (
  λ a b c. stays setup registers m (λ _. served setup registers m (command_of registers) a b c),
  λ refused. stays setup registers m (λ accepted. absurd (refused accepted)),
)
