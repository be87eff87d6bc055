-- What a refusal leaves: document 01, below the table of "Registers". It is said of the machine and of each register, and not by the mediator's own `refused`;
-- the response codes are those of `code_for`, and what a create that is refused for its argument leaves is `closing_first`, which
-- `RefusedCreateAsSaid` says in other words. Proved in proofs/Refused.antt.
use Rattle.std.specs.Prelude.{Some, Err, ◌≡◌, true, List, [], ◌∷◌, ◌++◌, ℕ, get_or, replicate}
use Rattle.session.specs.declared.Session.{Session}
use Rattle.session.specs.Machine.{Setup, Machine, lent}
use Rattle.session.specs.Record.{with_previous}
use Rattle.refusals.specs.declared.Reason.TheVariants.{System, Argument}
use Rattle.refusals.specs.Refusals.{Accepted, code_for}
use Rattle.registers.specs.Registers.{command_of, sequence_of}
use Rattle.mailbox.specs.Commands.{Outcome, numbered_in, closing_first}
use Rattle.mailbox.specs.Mediator.{reason_in, mediate}
use Rattle.invariants.specs.Codes.{is_create}

-- a refusal with this code that leaves this session: "zero arguments", registers 0, 1 and 14 as received, 15 the event byte as it was; both buffers as they
-- were, and no chip action
abbrev pub refusal : ℕ → Session → List ℕ → Machine → Outcome
refusal code s registers m =
    record {
      machine = lent s m.flash m.worn m.memory;
      registers = command_of registers ∷ sequence_of registers ∷ (replicate 11 0 ++ (code ∷ get_or registers 14 0 ∷ m.session.events ∷ []));
      actions = 0;
    }

-- one that "changes nothing but the previous sequence number"
abbrev pub number_taken : ℕ → List ℕ → Machine → Outcome
number_taken code registers m = refusal code (with_previous (Some (sequence_of registers)) m.session) registers m

-- "A refusal has zero arguments and changes nothing but the previous sequence number, with two exceptions: SYSTEM_ERROR keeps even that, and a create refused
-- for its argument has already closed and flushed the old window", of every command: any content of the registers, any session and buffers
abbrev pub RefusalsAsSaid : Type 0
RefusalsAsSaid =
    (setup : Setup) (registers : List ℕ) (m : Machine)
    → (reason_in setup registers m ≡ Err System → mediate setup registers m ≡ refusal 4 m.session registers m)
    × (is_create (command_of registers) ≡ true → reason_in setup registers m ≡ Err Argument
    → mediate setup registers m ≡ closing_first 2 registers (numbered_in registers m))
    × ((reason_in setup registers m ≡ Accepted → ⊥) → (reason_in setup registers m ≡ Err System → ⊥)
    → (is_create (command_of registers) ≡ true → reason_in setup registers m ≡ Err Argument → ⊥)
    → mediate setup registers m ≡ number_taken (code_for m.session.version (reason_in setup registers m)) registers m)
