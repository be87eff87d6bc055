-- What every command makes of the window memory: document 01, "Commands". Proved in proofs/Memory.antt.
use Rattle.std.specs.Prelude.{◌≡◌, true, List, ◌++◌, ℕ, length, drop}
use Rattle.units.specs.Units.{to_bytes}
use Rattle.buffers.specs.Ranges.{range}
use Rattle.session.specs.Machine.{Setup, Machine}
use Rattle.registers.specs.Registers.{command_of}
use Rattle.mailbox.specs.Mediator.{reason_in, mediate, response}
use Rattle.invariants.specs.Codes.{is_create}
use Rattle.refusals.specs.Refusals.{Accepted}

-- "Bytes of window memory that no rule names stay": only a create (4, 6) and ERASE (10) name any, and no refusal does, on any session
abbrev pub MemoryStays : Type 0
MemoryStays =
    (setup : Setup) (registers : List ℕ) (m : Machine)
    → ((command_of registers ≡ 4 → ⊥) → (command_of registers ≡ 6 → ⊥) → (command_of registers ≡ 10 → ⊥)
    → (mediate setup registers m).machine.memory ≡ m.memory)
    × ((reason_in setup registers m ≡ Accepted → ⊥) → (mediate setup registers m).machine.memory ≡ m.memory)

-- a create (4, 6) that answers 1: "The flash blocks are copied to the front of window memory; the rest of it is unchanged", the flash as it is after the flush of the
-- old window, the blocks those of the new one; and one that answers 3 copies nothing (02, Ticket 8)
abbrev pub CreateCopies : Type 0
CreateCopies =
    (setup : Setup) (registers : List ℕ) (m : Machine) → is_create (command_of registers) ≡ true
    → (response setup registers m ≡ 1
    → let after = (mediate setup registers m).machine in
    after.memory ≡ range (to_bytes after.session.first) (to_bytes after.session.size) after.flash ++ drop (length (range (to_bytes after.session.first) (to_bytes after.session.size) after.flash)) m.memory)
    × (response setup registers m ≡ 3 → (mediate setup registers m).machine.memory ≡ m.memory)
