-- A sound session stays sound, call by call; Runs.antt has it of any list of calls, with the lengths of the buffers. Proved in proofs/Kept.antt.
use Rattle.std.specs.Prelude.{Err, ◌≡◌, true, List, ℕ, ◌+◌, ◌*◌, ◌≤◌, length}
use Rattle.units.specs.Units.{round_up}
use Rattle.session.specs.declared.Session.{Session}
use Rattle.session.specs.Machine.{Setup, Machine}
use Rattle.session.specs.Record.{fresh}
use Rattle.soundness.specs.Soundness.{sizes_sound, sound, sound_at, sound_in}
use Rattle.session.specs.Suspension.{suspended, resumed, resumed_changed}
use Rattle.refusals.specs.declared.Reason.TheVariants.{System}
use Rattle.refusals.specs.Refusals.{Accepted}
use Rattle.registers.specs.Registers.{command_of}
use Rattle.marklist.specs.MarkList.{listed_in}
use Rattle.mailbox.specs.Commands.{numbered, flushing}
use Rattle.mailbox.specs.Table.{flush}
use Rattle.mailbox.specs.Mediator.{reason_in, mediate}

-- "A fresh session" is sound wherever the sizes, the map's among them, and B are
abbrev pub FreshSound : Type 0
FreshSound =
    (setup : Setup) (flash worn memory : ℕ) → sizes_sound flash worn memory ≡ true → setup.lpc + round_up memory ≤ 65536
    → sound_at setup flash worn memory fresh ≡ true

-- that is, with the papers' numbers: "S .. is 1 to 65,535 blocks. C .. is 1 to 64 blocks", of 4,096 bytes each, a map of S bytes, and "B + C <= 65,536"
abbrev pub FreshAsSaid : Type 0
FreshAsSaid =
    (setup : Setup) (S C : ℕ) → 1 ≤ S → S ≤ 65535 → 1 ≤ C → C ≤ 64 → setup.lpc + C ≤ 65536 → sound_at setup (4096 * S) S (4096 * C) fresh ≡ true

-- any content of the registers, refused or not
abbrev pub CommandKeeps : Type 0
CommandKeeps =
    (setup : Setup) (registers : List ℕ) (m : Machine) → sound_in setup m ≡ true
    → sound_at setup (length m.flash) (length m.worn) (length m.memory) (mediate setup registers m).machine.session ≡ true

-- a list of marks in one call, refused or not (02, Ticket 4)
abbrev pub ListKeeps : Type 0
ListKeeps =
    (setup : Setup) (list : List ℕ) (m : Machine) → sound_in setup m ≡ true
    → sound_at setup (length m.flash) (length m.worn) (length m.memory) (listed_in setup list m).session ≡ true

-- suspend, resume, and "Resume 'with changed flash'"
abbrev pub AccessKeeps : Type 0
AccessKeeps =
    (setup : Setup) (flash worn memory : ℕ) (s : Session) → sound_at setup flash worn memory s ≡ true
    → (sound_at setup flash worn memory (suspended s).session ≡ true)
    × (sound_at setup flash worn memory (resumed s).session ≡ true)
    × (sound_at setup flash worn memory (resumed_changed s).session ≡ true)

-- what a command flushes is sound, so that the flush always does its actions, up to the first that fails: the window that a close or a create closes, a create also where it is then
-- refused for its argument, and that of an accepted FLUSH with its own marks
abbrev pub FlushSound : Type 0
FlushSound =
    (setup : Setup) (registers : List ℕ) (m : Machine) → (reason_in setup registers m ≡ Err System → ⊥)
    → (sound (length m.flash) (length m.worn) (length m.memory) (numbered m.session registers) ≡ true)
    × (command_of registers ≡ flush.code → reason_in setup registers m ≡ Accepted
    → sound (length m.flash) (length m.worn) (length m.memory) (flushing (numbered m.session registers) registers) ≡ true)
