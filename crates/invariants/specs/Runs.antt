-- What a run of any calls keeps: commands with any registers, lists of marks in one call, suspends, resumes of both kinds, steps, host writes, what another
-- writes in the flash, and what the driver writes in its map of worn blocks. A single call is a run of one. Proved in proofs/Runs.antt.
use Rattle.std.specs.Prelude.{Err, ◌≡◌, true, List, ℕ, ◌+◌, ◌≤◌, length}
use Rattle.std.specs.Int.Bits.{bit_and}
use Rattle.units.specs.Units.{round_up}
use Rattle.session.specs.Events.{is_set}
use Rattle.session.specs.Machine.{Setup, Machine, lent}
use Rattle.session.specs.Record.{fresh}
use Rattle.soundness.specs.Soundness.{sizes_sound, sound_in}
use Rattle.flush.specs.Window.{advanced}
use Rattle.refusals.specs.declared.Reason.TheVariants.{System}
use Rattle.marklist.specs.MarkList.{list_code, listed_in}
use Rattle.mailbox.specs.Mediator.{reason_in}
use Rattle.mailbox.specs.Runs.{Call, called_all}

-- ---- on any session, sound or not

-- both buffers and the map are lent: they keep their lengths
abbrev pub RunLengths : Type 0
RunLengths =
    (setup : Setup) (calls : List Call) (m : Machine)
    → (length (called_all setup calls m).flash ≡ length m.flash) × (length (called_all setup calls m).memory ≡ length m.memory)
    × (length (called_all setup calls m).worn ≡ length m.worn)

-- no call changes an event bit other than 0x01, 0x02 and 0x40: those of BC, which are the others, are the same
abbrev pub RunEvents : Type 0
RunEvents =
    (setup : Setup) (calls : List Call) (m : Machine)
    → bit_and (called_all setup calls m).session.events 0xbc ≡ bit_and m.session.events 0xbc

-- ---- on a sound session

-- it stays sound
abbrev pub RunKeeps : Type 0
RunKeeps = (setup : Setup) (calls : List Call) (m : Machine) → sound_in setup m ≡ true → sound_in setup (called_all setup calls m) ≡ true

-- so that SYSTEM_ERROR to a command, and 4 to a list of marks or a step, never come from what the calls themselves leave
abbrev pub RunServed : Type 0
RunServed =
    (setup : Setup) (calls : List Call) (m : Machine) → sound_in setup m ≡ true
    → ((registers : List ℕ) → reason_in setup registers (called_all setup calls m) ≡ Err System → ⊥)
    × ((list : List ℕ) → list_code (listed_in setup list (called_all setup calls m)).answer ≡ 4 → ⊥)
    × ((done : ℕ) → (advanced (called_all setup calls m) done).code ≡ 4 → ⊥)

-- ---- from "a fresh session", wherever the sizes and B are sound

-- what the event byte tells: 0x40 "is set exactly while access is suspended", and 0x80, "daemon ready", is set
pub record EventsTell (m : Machine) : Type 0 where
  pub lost : is_set 0x40 m.session.events ≡ m.session.suspended
  pub ready : is_set 0x80 m.session.events ≡ true

abbrev pub RunFromFresh : Type 0
RunFromFresh =
    (setup : Setup) (flash worn memory : List ℕ) → sizes_sound (length flash) (length worn) (length memory) ≡ true → setup.lpc + round_up (length memory) ≤ 65536
    → (calls : List Call)
    → (sound_in setup (called_all setup calls (lent fresh flash worn memory)) ≡ true) × EventsTell (called_all setup calls (lent fresh flash worn memory))
