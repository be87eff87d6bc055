-- The event byte, with the papers' own numbers: document 02, Ticket 1. Proved in proofs/Events.antt.
use Rattle.std.specs.Prelude.{Err, ◌≡◌, true, false, List, ℕ, ◌-◌, get_or}
use Rattle.std.specs.Int.Bits.{bit_and}
use Rattle.session.specs.Events.{is_set}
use Rattle.session.specs.Machine.{Setup, Machine}
use Rattle.soundness.specs.Soundness.{sound_in}
use Rattle.flush.specs.Window.{advanced}
use Rattle.refusals.specs.declared.Reason.TheVariants.{System}
use Rattle.refusals.specs.Refusals.{Accepted, is_previous}
use Rattle.registers.specs.Registers.{command_of, sequence_of, argument}
use Rattle.marklist.specs.MarkList.{list_code, listed_in}
use Rattle.mailbox.specs.Mediator.{reason_in, mediate}

-- the event byte after a command
abbrev pub events_after : Setup → List ℕ → Machine → ℕ
events_after setup registers m = (mediate setup registers m).machine.session.events

-- "ACK clears only 0x01 and 0x02": an ACK (9) with a new number, sent to a sound session, clears those of the two that argument 0 names, at every version
-- and while suspended; any other command, and any refusal, leaves the event byte as it is, of any session
abbrev pub EventsAsSaid : Type 0
EventsAsSaid =
    (setup : Setup) (registers : List ℕ) (m : Machine)
    → (command_of registers ≡ 9 → sound_in setup m ≡ true → is_previous m.session.previous (sequence_of registers) ≡ false
    → events_after setup registers m ≡ bit_and m.session.events (0xff - bit_and (argument 0 registers) 0x03))
    × ((command_of registers ≡ 9 → ⊥) → events_after setup registers m ≡ m.session.events)
    × ((reason_in setup registers m ≡ Accepted → ⊥) → events_after setup registers m ≡ m.session.events)

-- so no command, refused or not, sent to any session, sound or not, changes a bit other than 0x01 and 0x02: those of FC, which are the others, are the same
abbrev pub CommandEvents : Type 0
CommandEvents =
    (setup : Setup) (registers : List ℕ) (m : Machine) → bit_and (events_after setup registers m) 0xfc ≡ bit_and m.session.events 0xfc

-- and the host sees it: register 15 holds "the session's event byte after the command"
abbrev pub EventsShown : Type 0
EventsShown = (setup : Setup) (registers : List ℕ) (m : Machine) → get_or (mediate setup registers m).registers 15 0 ≡ events_after setup registers m

-- "bit 0x40 disagreeing with the suspension is SYSTEM_ERROR, first as before", whatever the command, and for a list of marks; a step "answers 4 .. and
-- changes nothing"
abbrev pub DisagreeingRefused : Type 0
DisagreeingRefused =
    (setup : Setup) (registers : List ℕ) (m : Machine) → (is_set 0x40 m.session.events ≡ m.session.suspended → ⊥)
    → (reason_in setup registers m ≡ Err System)
    × ((list : List ℕ) → list_code (listed_in setup list m).answer ≡ 4)
    × ((done : ℕ) → advanced m done ≡ record { code = 4; yes = false; flash = m.flash })
