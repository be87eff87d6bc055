-- Runs of calls with messages among them: what is said of any run of calls (crate invariants) holds of these. Proved in proofs/Runs.antt.
use Rattle.std.specs.Prelude.{Err, ℕ, ◌≡◌, true, List, [], ◌∷◌, ◌++◌}
use Rattle.session.specs.Machine.{Setup, Machine}
use Rattle.soundness.specs.Soundness.{sound_in}
use Rattle.messages.specs.declared.Pair.{Pair}
use Rattle.messages.specs.declared.Refusal.TheVariants.{Short, Foreign, Malformed}
use Rattle.messages.specs.Messages.{Taken, Command, taken_as, registers_of}
use Rattle.mailbox.specs.Runs.{Call, send, called, called_all}
use Rattle.ipmi.specs.Served.{served}
use Rattle.transports.specs.Same.{completion_in}

-- a call, or a message of any bytes, for any pair
pub data Input : Type 0 where
  call : Call → Input
  message : Pair → List ℕ → Input

-- what it leaves
abbrev pub left : Setup → Input → Machine → Machine
left setup (call c) m = called setup c m
left setup (message pair bytes) m = (served setup pair bytes m).machine

-- and a list of them: "every call gets what the one before left" (document 00, demand 3)
abbrev pub left_all : Setup → List Input → Machine → Machine
left_all setup [] m = m
left_all setup (input ∷ inputs) m = left_all setup inputs (left setup input m)

-- the calls that a list of inputs stands for: a message that is refused stands for none, another for the command that it is unpacked to
abbrev pub sent_for : Taken → ℕ → List ℕ → List Call
sent_for (Err Short) version bytes = []
sent_for (Err Foreign) version bytes = []
sent_for (Err Malformed) version bytes = []
sent_for Command version bytes = send (registers_of version bytes) ∷ []

abbrev pub calls_for : Input → Machine → List Call
calls_for (call c) m = c ∷ []
calls_for (message pair bytes) m = sent_for (taken_as pair m.session.version bytes) m.session.version bytes

abbrev pub calls_of : Setup → List Input → Machine → List Call
calls_of setup [] m = []
calls_of setup (input ∷ inputs) m = calls_for input m ++ calls_of setup inputs (left setup input m)

-- the claim
abbrev pub InputsAreCalls : Type 0
InputsAreCalls = (setup : Setup) (inputs : List Input) (m : Machine) → left_all setup inputs m ≡ called_all setup (calls_of setup inputs m) m

-- so whatever holds after every run of calls holds after every run with messages: the lengths of both buffers and of the map, the event bits that no call changes,
-- the kept numbers of marks, that a sound session stays sound
abbrev pub EveryInput : Type 1
EveryInput =
    (P : Machine → Type 0) (setup : Setup) (m : Machine) → ((calls : List Call) → P (called_all setup calls m))
    → (inputs : List Input) → P (left_all setup inputs m)

-- the last of these, and what follows for a message: none is ever answered with 80 hex + 4, SYSTEM_ERROR, for what the calls and messages before it left
abbrev pub InputsKeep : Type 0
InputsKeep =
    (setup : Setup) (inputs : List Input) (m : Machine) → sound_in setup m ≡ true
    → (sound_in setup (left_all setup inputs m) ≡ true)
    × ((pair : Pair) (bytes : List ℕ) → completion_in (served setup pair bytes (left_all setup inputs m)).response ≡ 0x84 → ⊥)
