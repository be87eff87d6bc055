-- A run with messages is a run of calls: the claims stand in specs/Runs.antt.
use Rattle.std.proofs.Common.{◌≡◌, refl, sym, ap, subst, ◌∙◌, true, List, [], ◌∷◌, ℕ, Err}
use Rattle.session.specs.Machine.{Setup, Machine}
use Rattle.soundness.specs.Soundness.{sound_in}
use Rattle.messages.specs.declared.Refusal.TheVariants.{Short, Foreign, Malformed}
use Rattle.messages.specs.Messages.{Taken, Command, taken_as, registers_of}
use Rattle.mailbox.specs.Runs.{called_all}
use Rattle.ipmi.specs.Served.{Served, served_as}
use Rattle.ipmi.proofs.Serving.{served_as_lem}
use Rattle.invariants.proofs.Runs.{run_keeps, run_served}
use Rattle.transports.specs.Same.{completion_in}
use Rattle.transports.specs.Runs.{Input, call, message, left, left_all, sent_for, calls_for, calls_of, InputsAreCalls, EveryInput, InputsKeep}
use Rattle.recovery.proofs.Recipe.{append_called}
use Rattle.transports.proofs.Statuses.{completed_system}

-- what a message leaves, by what became of it
taken_called : (t : Taken) (setup : Setup) (bytes : List ℕ) (m : Machine)
    → (served_as t setup bytes m).machine ≡ called_all setup (sent_for t m.session.version bytes) m
taken_called (Err Short) setup bytes m = refl
taken_called (Err Foreign) setup bytes m = refl
taken_called (Err Malformed) setup bytes m = refl
taken_called Command setup bytes m = refl

input_called : (setup : Setup) (input : Input) (m : Machine) → left setup input m ≡ called_all setup (calls_for input m) m
input_called setup (call c) m = refl
input_called setup (message pair bytes) m =
    let t = taken_as pair m.session.version bytes in
    ap (λ (s : Served). s.machine) (sym (served_as_lem setup pair bytes m t refl)) ∙ taken_called t setup bytes m

pub inputs_are_calls : InputsAreCalls
inputs_are_calls setup [] m = refl
inputs_are_calls setup (input ∷ inputs) m =
    let rest = calls_of setup inputs (left setup input m) in
    inputs_are_calls setup inputs (left setup input m)
    ∙ ap (called_all setup rest) (input_called setup input m)
    ∙ sym (append_called setup (calls_for input m) rest m)

pub every_input : EveryInput
every_input P setup m h inputs = subst P (sym (inputs_are_calls setup inputs m)) (h (calls_of setup inputs m))

pub inputs_keep : InputsKeep
inputs_keep setup inputs m e =
    let n = left_all setup inputs m in
    let sounds = every_input (λ (k : Machine). sound_in setup k ≡ true) setup m (λ calls. run_keeps setup calls m e) inputs in (
      sounds,
      λ pair bytes q.
          let t = taken_as pair n.session.version bytes in
          let as-served = ap (λ (s : Served). completion_in s.response) (served_as_lem setup pair bytes n t refl) in
          (run_served setup [] n sounds).0 (registers_of n.session.version bytes) (completed_system t setup bytes n (as-served ∙ q)),
    )
