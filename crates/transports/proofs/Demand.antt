-- Demand 3 with commands by message: a second run with messages is one of mailbox commands. The claim stands in specs/Demand.antt.
use Rattle.std.proofs.Common.{◌≡◌, refl, sym, ap, subst, ◌∙◌, true, false, List, [], ◌∷◌, ◌⊎◌, ℕ, ◌≤◌, length, get_or, Err}
use Rattle.units.specs.Units.{block_holding}
use Rattle.session.specs.declared.Session.{Session}
use Rattle.session.specs.Events.{control_lost, clear_bits}
use Rattle.session.specs.Machine.{Setup, Machine}
use Rattle.session.specs.Marks.{programs}
use Rattle.session.specs.Record.{with_access}
use Rattle.session.specs.Suspension.{resumed}
use Rattle.session.proofs.Answers.{either_way}
use Rattle.registers.specs.Registers.{command_of}
use Rattle.messages.specs.declared.Refusal.TheVariants.{Short, Foreign, Malformed}
use Rattle.messages.specs.Messages.{Taken, Command, hiomap_command_of, taken_as}
use Rattle.mailbox.specs.Table.{mark_dirty, erase}
use Rattle.mailbox.specs.Mediator.{response}
use Rattle.mailbox.specs.Runs.{Call, called_all}
use Rattle.ipmi.specs.Served.{Served, served_as}
use Rattle.ipmi.proofs.Serving.{served_as_lem}
use Rattle.recovery.specs.Cut.{cut}
use Rattle.recovery.specs.Second.{AllAllowed, StepsSucceed, begun, unstopped}
use Rattle.recovery.specs.Second as second
use Rattle.recovery.proofs.Demand.{demand_3}
use Rattle.recovery.proofs.Recipe.{append_allowed}
use Rattle.transports.specs.Same.{completion_in}
use Rattle.transports.specs.Runs.{Input, call, message, left, sent_for, calls_for, calls_of}
use Rattle.transports.specs.Demand.{Request, by_mailbox, by_message, code_of, registers_in, sent, Succeeds, Marks, AllMark, Way, by_steps, by_flush, FlushSucceeds, flash_after, AddsNone, agreeing, opening, SecondRun, second_end, Demand3ByMessage}
use Rattle.transports.proofs.Runs.{inputs_are_calls}
use Rattle.transports.proofs.Statuses.{completed}

-- ---- a command that succeeds, by mailbox or by message, is the command of its registers

-- it has the same code
code_as : (request : Request) (version : ℕ) → command_of (registers_in request version) ≡ code_of request
code_as (by_mailbox registers) version = refl
code_as (by_message pair bytes) version = refl

-- it leaves what that leaves, and that succeeds
abbrev AsSent : Setup → Request → ℕ → Machine → Type 0
AsSent setup request version m =
    (sent setup request m ≡ second.sent setup (registers_in request version) m) × (response setup (registers_in request version) m ≡ 1)

succeeds_as : (setup : Setup) (request : Request) (m : Machine) → Succeeds setup request m → AsSent setup request m.session.version m
succeeds_as setup (by_mailbox registers) m ok = (refl, ok)
succeeds_as setup (by_message pair bytes) m ok =
    let t = taken_as pair m.session.version bytes in
    let as-served = served_as_lem setup pair bytes m t refl in
    let told =
    completed t setup bytes m (subst (λ (s : Served). 3 ≤ length s.response) (sym as-served) ok.0)
    (subst (λ (s : Served). completion_in s.response ≡ 0x00) (sym as-served) ok.1) in
    (sym (ap (λ (s : Served). s.machine) as-served) ∙ ap (λ (t : Taken). (served_as t setup bytes m).machine) told.0, told.1)

-- ---- either way to flush

abbrev way_as : Way → ℕ → second.Way
way_as by_steps version = second.by_steps
way_as (by_flush request) version = second.by_flush (registers_in request version)

way_as_lem : (setup : Setup) (way : Way) (m : Machine) → FlushSucceeds setup way m
    → second.Succeeds setup (way_as way m.session.version) m
    × (flash_after setup way m ≡ second.flash_after setup (way_as way m.session.version) m)
way_as_lem setup by_steps m ok = (tt, refl)
way_as_lem setup (by_flush request) m ok =
    let s = succeeds_as setup request m ok.1 in
    ((code_as request m.session.version ∙ ok.0, s.1), ap (λ (k : Machine). k.flash) s.0)

adds_as : (way : Way) (s : Session) → AddsNone way s → second.AddsNone (way_as way s.version) s
adds_as by_steps s n = tt
adds_as (by_flush request) s n = n

-- ---- the list

-- a message that is refused is no call, another the command that it has
sent_allowed : (size : ℕ) (t : Taken) (version : ℕ) (bytes : List ℕ)
    → (hiomap_command_of bytes ≡ mark_dirty.code) ⊎ (hiomap_command_of bytes ≡ erase.code) → AllAllowed size (sent_for t version bytes)
sent_allowed size (Err Short) version bytes p = tt
sent_allowed size (Err Foreign) version bytes p = tt
sent_allowed size (Err Malformed) version bytes p = tt
sent_allowed size Command version bytes p = (p, tt)

input_allowed : (size : ℕ) (input : Input) (m : Machine) → Marks size input → AllAllowed size (calls_for input m)
input_allowed size (call c) m p = (p, tt)
input_allowed size (message pair bytes) m p = sent_allowed size (taken_as pair m.session.version bytes) m.session.version bytes p

all_allowed : (setup : Setup) (size : ℕ) (inputs : List Input) (m : Machine) → AllMark size inputs → AllAllowed size (calls_of setup inputs m)
all_allowed setup size [] m p = tt
all_allowed setup size (input ∷ inputs) m p =
    append_allowed size (calls_for input m) (calls_of setup inputs (left setup input m)) (input_allowed size input m p.0)
    (all_allowed setup size inputs (left setup input m) p.1)

-- ---- the second run, each command as the mailbox command of its registers at the version of its place
module _ (setup : Setup) (m : Machine) (flash : List ℕ) (run : SecondRun setup m flash) where
  -- the machines of the run with messages
  abbrev m₁ : Machine
  m₁ = agreeing setup run.info flash run.worn run.other

  abbrev m₂ : Machine
  m₂ = opening setup run.info run.create flash run.worn run.other

  abbrev m₃ : Machine
  m₃ = second_end setup m flash run

  abbrev info : List ℕ
  info = registers_in run.info (begun flash run.worn run.other).session.version

  abbrev create : List ℕ
  create = registers_in run.create m₁.session.version

  abbrev calls : List Call
  calls = calls_of setup run.inputs m₂

  abbrev way : second.Way
  way = way_as run.way m₃.session.version

  informed : AsSent setup run.info (begun flash run.worn run.other).session.version (begun flash run.worn run.other)
  informed = succeeds_as setup run.info (begun flash run.worn run.other) run.info_succeeds

  created : AsSent setup run.create m₁.session.version m₁
  created = succeeds_as setup run.create m₁ run.create_succeeds

  -- those of the run by mailbox are the same
  same₁ : m₁ ≡ second.agreeing setup info flash run.worn run.other
  same₁ = informed.0

  same₂ : m₂ ≡ second.opening setup info create flash run.worn run.other
  same₂ = created.0 ∙ ap (second.sent setup create) same₁

  same₃ : m₃ ≡ second.marking setup info create calls flash run.worn run.other
  same₃ = inputs_are_calls setup run.inputs m₂ ∙ ap (called_all setup calls) same₂

  flushes : second.Succeeds setup way m₃ × (flash_after setup run.way m₃ ≡ second.flash_after setup way m₃)
  flushes = way_as_lem setup run.way m₃ run.way_succeeds

  abbrev by_mailbox_lem : second.SecondRun setup m flash
  by_mailbox_lem =
      record {
        worn = run.worn;
        good = run.good;
        other = run.other;
        other_size = run.other_size;
        info = info;
        info_is = code_as run.info (begun flash run.worn run.other).session.version ∙ run.info_is;
        info_succeeds = informed.1;
        agreed = subst (λ (k : Machine). k.session.version ≡ 2) same₁ run.agreed;
        create = create;
        create_is = code_as run.create m₁.session.version ∙ run.create_is;
        create_succeeds = subst (λ (k : Machine). response setup create k ≡ 1) same₁ created.1;
        same_first = subst (λ (k : Machine). k.session.first ≡ m.session.first) same₂ run.same_first;
        same_size = subst (λ (k : Machine). k.session.size ≡ m.session.size) same₂ run.same_size;
        calls = calls;
        allowed = all_allowed setup m.session.size run.inputs m₂ run.allowed;
        same_marks = subst (λ (k : Machine). k.session.marks ≡ m.session.marks) same₃ run.same_marks;
        same_bytes =
            subst
            (λ (k : Machine). (x : ℕ) → programs (get_or m.session.marks (block_holding x) 0) ≡ true → get_or k.memory x 0 ≡ get_or m.memory x 0)
            same₃ run.same_bytes;
        way = way;
        way_succeeds = subst (second.Succeeds setup way) same₃ flushes.0;
      }

  same_flash : flash_after setup run.way m₃ ≡ second.second_flash setup m flash by_mailbox_lem
  same_flash = flushes.1 ∙ ap (second.flash_after setup way) same₃

-- ---- the flush never stopped: a resume keeps the version
resumed_version : (s : Session) → (resumed s).session.version ≡ s.version
resumed_version s =
    either_way (λ (t : Session). t.version ≡ s.version) s.suspended s (with_access false (clear_bits control_lost s.events) s) refl refl

unstopped_as : (setup : Setup) (way : Way) (m : Machine) → FlushSucceeds setup way (unstopped m)
    → second.Succeeds setup (way_as way m.session.version) (unstopped m)
    × (flash_after setup way (unstopped m) ≡ second.unstopped_flash setup (way_as way m.session.version) m)
unstopped_as setup way m ok =
    subst
    (λ (version : ℕ). second.Succeeds setup (way_as way version) (unstopped m)
    × (flash_after setup way (unstopped m) ≡ second.unstopped_flash setup (way_as way version) m))
    (resumed_version m.session) (way_as_lem setup way (unstopped m) ok)

pub demand_3_by_message : Demand3ByMessage
demand_3_by_message setup m sounds w list run way ok none =
    let flash = (cut m list).machine.flash in
    let never = unstopped_as setup way m ok in
    let d =
    (demand_3 setup m sounds w list).1 (by_mailbox_lem setup m flash run) (way_as way m.session.version) never.0 (adds_as way m.session none) in
    (same_flash setup m flash run ∙ d.0 ∙ sym never.1, subst StepsSucceed (sym (same₃ setup m flash run)) d.1, d.2)
