-- What a record does: document 01, "Bench program".
use Rattle.std.specs.Prelude.{ℕ, ◌+◌, min, Bool, true, false, cond, ◌&&◌, List, leb, length, replicate, Option, Some, None}
use Rattle.units.specs.Units.{to_bytes}
use Rattle.buffers.specs.Ranges.{replace}
use Rattle.session.specs.declared.Session.{Session}
use Rattle.session.specs.Suspension.{Suspension, suspended, resumed, resumed_changed}
use Rattle.session.specs.Machine.{Setup, Machine, lent, holding}
use Rattle.refusals.specs.Refusals.{is_write}
use Rattle.mailbox.specs.Commands.{Outcome}
use Rattle.mailbox.specs.Mediator.{mediate}
use Rattle.records.specs.declared.Item.{Item}
use Rattle.records.specs.declared.Record.{Record}
use Rattle.records.specs.declared.Record.TheVariants.{Command, Fill, Suspend, Resume, ResumeChanged}
use Rattle.script.specs.declared.Served.{Served}

-- ---- the host's fill

-- "an active write window (offset + count at most its bytes, count 0 allowed)"; a lent memory that is shorter has only its own bytes
abbrev pub fill_allowed : Session → ℕ → ℕ → ℕ → Bool
fill_allowed s memory offset count = is_write s.window && leb (offset + count) (min (to_bytes s.size) memory)

-- "the host filling that range": those bytes are the value, the others stay, and a fill that is not allowed changes nothing
abbrev pub filled : Session → ℕ → ℕ → ℕ → List ℕ → List ℕ
filled s offset count value memory =
    cond (fill_allowed s (length memory) offset count) (replace offset (replicate count value) memory) memory

-- ---- all records

-- the bench's map of worn blocks: "It has S = 4", and no block of its chip is worn (02, Ticket 8)
abbrev pub none_worn : List ℕ
none_worn = replicate 4 0

-- what is left: whether the rules are kept, the registers that answer, and the session and both buffers
pub record Effect : Type 0 where
  pub good : Bool
  pub answer : Option (List ℕ)
  pub machine : Machine

-- what a record leaves
abbrev pub leaves : Bool → Option (List ℕ) → Machine → Effect
leaves good answer m = record { good = good; answer = answer; machine = m }

-- what breaks a rule changes nothing
abbrev pub refused : Machine → Effect
refused m = leaves false None m

-- as the code has them: where it answers none, the session is what it was
abbrev pub effected : Session → Option Served → List ℕ → List ℕ → Effect
effected before None flash memory = refused (lent before flash none_worn memory)
effected before (Some r) flash memory = leaves true r.answer (lent r.session flash none_worn memory)

-- a session, and no registers that answer
abbrev pub silent : Session → Served
silent s = record { session = s; answer = None }

-- a command: "its 16 registers afterwards"
abbrev pub commanded : Outcome → Effect
commanded o = leaves true (Some o.registers) o.machine

-- suspend or resume, whether it answered yes or no
abbrev pub moved : Machine → Suspension → Effect
moved m suspension = leaves true None (holding suspension.session m)

-- "is a command; .. is the host filling ..; 2 suspend; 3 resume; 4 resume with changed flash"
abbrev pub effect_of : Record → Setup → Machine → Effect
effect_of (Command registers) setup m = commanded (mediate setup registers m)
effect_of (Fill offset count value) setup m =
    leaves (fill_allowed m.session (length m.memory) offset count) None
    (lent m.session m.flash m.worn (filled m.session offset count value m.memory))
effect_of Suspend setup m = moved m (suspended m.session)
effect_of Resume setup m = moved m (resumed m.session)
effect_of ResumeChanged setup m = moved m (resumed_changed m.session)

abbrev pub effect : Setup → Record → Machine → Effect
effect setup r m = effect_of r setup m

-- what was read at an offset: "A record that breaks these rules" does nothing
abbrev pub effect_read : Setup → Option Item → Machine → Effect
effect_read setup None m = refused m
effect_read setup (Some item) m = effect setup item.body m
