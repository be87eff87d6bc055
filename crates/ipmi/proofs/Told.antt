-- The registers that the mediator leaves, of every command, refused or not, on any session.
use mathlib.Core.Path.{◌≡◌, ap}
use mathlib.Core.Bool.{cond}
use mathlib.Core.List.{List, [], ◌∷◌, ◌++◌}
use native.Mathlib.Nat.{le_refl}
use Prim.Native.Nat.{ℕ, min}
use lib.Dec.{ltb}
use lib.ListN.{length, get_or}
use Rattle.units.proofs.Cases.{chosen}
use Rattle.units.specs.Units.{block_bytes, to_bytes, round_up}
use Rattle.session.specs.declared.Session.{Session}
use Rattle.session.specs.declared.Window.{Window}
use Rattle.session.specs.declared.Window.TheVariants.{Read, Write}
use Rattle.session.specs.Machine.{Setup, Machine, holding}
use Rattle.flush.specs.Window.{flush_whole}
use Rattle.registers.specs.Registers.{command_of, sequence_of, argument, number, bytes_of, padded, reply}
use Rattle.registers.proofs.Fields.{elements}
use Rattle.std.specs.Prelude.{Err}
use Rattle.refusals.specs.declared.Reason.{Reason}
use Rattle.refusals.specs.declared.Reason.TheVariants.{System, Repeated, Unknown, Suspended, Windowless, Argument}
use Rattle.refusals.specs.Refusals.{Checked, Accepted, code_for}
use Rattle.messages.proofs.Cells.{filled}
use Rattle.mailbox.specs.Commands.{Outcome, outcome, answered, numbered_in, refused, info_arguments, create_arguments, size_for, hint, closing, closing_first, opened, created, stopped, closed, flushing, flushed_through, flushed}
use Rattle.mailbox.specs.Table.{Command}
use Rattle.mailbox.specs.Mediator.{command_at, command_in, reason_in, answer_to, obeyed, mediate}
use Rattle.mailbox.proofs.Mediating.{each_command}

-- the registers of an answer
pub reply_as : (registers : List ℕ) (code : ℕ) (arguments : List ℕ) (events : ℕ)
    → reply registers code (padded arguments) events
    ≡ command_of registers ∷ sequence_of registers ∷ (elements 11 0 arguments ++ (code ∷ get_or registers 14 0 ∷ events ∷ []))
reply_as registers code arguments events =
    ap (λ (t : List ℕ). command_of registers ∷ sequence_of registers ∷ (t ++ (code ∷ get_or registers 14 0 ∷ events ∷ [])))
    (filled 11 11 arguments (le_refl 11))

-- ---- the registers of an answer: its command and number, its arguments, a response, register 14 as received and the event byte
pub record Answers (registers : List ℕ) (o : Outcome) : Type 0 where
  pub arguments : List ℕ
  pub code : ℕ
  pub events : ℕ
  pub are : o.registers ≡ command_of registers ∷ sequence_of registers ∷ (elements 11 0 arguments ++ (code ∷ get_or registers 14 0 ∷ events ∷ []))

pub answers_long : (registers : List ℕ) (o : Outcome) → Answers registers o → length o.registers ≡ 16
answers_long registers o a = ap (λ (t : List ℕ). length t) a.are

answers_with : (s : Session) (registers : List ℕ) (code : ℕ) (arguments : List ℕ) (actions : ℕ) (flash worn memory : List ℕ)
    → Answers registers (outcome (answered s registers code arguments actions) flash worn memory)
answers_with s registers code arguments actions flash worn memory =
    record { arguments = arguments; code = code; events = s.events; are = reply_as registers code arguments s.events }

module _ (setup : Setup) (registers : List ℕ) (m : Machine) where
  abbrev S : ℕ
  S = round_up (length m.flash)

  abbrev C : ℕ
  C = round_up (length m.memory)

  abbrev version : ℕ
  version = m.session.version

  -- a create, a CLOSE_WINDOW and a FLUSH, whether an erase fails or not
  create_answers : (w : Window) → Answers registers (created w setup registers (numbered_in registers m))
  create_answers w =
      let next = numbered_in registers m in
      let o = number 2 0 registers in
      let z = size_for S C o (hint m.session registers) in
      chosen (Answers registers) (flush_whole next).failed (closing 3 registers next) (opened w o z setup registers next)
      (λ _. answers_with _ registers 3 [] _ _ _ _) (λ _. answers_with _ registers 1 (create_arguments version setup.lpc z o) _ _ _ _)

  close_answers : Answers registers (closed registers (numbered_in registers m))
  close_answers =
      let next = numbered_in registers m in
      chosen (Answers registers) (flush_whole next).failed (stopped registers next) (closing 1 registers next)
      (λ _. answers_with _ registers 3 [] _ _ _ _) (λ _. answers_with _ registers 1 [] _ _ _ _)

  flush_answers : Answers registers (flushed registers (numbered_in registers m))
  flush_answers =
      let next = holding (flushing (numbered_in registers m).session registers) m in
      chosen (Answers registers) (flush_whole next).failed (stopped registers next) (flushed_through registers next)
      (λ _. answers_with _ registers 3 [] _ _ _ _) (λ _. answers_with _ registers 1 [] _ _ _ _)

  -- a command that no check refused, by its row
  served_answers : (n : ℕ) → Answers registers ((command_at n).leaves setup registers (numbered_in registers m))
  served_answers =
      each_command (λ (_ : ℕ) (c : Command). Answers registers (c.leaves setup registers (numbered_in registers m)))
      (answers_with _ registers 1 [] _ _ _ _)
      (answers_with _ registers 1 (info_arguments (min (argument 0 registers) 2) C setup.timeout) _ _ _ _)
      (answers_with _ registers 1 (cond (ltb version 2) (bytes_of 4 (to_bytes S) ++ bytes_of 4 block_bytes) (bytes_of 2 S ++ bytes_of 2 1)) _ _ _ _)
      (create_answers Read)
      close_answers
      (create_answers Write)
      (answers_with _ registers 1 [] _ _ _ _)
      flush_answers
      (answers_with _ registers 1 [] _ _ _ _)
      (answers_with _ registers 1 [] _ _ _ _)
      (λ _. answers_with _ registers 2 [] _ _ _ _)

  -- a refusal for its argument
  broken_answers : (n : ℕ) → Answers registers ((command_at n).when_broken 2 registers (numbered_in registers m))
  broken_answers =
      each_command (λ (_ : ℕ) (c : Command). Answers registers (c.when_broken 2 registers (numbered_in registers m)))
      other other other first other first other other other other (λ _. other)
    where
      other : Answers registers (refused 2 registers (numbered_in registers m))
      other = answers_with _ registers 2 [] _ _ _ _

      first : Answers registers (closing_first 2 registers (numbered_in registers m))
      first = answers_with _ registers (cond (flush_whole (numbered_in registers m)).failed 3 2) [] _ _ _ _

  pub mediate_answers : Answers registers (mediate setup registers m)
  unfolding mediate obeyed answer_to
  mediate_answers = by (reason_in setup registers m)
    where
      late : (r : Reason) → Answers registers (refused (code_for version (Err r)) registers (numbered_in registers m))
      late r = answers_with _ registers (code_for version (Err r)) [] _ _ _ _

      by : (r : Checked) → Answers registers (answer_to r (command_in registers) setup registers m)
      by Accepted = served_answers (command_of registers)
      by (Err System) = answers_with _ registers 4 [] _ _ _ _
      by (Err Repeated) = late Repeated
      by (Err Unknown) = late Unknown
      by (Err Suspended) = late Suspended
      by (Err Windowless) = late Windowless
      by (Err Argument) = broken_answers (command_of registers)
