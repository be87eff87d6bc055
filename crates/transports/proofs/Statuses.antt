-- The status of a command is the code of its reason or WRITE_ERROR, and what the completion code of a message tells of it.
use Rattle.std.proofs.Common.{◌≡◌, refl, sym, ap, subst, ◌∙◌, Bool, true, false, cond, List, ◌∷◌, ◌++◌, ℕ, ◌≤◌, min, arith, eqb, ltb, lit≤, length, get_or, eqb-true, eq-eqb, Err}
use mathlib.Core.Bool.{false≢true}
use Rattle.units.specs.Units.{block_bytes, to_bytes, round_up}
use Rattle.units.proofs.Cases.{chosen}
use Rattle.session.specs.declared.Window.{Window}
use Rattle.session.specs.declared.Window.TheVariants.{Read, Write}
use Rattle.session.specs.Machine.{Setup, Machine, holding}
use Rattle.soundness.specs.Soundness.{sound_in}
use Rattle.flush.specs.Window.{flush_whole}
use Rattle.refusals.specs.declared.Reason.TheVariants.{System, Repeated, Unknown, Suspended, Windowless, Argument}
use Rattle.refusals.specs.declared.Needs.TheVariants.{Access}
use Rattle.refusals.specs.Refusals.{Checked, Accepted, code_for}
use Rattle.refusals.proofs.Accepting.{passed}
use Rattle.registers.specs.Registers.{command_of, sequence_of, argument, number, bytes_of, padded, reply}
use Rattle.messages.specs.declared.Refusal.TheVariants.{Short, Foreign, Malformed}
use Rattle.messages.specs.Messages.{Taken, Command, registers_of, headed, status_of, completion_of, values_of, response_of}
use Rattle.messages.specs.Parameters.{row_of}
use Rattle.mailbox.specs.Commands.{Outcome, numbered_in, info_arguments, informed, flash_informed, hint, size_for, created, closed, flushing, flushed}
use Rattle.mailbox.specs.Table as table
use Rattle.mailbox.specs.Mediator.{command_at, command_in, reason_of, reason_in, answer_to, mediate, response}
use Rattle.mailbox.proofs.Ends.{close_ends, flush_ends, open_ends, opened_code}
use Rattle.mailbox.proofs.Mediating.{mediate_as, each_command}
use Rattle.ipmi.proofs.Told.{reply_as}
use Rattle.ipmi.specs.Served.{served_as}
use Rattle.transports.specs.Same.{completion_in}

-- ---- the status of a command

-- it stands behind all 11 arguments, however many the response has
replied : (registers arguments : List ℕ) (code events : ℕ) → status_of (reply registers code (padded arguments) events) ≡ code
replied registers arguments code events =
    ap (λ (t : List ℕ). get_or t 13 0) (reply_as registers code arguments events)

module _ (setup : Setup) (registers : List ℕ) (m : Machine) where
  abbrev status : Outcome → ℕ
  status o = status_of o.registers

  -- one that no check refused: 1, whatever version laid out its arguments
  info_status : status (informed setup registers (numbered_in registers m)) ≡ 1
  info_status =
      replied registers (info_arguments (min (argument 0 registers) 2) (round_up (length m.memory)) setup.timeout) 1 m.session.events

  flash_info_status : status (flash_informed registers (numbered_in registers m)) ≡ 1
  flash_info_status =
      let S = round_up (length m.flash) in
      replied registers (cond (ltb m.session.version 2) (bytes_of 4 (to_bytes S) ++ bytes_of 4 block_bytes) (bytes_of 2 S ++ bytes_of 2 1)) 1
      m.session.events

  -- what holds of WRITE_ERROR, and of the status that is handed, holds of the status where an erase fails and where none does
  module _ (P : ℕ → Type 0) (failed : P 3) where
    create_status : (window : Window) → P 1 → P (status (created window setup registers (numbered_in registers m)))
    create_status window one =
        let next = numbered_in registers m in
        let o = number 2 0 registers in
        let size = size_for (round_up (length m.flash)) (round_up (length m.memory)) o (hint m.session registers) in
        open_ends (λ (k : Outcome). P (status k)) registers next window o size setup
        (λ _. failed) (λ _. subst P (sym (opened_code window o size setup registers next)) one)

    close_status : P 1 → P (status (closed registers (numbered_in registers m)))
    close_status one = close_ends (λ (k : Outcome). P (status k)) registers (numbered_in registers m) (λ _. failed) (λ _. one)

    flush_status : P 1 → P (status (flushed registers (numbered_in registers m)))
    flush_status one =
        flush_ends (λ (k : Outcome). P (status k)) registers (holding (flushing (numbered_in registers m).session registers) m) (λ _. failed) (λ _. one)

    served_status : P 1 → (n : ℕ) → reason_of (command_at n) (sound_in setup m) registers m ≡ Accepted
        → P (status ((command_at n).leaves setup registers (numbered_in registers m)))
    served_status one =
        each_command
        (λ (_ : ℕ) (c : table.Command). reason_of c (sound_in setup m) registers m ≡ Accepted → P (status (c.leaves setup registers (numbered_in registers m))))
        (λ _. one) (λ _. subst P (sym info_status) one) (λ _. subst P (sym flash_info_status) one) (λ _. create_status Read one)
        (λ _. close_status one) (λ _. create_status Write one) (λ _. one) (λ _. flush_status one) (λ _. one) (λ _. one)
        (λ _ a. absurd (false≢true (passed (sound_in setup m) m.session registers false Access false a).knows))

    -- one whose argument is refused: the code that it is handed, but in a create WRITE_ERROR comes before it
    broken_status : (code : ℕ) → P code → (n : ℕ) → P (status ((command_at n).when_broken code registers (numbered_in registers m)))
    broken_status code p =
        each_command (λ (_ : ℕ) (c : table.Command). P (status (c.when_broken code registers (numbered_in registers m))))
        p p p first p first p p p p (λ _. p)
      where
        first : P (cond (flush_whole (numbered_in registers m)).failed 3 code)
        first = chosen P (flush_whole (numbered_in registers m)).failed 3 code (λ _. failed) (λ _. p)

    -- by the first check that refuses
    pub response_as : P (code_for m.session.version (reason_in setup registers m)) → P (response setup registers m)
    unfolding answer_to
    response_as p =
        subst (λ (o : Outcome). P (status o)) (sym (mediate_as setup registers m (reason_in setup registers m) refl)) (by (reason_in setup registers m) refl p)
      where
        by : (r : Checked) → reason_in setup registers m ≡ r → P (code_for m.session.version r)
            → P (status (answer_to r (command_in registers) setup registers m))
        by Accepted a q = served_status q (command_of registers) a
        by (Err System) a q = q
        by (Err Repeated) a q = q
        by (Err Unknown) a q = q
        by (Err Suspended) a q = q
        by (Err Windowless) a q = q
        by (Err Argument) a q = broken_status 2 q (command_of registers)

-- ---- the codes

-- none is above 8
code_few : (version : ℕ) (r : Checked) → code_for version r ≤ 8
code_few version Accepted = lit≤ tt
code_few version (Err System) = lit≤ tt
code_few version (Err Repeated) = chosen (λ (n : ℕ). n ≤ 8) (ltb version 2) 2 8 (λ _. lit≤ tt) (λ _. lit≤ tt)
code_few version (Err Unknown) = lit≤ tt
code_few version (Err Suspended) = chosen (λ (n : ℕ). n ≤ 8) (ltb version 2) 5 6 (λ _. lit≤ tt) (λ _. lit≤ tt)
code_few version (Err Windowless) = chosen (λ (n : ℕ). n ≤ 8) (ltb version 2) 2 7 (λ _. lit≤ tt) (λ _. lit≤ tt)
code_few version (Err Argument) = lit≤ tt

pub response_few : (setup : Setup) (registers : List ℕ) (m : Machine) → response setup registers m ≤ 8
response_few setup registers m =
    response_as setup registers m (λ (n : ℕ). n ≤ 8) (lit≤ tt) (code_few m.session.version (reason_in setup registers m))

-- 4 is SYSTEM_ERROR's alone
not_one : ◌≡◌ {A = ℕ} 1 4 → ⊥
not_one e = omega arith

not_two : ◌≡◌ {A = ℕ} 2 4 → ⊥
not_two e = omega arith

not_three : ◌≡◌ {A = ℕ} 3 4 → ⊥
not_three e = omega arith

code_system : (version : ℕ) (r : Checked) → code_for version r ≡ 4 → r ≡ Err System
code_system version Accepted e = absurd (not_one e)
code_system version (Err System) e = refl
code_system version (Err Repeated) e = absurd (chosen (λ (n : ℕ). n ≡ 4 → ⊥) (ltb version 2) 2 8 (λ _ q. omega arith) (λ _ q. omega arith) e)
code_system version (Err Unknown) e = absurd (not_two e)
code_system version (Err Suspended) e = absurd (chosen (λ (n : ℕ). n ≡ 4 → ⊥) (ltb version 2) 5 6 (λ _ q. omega arith) (λ _ q. omega arith) e)
code_system version (Err Windowless) e = absurd (chosen (λ (n : ℕ). n ≡ 4 → ⊥) (ltb version 2) 2 7 (λ _ q. omega arith) (λ _ q. omega arith) e)
code_system version (Err Argument) e = absurd (not_two e)

pub response_system : (setup : Setup) (registers : List ℕ) (m : Machine) → response setup registers m ≡ 4 → reason_in setup registers m ≡ Err System
response_system setup registers m =
    response_as setup registers m (λ (n : ℕ). n ≡ 4 → reason_in setup registers m ≡ Err System) (λ e. absurd (not_three e))
    (code_system m.session.version (reason_in setup registers m))

-- ---- the completion code of a message that is taken

-- it goes by the status
pub completion_as : (version : ℕ) (message registers : List ℕ)
    → completion_in (response_of version message registers) ≡ cond (eqb (status_of registers) 1) 0x00 (completion_of (status_of registers))
unfolding response_of
completion_as version message registers = either (eqb (status_of registers) 1)
  where
    values : List ℕ
    values = command_of registers ∷ sequence_of registers ∷ values_of (row_of (command_of registers) version) registers

    either : (t : Bool)
        → completion_in (cond t (headed message 0x00 ++ values) (headed message (completion_of (status_of registers))))
        ≡ cond t 0x00 (completion_of (status_of registers))
    either true = refl
    either false = refl

-- 00 is status 1 alone, since no status reaches 80 hex, and 84 hex is status 4 alone
told_one : (s : ℕ) → s ≤ 8 → cond (eqb s 1) 0x00 (completion_of s) ≡ 0x00 → s ≡ 1
told_one s few = chosen (λ (n : ℕ). n ≡ 0x00 → s ≡ 1) (eqb s 1) 0x00 (completion_of s) (λ t _. eqb-true s 1 t) (λ _ q. omega arith)

told_four : (s : ℕ) → s ≤ 8 → cond (eqb s 1) 0x00 (completion_of s) ≡ 0x84 → s ≡ 4
told_four s few = chosen (λ (n : ℕ). n ≡ 0x84 → s ≡ 4) (eqb s 1) 0x00 (completion_of s) (λ _ q. omega arith) (λ _ q. omega arith)

-- ---- the completion code of any message, by what became of it

other : (n k : ℕ) → eqb n k ≡ false → n ≡ k → ⊥
other n k t e = false≢true (sym t ∙ eq-eqb n k e)

empty : 3 ≤ 0 → ⊥
empty long = omega arith

-- 84 hex is SYSTEM_ERROR to the command that was sent
pub completed_system : (t : Taken) (setup : Setup) (bytes : List ℕ) (m : Machine) → completion_in (served_as t setup bytes m).response ≡ 0x84
    → reason_in setup (registers_of m.session.version bytes) m ≡ Err System
completed_system (Err Short) setup bytes m e = absurd (other 0x00 0x84 refl e)
completed_system (Err Foreign) setup bytes m e = absurd (other 0xc1 0x84 refl e)
completed_system (Err Malformed) setup bytes m e = absurd (other 0xc7 0x84 refl e)
completed_system Command setup bytes m e =
    let registers = registers_of m.session.version bytes in
    let o = mediate setup registers m in
    let told = completion_as o.machine.session.version bytes o.registers in
    response_system setup registers m (told_four (response setup registers m) (response_few setup registers m) (sym told ∙ e))

-- 00 in a response is the status 1 of a message that was taken
pub completed : (t : Taken) (setup : Setup) (bytes : List ℕ) (m : Machine) → 3 ≤ length (served_as t setup bytes m).response
    → completion_in (served_as t setup bytes m).response ≡ 0x00 → (t ≡ Command) × (response setup (registers_of m.session.version bytes) m ≡ 1)
completed (Err Short) setup bytes m long e = absurd (empty long)
completed (Err Foreign) setup bytes m long e = absurd (other 0xc1 0x00 refl e)
completed (Err Malformed) setup bytes m long e = absurd (other 0xc7 0x00 refl e)
completed Command setup bytes m long e =
    let registers = registers_of m.session.version bytes in
    let o = mediate setup registers m in
    let told = completion_as o.machine.session.version bytes o.registers in
    (refl, told_one (response setup registers m) (response_few setup registers m) (sym told ∙ e))
