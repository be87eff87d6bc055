-- The arguments of a success are the parameters of its response, and nothing else.
use Rattle.std.proofs.Common.{◌≡◌, refl, sym, subst, ◌∙◌, false, List, ℕ, zero, suc, min, ◌≤◌, arith, eqb, length, replicate}
use mathlib.Core.Bool.{false≢true}
use borrow.Author.Tests.{eqb-false}
use Rattle.units.specs.Units.{round_up}
use Rattle.units.proofs.Cases.{chosen}
use Rattle.buffers.specs.Ranges.{range}
use Rattle.session.specs.declared.Session.{Session}
use Rattle.session.specs.declared.Window.TheVariants.{Read, Write}
use Rattle.session.specs.Machine.{Setup, Machine, lent, holding}
use Rattle.session.specs.Marks.{dirty}
use Rattle.session.specs.Record.{with_version}
use Rattle.soundness.specs.Soundness.{sound_in}
use Rattle.soundness.proofs.Facts.{measured}
use Rattle.refusals.specs.Refusals.{Accepted, flush_marks}
use Rattle.refusals.proofs.Accepting.{Passed, passed}
use Rattle.registers.specs.Registers.{command_of, argument}
use Rattle.messages.specs.Parameters.{table, row_of}
use Rattle.messages.specs.Messages.{unpacked, packed_from, status_of}
use Rattle.mailbox.specs.Commands.{Outcome, leaving, answered, numbered_in, marked, info_arguments, flushed_all}
use Rattle.mailbox.specs.Table.{Command, get_info, get_flash_info, create_read_window, close_window, create_write_window, flush, unknown}
use Rattle.mailbox.specs.Mediator.{command_at, command_in, reason_of, mediate}
use Rattle.mailbox.proofs.Ends.{close_ends, flush_ends, open_ends}
use Rattle.mailbox.proofs.Mediating.{carried, each_command}
use Rattle.invariants.proofs.Succeeding.{accepted}
use Rattle.transports.specs.Same.{answers}

-- moved to their I offsets and back they are all 11 arguments
abbrev pub Whole : ℕ → Outcome → Type 0
Whole command o =
    let ps = answers (row_of command o.machine.session.version) in
    unpacked ps (packed_from ps o.registers) (replicate 11 0) ≡ range 2 11 o.registers

-- ---- GET_INFO, by the version that it agrees
info_whole : (s : Session) (registers : List ℕ) (C T : ℕ) (m : Machine) (agreed : ℕ) → 1 ≤ agreed → agreed ≤ 2
    → Whole 2 (leaving (answered (with_version agreed s) registers 1 (info_arguments agreed C T) 0) m)
unfolding row_of table
info_whole s registers C T m zero l h = absurd (omega arith)
info_whole s registers C T m (suc zero) l h = refl
info_whole s registers C T m (suc (suc zero)) l h = refl
info_whole s registers C T m (suc (suc (suc n))) l h = absurd (omega arith)

agreed_some : (a : ℕ) → eqb a 0 ≡ false → (1 ≤ min a 2) × (min a 2 ≤ 2)
agreed_some a e = let n = eqb-false a 0 e in (omega arith, omega arith)

-- ---- a command that no check refused, by its row, at a version
module _ (setup : Setup) (registers : List ℕ) (s : Session) (flash worn memory : List ℕ) where
  abbrev at : ℕ → Machine
  at version = lent (with_version version s) flash worn memory

  abbrev Served : ℕ → ℕ → Command → Type 0
  Served version command c =
      reason_of c (sound_in setup (at version)) registers (at version) ≡ Accepted
      → Whole command (c.leaves setup registers (numbered_in registers (at version)))

  -- what the checks say of it
  checked : (c : Command) (version : ℕ) → reason_of c (sound_in setup (at version)) registers (at version) ≡ Accepted
      → Passed (sound_in setup (at version)) (with_version version s) registers (c.known version) c.needs
      (c.broken (with_version version s) registers (round_up (length flash)))
  checked c version a = passed _ _ registers _ c.needs _ a

  info_served : (version : ℕ) → Served version 2 get_info
  info_served version a =
      let h = agreed_some (argument 0 registers) (checked get_info version a).argued in
      let m = numbered_in registers (at version) in
      info_whole m.session registers (round_up (length memory)) setup.timeout m (min (argument 0 registers) 2) h.0 h.1

  -- FLUSH at version 1, with or without marks of its own; where an erase fails, as everywhere, the arguments are zero
  flush_served : Served 1 8 flush
  unfolding row_of table
  flush_served a =
      let m = numbered_in registers (at 1) in
      chosen (λ (t : Session). Whole 8 (flushed_all registers (holding t m))) (flush_marks m.session registers)
      (marked dirty m.session registers) m.session
      (λ _. flush_ends (Whole 8) registers (holding (marked dirty m.session registers) m) (λ _. refl) (λ _. refl))
      (λ _. flush_ends (Whole 8) registers m (λ _. refl) (λ _. refl))

  -- one that the version does not know is refused
  not_known : (c : Command) (version : ℕ) {A : Type 0} → c.known version ≡ false
      → reason_of c (sound_in setup (at version)) registers (at version) ≡ Accepted → A
  not_known c version k a = absurd (false≢true (sym k ∙ (checked c version a).knows))

  whole_0 : (n : ℕ) → Served 0 n (command_at n)
  unfolding row_of table
  whole_0 =
      each_command (Served 0)
      (λ _. refl) (info_served 0) (not_known get_flash_info 0 refl) (not_known create_read_window 0 refl) (not_known close_window 0 refl) (not_known create_write_window 0 refl)
      (λ _. refl) (not_known flush 0 refl) (λ _. refl) (λ _. refl) (λ n. not_known unknown 0 refl)

  whole_1 : (n : ℕ) → Served 1 n (command_at n)
  unfolding row_of table
  whole_1 =
      let m = numbered_in registers (at 1) in
      each_command (Served 1)
      (λ _. refl) (info_served 1) (λ _. refl)
      (λ _. open_ends (Whole 4) registers m Read _ _ setup (λ _. refl) (λ _. refl))
      (λ _. close_ends (Whole 5) registers m (λ _. refl) (λ _. refl))
      (λ _. open_ends (Whole 6) registers m Write _ _ setup (λ _. refl) (λ _. refl))
      (λ _. refl) flush_served (λ _. refl) (λ _. refl)
      (λ n. not_known unknown 1 refl)

  whole_2 : (n : ℕ) → Served 2 n (command_at n)
  unfolding row_of table
  whole_2 =
      let m = numbered_in registers (at 2) in
      each_command (Served 2)
      (λ _. refl) (info_served 2) (λ _. refl)
      (λ _. open_ends (Whole 4) registers m Read _ _ setup (λ _. refl) (λ _. refl))
      (λ _. close_ends (Whole 5) registers m (λ _. refl) (λ _. refl))
      (λ _. open_ends (Whole 6) registers m Write _ _ setup (λ _. refl) (λ _. refl))
      (λ _. refl) (λ _. flush_ends (Whole 8) registers m (λ _. refl) (λ _. refl)) (λ _. refl) (λ _. refl)
      (λ n. not_known unknown 2 refl)

  whole_at : (version n : ℕ) → version ≤ 2 → Served version n (command_at n)
  whole_at zero n h = whole_0 n
  whole_at (suc zero) n h = whole_1 n
  whole_at (suc (suc zero)) n h = whole_2 n
  whole_at (suc (suc (suc v))) n h = absurd (omega arith)

-- ---- a success
pub success_whole : (setup : Setup) (registers : List ℕ) (m : Machine) → status_of (mediate setup registers m).registers ≡ 1
    → Whole (command_of registers) (mediate setup registers m)
success_whole setup registers m e =
    let a = accepted setup m.session registers m.flash m.worn m.memory e in
    let sounds = (checked setup registers m.session m.flash m.worn m.memory (command_in registers) m.session.version a).sounds in
    let z = measured setup (length m.flash) (length m.worn) (length m.memory) m.session sounds in
    subst (Whole (command_of registers)) (sym (carried setup registers m (command_of registers) refl a))
    (whole_at setup registers m.session m.flash m.worn m.memory m.session.version (command_of registers) z.fits.known a)
