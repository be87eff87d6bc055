-- The window memory and the map are lent: every command, refused or not, on any session, leaves the one as long as it was, and the other as it was.
use Rattle.std.proofs.Common.{◌≡◌, refl, not, List, ℕ, ◌≤◌, arith, leb, length, drop, length-take, leb-false}
use borrow.Author.Tests.{not-false}
use Rattle.units.specs.Units.{to_bytes, round_up}
use Rattle.buffers.specs.Ranges.{range}
use Rattle.buffers.proofs.Replace.{replace_length}
use Rattle.chip.proofs.Laws.{erased_length}
use Rattle.session.specs.declared.Session.{Session}
use Rattle.session.specs.declared.Window.{Window}
use Rattle.session.specs.declared.Window.TheVariants.{Read, Write}
use Rattle.session.specs.Machine.{Setup, Machine, lent, holding}
use Rattle.soundness.specs.Soundness.{sound_in}
use Rattle.soundness.proofs.Facts.{measured}
use Rattle.flush.specs.Window.{flush_whole}
use Rattle.refusals.specs.declared.Needs.TheVariants.{Access, WriteWindow}
use Rattle.refusals.specs.Refusals.{Accepted, blocks_named}
use Rattle.refusals.proofs.Accepting.{passed, named_within}
use Rattle.registers.specs.Registers.{command_of, number}
use Rattle.mailbox.specs.Commands.{Outcome, numbered, numbered_in, size_for, hint, created, flushing}
use Rattle.mailbox.specs.Table.{Command, create, create_read_window, close_window, create_write_window, flush, erase, from}
use Rattle.mailbox.specs.Mediator.{command_at, reason_of, mediate}
use Rattle.mailbox.proofs.Front.{size_fits}
use Rattle.mailbox.proofs.Ends.{close_ends, flush_ends, open_ends}
use Rattle.mailbox.proofs.Mediating.{each_command, each_answer}

-- a range has at most the bytes that are asked for
pub range_few : (at n : ℕ) (xs : List ℕ) → length (range at n xs) ≤ n
range_few at n xs = let long = length-take n (drop at xs) in omega arith

module _ (setup : Setup) (s : Session) (registers flash worn memory : List ℕ) where
  -- what is to be shown of an outcome
  abbrev Long : Outcome → Type 0
  Long o = length o.machine.memory ≡ length memory

  -- a command that no check refused, by its row
  abbrev Served : Command → Type 0
  Served c =
      reason_of c (sound_in setup (lent s flash worn memory)) registers (lent s flash worn memory) ≡ Accepted → Long (c.leaves setup registers (lent (numbered s registers) flash worn memory))

  -- the blocks of a new window fit
  create_long : (code : ℕ) (w : Window) → Served (create code w)
  create_long code w a =
      let p = passed (sound_in setup (lent s flash worn memory)) s registers (from 1 s.version) Access (leb (round_up (length flash)) (number 2 0 registers)) a in
      let m = measured setup (length flash) (length worn) (length memory) s p.sounds in
      let o = number 2 0 registers in
      let z = size_for (round_up (length flash)) (round_up (length memory)) o (hint s registers) in
      let fits = size_fits (round_up (length flash)) (round_up (length memory)) o (hint s registers) (leb-false (round_up (length flash)) o p.argued) in
      let next = lent (numbered s registers) flash worn memory in
      let flushed = (flush_whole next).flash in
      open_ends Long registers next w o z setup (λ _. refl)
      (λ _. replace_length 0 (range (to_bytes o) (to_bytes z) flushed) memory (omega (arith, range_few (to_bytes o) (to_bytes z) flushed, fits.1, m.memory_sized.whole)))

  -- and those that an ERASE names
  erase_long : Served erase
  erase_long a =
      let b = blocks_named s registers in
      let p = passed (sound_in setup (lent s flash worn memory)) s registers (from 2 s.version) WriteWindow (not b.inside) a in
      let m = measured setup (length flash) (length worn) (length memory) s p.sounds in
      erased_length (to_bytes b.start) (to_bytes b.count) memory
      (omega (arith, named_within s registers (not-false b.inside p.argued), m.fits.in_memory, m.memory_sized.whole))

  -- a CLOSE_WINDOW and a FLUSH, whether an erase fails or not
  close_long : Served close_window
  close_long a = close_ends Long registers (lent (numbered s registers) flash worn memory) (λ _. refl) (λ _. refl)

  flush_long : Served flush
  flush_long a = flush_ends Long registers (lent (flushing (numbered s registers) registers) flash worn memory) (λ _. refl) (λ _. refl)

  served_long : (n : ℕ) → Served (command_at n)
  served_long =
      each_command (λ (_ : ℕ). Served)
      (λ a. refl) (λ a. refl) (λ a. refl) (create_long create_read_window.code Read) close_long (create_long create_write_window.code Write)
      (λ a. refl) flush_long (λ a. refl) erase_long (λ n a. refl)

  -- a refusal for an argument
  broken_long : (code n : ℕ) → Long ((command_at n).when_broken code registers (lent (numbered s registers) flash worn memory))
  broken_long code =
      each_command (λ (_ : ℕ) (c : Command). Long (c.when_broken code registers (lent (numbered s registers) flash worn memory)))
      refl refl refl refl refl refl refl refl refl refl (λ _. refl)

pub memory_long : (setup : Setup) (registers : List ℕ) (m : Machine) → length (mediate setup registers m).machine.memory ≡ length m.memory
memory_long setup registers m =
    each_answer (Long setup m.session registers m.flash m.worn m.memory) setup registers m
    (served_long setup m.session registers m.flash m.worn m.memory (command_of registers))
    (λ code. broken_long setup m.session registers m.flash m.worn m.memory code (command_of registers)) (λ code. refl) (λ code. refl)

-- ---- the map, which no command changes
module _ (setup : Setup) (registers : List ℕ) (m : Machine) where
  abbrev Mapped : Outcome → Type 0
  Mapped o = o.machine.worn ≡ m.worn

  create_mapped : (w : Window) → Mapped (created w setup registers (numbered_in registers m))
  create_mapped w = open_ends Mapped registers (numbered_in registers m) w _ _ setup (λ _. refl) (λ _. refl)

  served_mapped : (n : ℕ) → Mapped ((command_at n).leaves setup registers (numbered_in registers m))
  served_mapped =
      each_command (λ (_ : ℕ) (c : Command). Mapped (c.leaves setup registers (numbered_in registers m)))
      refl refl refl (create_mapped Read)
      (close_ends Mapped registers (numbered_in registers m) (λ _. refl) (λ _. refl))
      (create_mapped Write) refl
      (flush_ends Mapped registers (holding (flushing (numbered m.session registers) registers) m) (λ _. refl) (λ _. refl))
      refl refl (λ _. refl)

  broken_mapped : (code n : ℕ) → Mapped ((command_at n).when_broken code registers (numbered_in registers m))
  broken_mapped code =
      each_command (λ (_ : ℕ) (c : Command). Mapped (c.when_broken code registers (numbered_in registers m)))
      refl refl refl refl refl refl refl refl refl refl (λ _. refl)

pub map_same : (setup : Setup) (registers : List ℕ) (m : Machine) → (mediate setup registers m).machine.worn ≡ m.worn
map_same setup registers m =
    each_answer (Mapped setup registers m) setup registers m (λ _. served_mapped setup registers m (command_of registers))
    (λ code. broken_mapped setup registers m code (command_of registers)) (λ code. refl) (λ code. refl)
