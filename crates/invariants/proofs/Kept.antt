-- A sound session stays sound: the claims stand in specs/Kept.antt.
use Rattle.std.proofs.Common.{◌≡◌, refl, sym, ap, ◌∙◌, Bool, true, false, not, ◌&&◌, List, ⊎_elim, ℕ, ◌+◌, ◌*◌, ◌≤◌, ◌<◌, min, arith, leb, eqb, length, le-leb, leb-false, eq-eqb, Err}
use Rattle.std.proofs.lemmas.Bool.{true_from_ne_false}
use mathlib.Core.Bool.{false≢true}
use borrow.Author.Tests.{eqb-false, not-false}
use Rattle.units.proofs.Cases.{decided, chosen}
use Rattle.units.specs.Units.{round_up}
use Rattle.session.specs.declared.Session.{Session}
use Rattle.session.specs.declared.Window.{Window}
use Rattle.session.specs.declared.Window.TheVariants.{Closed, Read, Write}
use Rattle.session.specs.Machine.{Setup, Machine, lent}
use Rattle.session.specs.Record.{clean, with_version, with_marks, drop_window}
use Rattle.soundness.specs.Soundness.{size_sound, sizes_sound, access_sound, active_sound, window_sound, markable, marks_sound, session_sound, sound, sound_at, sound_in}
use Rattle.soundness.proofs.Access.{acknowledged_access, suspended_sound, resumed_sound, changed_sound}
use Rattle.soundness.proofs.Facts.{sound_with, refitted_at, measured}
use Rattle.soundness.proofs.SoundMarks.{clean_sound}
use Rattle.session.specs.Suspension.{suspended, resumed, resumed_changed}
use Rattle.session.specs.Marks.{dirty, erased_mark, counts_of}
use Rattle.refusals.specs.declared.Reason.TheVariants.{System}
use Rattle.registers.specs.Registers.{command_of, argument, number}
use Rattle.refusals.specs.declared.Needs.TheVariants.{Access, WriteWindow}
use Rattle.refusals.specs.Refusals.{Accepted, blocks_named, flush_marks, is_write, reason_for}
use Rattle.refusals.proofs.Accepting.{passed, named_within}
use Rattle.marklist.specs.MarkList.{Marked, pairs_of, mark_pairs}
use Rattle.marklist.proofs.Taken.{taken, list_left}
use Rattle.flush.specs.Worn.{finished_blocks, marks_kept}
use Rattle.flush.specs.Window.{window_worn, flush_fails, flush_whole}
use Rattle.mailbox.specs.Commands.{Outcome, numbered, size_for, hint, marked, opened, created, flushing, flushed_all, ack_answer}
use Rattle.mailbox.specs.Table.{Command, create_read_window, create_write_window, create, from}
use Rattle.mailbox.specs.Mediator.{command_at, reason_of, reason_in}
use Rattle.mailbox.proofs.Ends.{close_ends, flush_ends, open_ends}
use Rattle.mailbox.proofs.Mediating.{each_command, each_answer}
use Rattle.invariants.specs.Kept.{FreshSound, FreshAsSaid, CommandKeeps, ListKeeps, AccessKeeps, FlushSound}
use Rattle.mailbox.proofs.Front.{size_fits}
use Rattle.invariants.proofs.MarksKept.{marked_sound, list_sound, cleared_sound}

write_is : (w : Window) → is_write w ≡ true → w ≡ Write
write_is Closed e = absurd (false≢true e)
write_is Read e = absurd (false≢true e)
write_is Write e = refl

positive : (n : ℕ) → (n ≡ 0 → ⊥) → 1 ≤ n
positive n h = omega arith

size_some : (S C o n : ℕ) → o < S → 1 ≤ C → 1 ≤ size_for S C o n
size_some S C o n h k =
    ⊎_elim
    (λ (t : eqb n 0 ≡ true). rw t (omega arith))
    (λ (t : eqb n 0 ≡ false). let p = positive n (eqb-false n 0 t) in rw t (omega (arith, p)))
    (decided (eqb n 0))

module _ (setup : Setup) (s : Session) (registers flash worn memory : List ℕ) (e : sound_at setup (length flash) (length worn) (length memory) s ≡ true) where
  -- what is to be shown of an outcome
  abbrev Keeps : Outcome → Type 0
  Keeps o = sound_at setup (length flash) (length worn) (length memory) o.machine.session ≡ true

  fits : (t : Session) → t.version ≤ 2 → access_sound t.suspended t.events ≡ true → window_sound t.window t.first t.size (round_up (length flash)) (round_up (length memory)) ≡ true
      → marks_sound (markable t.window t.size) t.marks ≡ true → t.counts ≡ counts_of t.marks → sound_at setup (length flash) (length worn) (length memory) t ≡ true
  fits t v a w m n = refitted_at setup (length flash) (length worn) (length memory) s t e v a w m n

  known : s.version ≤ 2
  known = (measured setup (length flash) (length worn) (length memory) s e).fits.known

  access : access_sound s.suspended s.events ≡ true
  access = (measured setup (length flash) (length worn) (length memory) s e).fits.access

  window : window_sound s.window s.first s.size (round_up (length flash)) (round_up (length memory)) ≡ true
  window = (measured setup (length flash) (length worn) (length memory) s e).fits.window

  marks : marks_sound (markable s.window s.size) s.marks ≡ true
  marks = (measured setup (length flash) (length worn) (length memory) s e).fits.marks

  counts : s.counts ≡ counts_of s.marks
  counts = (measured setup (length flash) (length worn) (length memory) s e).fits.counts

  some : 1 ≤ round_up (length memory)
  some = (measured setup (length flash) (length worn) (length memory) s e).memory_sized.some

  numbered_keeps : sound_at setup (length flash) (length worn) (length memory) (numbered s registers) ≡ true
  numbered_keeps = fits (numbered s registers) known access window marks counts

  numbered_sound : sound (length flash) (length worn) (length memory) (numbered s registers) ≡ true
  numbered_sound = (measured setup (length flash) (length worn) (length memory) (numbered s registers) numbered_keeps).sound

  drop_keeps : sound_at setup (length flash) (length worn) (length memory) (drop_window (numbered s registers)) ≡ true
  drop_keeps = fits (drop_window (numbered s registers)) known access refl (clean_sound 0 64) refl

  -- a new window
  create_keeps : (w : Window) → ((o z : ℕ) → window_sound w o z (round_up (length flash)) (round_up (length memory)) ≡ active_sound o z (round_up (length flash)) (round_up (length memory)))
      → number 2 0 registers < round_up (length flash) → Keeps (created w setup registers (lent (numbered s registers) flash worn memory))
  create_keeps w active h =
      let o = number 2 0 registers in
      let n = hint (numbered s registers) registers in
      let z = size_for (round_up (length flash)) (round_up (length memory)) o n in
      let f = size_fits (round_up (length flash)) (round_up (length memory)) o n h in
      let next = lent (numbered s registers) flash worn memory in
      open_ends Keeps registers next w o z setup (λ _. drop_keeps)
      (λ _. fits (opened w o z setup registers next).machine.session known access
      (active o z ∙ rw (le-leb 1 z (size_some (round_up (length flash)) (round_up (length memory)) o n h some), le-leb z (round_up (length memory)) f.1, le-leb (o + z) (round_up (length flash)) f.0))
      (clean_sound (markable w z) 64) refl)

  -- new marks in a write window
  marked_keeps : (mark : ℕ) → leb mark 2 ≡ true → s.window ≡ Write → (blocks_named s registers).inside ≡ true
      → sound_at setup (length flash) (length worn) (length memory) (marked mark (numbered s registers) registers) ≡ true
  marked_keeps mark fine w inside =
      let limit : markable s.window s.size ≡ s.size = ap (λ (k : Window). markable k s.size) w in
      fits (marked mark (numbered s registers) registers) known access window
      (ap (λ (n : ℕ). marks_sound n (marked mark (numbered s registers) registers).marks) limit
      ∙ marked_sound mark fine s.size (blocks_named s registers).start (blocks_named s registers).count s.marks (named_within s registers inside) (ap (λ (n : ℕ). marks_sound n s.marks) (sym limit) ∙ marks))
      refl

  -- marks of which some are left out, after a flush of a session that is sound
  left_sound : (t : Session) → sound (length flash) (length worn) (length memory) t ≡ true
      → marks_sound (markable t.window t.size) (flush_whole (lent t flash worn memory)).marks ≡ true
  unfolding flush_whole
  left_sound t sounds =
      rw sounds
      (chosen (λ (ms : List ℕ). marks_sound (markable t.window t.size) ms ≡ true) (flush_fails (lent t flash worn memory))
      (marks_kept (window_worn t worn) t.marks) clean
      (λ _. cleared_sound (finished_blocks (window_worn t worn) t.marks) (markable t.window t.size) t.marks (measured setup (length flash) (length worn) (length memory) t (sound_with setup (length flash) (length worn) (length memory) s t e sounds)).fits.marks)
      (λ _. clean_sound (markable t.window t.size) 64))

  -- a FLUSH of a sound session, whether an erase fails or not, and a CLOSE_WINDOW of which one does
  stop_keeps : (t : Session) → sound (length flash) (length worn) (length memory) t ≡ true
      → sound_at setup (length flash) (length worn) (length memory) (with_marks (flush_whole (lent t flash worn memory)).marks t) ≡ true
  stop_keeps t sounds =
      let z = (measured setup (length flash) (length worn) (length memory) t (sound_with setup (length flash) (length worn) (length memory) s t e sounds)).fits in
      fits (with_marks (flush_whole (lent t flash worn memory)).marks t) z.known z.access z.window (left_sound t sounds) refl

  flush_keeps : (t : Session) → sound (length flash) (length worn) (length memory) t ≡ true → Keeps (flushed_all registers (lent t flash worn memory))
  flush_keeps t sounds =
      let z = (measured setup (length flash) (length worn) (length memory) t (sound_with setup (length flash) (length worn) (length memory) s t e sounds)).fits in
      flush_ends Keeps registers (lent t flash worn memory) (λ _. stop_keeps t sounds)
      (λ _. fits (with_marks clean t) z.known z.access z.window (clean_sound (markable t.window t.size) 64) refl)

  version_keeps : sound_at setup (length flash) (length worn) (length memory) (with_version (min (argument 0 registers) 2) (numbered s registers)) ≡ true
  version_keeps = fits (with_version (min (argument 0 registers) 2) (numbered s registers)) (omega arith) access window marks counts

  -- a command that no check refused, by its row
  abbrev Served : Command → Type 0
  Served c =
      (t : Bool) → reason_of c t registers (lent s flash worn memory) ≡ Accepted → Keeps (c.leaves setup registers (lent (numbered s registers) flash worn memory))

  create_served : (code : ℕ) (w : Window) → ((o z : ℕ) → window_sound w o z (round_up (length flash)) (round_up (length memory)) ≡ active_sound o z (round_up (length flash)) (round_up (length memory)))
      → Served (create code w)
  create_served code w active t a =
      create_keeps w active (leb-false (round_up (length flash)) (number 2 0 registers) (passed t s registers (from 1 s.version) Access (leb (round_up (length flash)) (number 2 0 registers)) a).argued)

  marked_served : (known : Bool) (mark : ℕ) → leb mark 2 ≡ true → (t : Bool)
      → reason_for t s registers known WriteWindow (not (blocks_named s registers).inside) ≡ Accepted
      → sound_at setup (length flash) (length worn) (length memory) (marked mark (numbered s registers) registers) ≡ true
  marked_served known mark fine t a =
      let p = passed t s registers known WriteWindow (not (blocks_named s registers).inside) a in
      marked_keeps mark fine (write_is s.window (not-false (is_write s.window) p.windowed)) (not-false (blocks_named s registers).inside p.argued)

  -- the session that an accepted FLUSH works from, with or without marks of its own
  flushing_sound : (known t : Bool) → reason_for t s registers known WriteWindow (flush_marks s registers && not (blocks_named s registers).inside) ≡ Accepted
      → sound (length flash) (length worn) (length memory) (flushing (numbered s registers) registers) ≡ true
  flushing_sound known t a =
      let p = passed t s registers known WriteWindow (flush_marks s registers && not (blocks_named s registers).inside) a in
      chosen (λ (u : Session). sound (length flash) (length worn) (length memory) u ≡ true) (flush_marks s registers) (marked dirty (numbered s registers) registers) (numbered s registers)
      (λ adds.
      (measured setup (length flash) (length worn) (length memory) (marked dirty (numbered s registers) registers)
      (marked_keeps dirty refl (write_is s.window (not-false (is_write s.window) p.windowed)) (not-false (blocks_named s registers).inside (rw adds at p.argued)))
      ).sound)
      (λ _. numbered_sound)

  served_keeps : (n : ℕ) → Served (command_at n)
  served_keeps =
      each_command (λ (_ : ℕ). Served)
      (λ t a. drop_keeps)
      (λ t a. version_keeps)
      (λ t a. numbered_keeps)
      (create_served create_read_window.code Read (λ o z. refl))
      (λ t a. close_ends Keeps registers (lent (numbered s registers) flash worn memory) (λ _. stop_keeps (numbered s registers) numbered_sound) (λ _. drop_keeps))
      (create_served create_write_window.code Write (λ o z. refl))
      (marked_served (from 1 s.version) dirty refl)
      (λ t a. flush_keeps (flushing (numbered s registers) registers) (flushing_sound (from 1 s.version) t a))
      (λ t a. fits (ack_answer (numbered s registers) registers).session known (acknowledged_access s.suspended (argument 0 registers) s.events access) window marks counts)
      (marked_served (from 2 s.version) erased_mark refl)
      (λ n t a. absurd (false≢true (passed t s registers false Access false a).knows))

  -- a refusal for an argument
  broken_keeps : (code n : ℕ) → Keeps ((command_at n).when_broken code registers (lent (numbered s registers) flash worn memory))
  broken_keeps code =
      each_command (λ (_ : ℕ) (c : Command). Keeps (c.when_broken code registers (lent (numbered s registers) flash worn memory)))
      numbered_keeps numbered_keeps numbered_keeps drop_keeps numbered_keeps drop_keeps numbered_keeps numbered_keeps numbered_keeps numbered_keeps (λ _. numbered_keeps)

pub command_keeps : CommandKeeps
command_keeps setup registers m e =
    let same = numbered_keeps setup m.session registers m.flash m.worn m.memory e in
    each_answer (Keeps setup m.session registers m.flash m.worn m.memory e) setup registers m
    (served_keeps setup m.session registers m.flash m.worn m.memory e (command_of registers) (sound_in setup m))
    (λ code. broken_keeps setup m.session registers m.flash m.worn m.memory e code (command_of registers)) (λ code. same) (λ code. e)

pub list_keeps : ListKeeps
list_keeps setup list m e =
    list_left (λ (t : Session). sound_at setup (length m.flash) (length m.worn) (length m.memory) t ≡ true) setup list m e
    (λ a.
    let s = m.session in
    let z = measured setup (length m.flash) (length m.worn) (length m.memory) s e in
    let t = taken (sound_in setup m) list s Marked refl a in
    let write = write_is s.window t.0.writes in
    refitted_at setup (length m.flash) (length m.worn) (length m.memory) s (with_marks (mark_pairs (pairs_of list) s.marks) s) e z.fits.known z.fits.access z.fits.window
    (rw write (list_sound s.size 0 (pairs_of list) s.marks t.1 (rw write at z.fits.marks))) refl)

pub access_keeps : AccessKeeps
access_keeps setup flash worn memory s e =
    let sounds = (measured setup flash worn memory s e).sound in (
      sound_with setup flash worn memory s (suspended s).session e (suspended_sound flash worn memory s sounds),
      sound_with setup flash worn memory s (resumed s).session e (resumed_sound flash worn memory s sounds),
      sound_with setup flash worn memory s (resumed_changed s).session e (changed_sound flash worn memory s sounds),
    )

pub fresh_sound : FreshSound
unfolding sound_at sound session_sound
fresh_sound setup flash worn memory sizes most = rw (sizes, le-leb _ _ most)

pub fresh_as_said : FreshAsSaid
unfolding sizes_sound size_sound
fresh_as_said setup S C s t c d b =
    let flash : round_up (4096 * S) ≡ S = omega arith in
    let memory : round_up (4096 * C) ≡ C = omega arith in
    fresh_sound setup (4096 * S) S (4096 * C)
    (rw (flash, memory, le-leb 1 S s, le-leb S 65535 t, eq-eqb (S * 4096) (4096 * S) (omega arith), le-leb 1 C c, le-leb C 64 d, eq-eqb (C * 4096) (4096 * C) (omega arith)) (eq-eqb S S refl))
    (rw memory b)

-- a command that is not refused with SYSTEM_ERROR is sent to a sound session
pub sounds_unless : (setup : Setup) (registers : List ℕ) (m : Machine) → (reason_in setup registers m ≡ Err System → ⊥) → sound_in setup m ≡ true
unfolding reason_for
sounds_unless setup registers m fine =
    true_from_ne_false (sound_in setup m) (λ e. fine (rw e))

pub flush_sound : FlushSound
unfolding command_at
flush_sound setup registers m fine =
    let sounds = sounds_unless setup registers m fine in (
      numbered_sound setup m.session registers m.flash m.worn m.memory sounds,
      λ c a.
          flushing_sound setup m.session registers m.flash m.worn m.memory sounds (from 1 m.session.version) (sound_in setup m)
          (ap (λ (n : ℕ). reason_of (command_at n) (sound_in setup m) registers m) (sym c) ∙ a),
    )
