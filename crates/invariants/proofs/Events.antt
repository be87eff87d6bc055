-- What a command makes of the event byte: the claims stand in specs/Events.antt.
use Rattle.std.proofs.Common.{◌≡◌, refl, ap, ◌∙◌, true, false, cond, List, [], ◌∷◌, ◌++◌, ℕ, ◌+◌, min, arith, bit_and, ltb, length, get_or, length-append, length-take, get_or-append-add}
use Rattle.std.proofs.lemmas.Bool.{false_from_ne_true}
use lib.ListN.{length-replicate}
use Rattle.units.proofs.Cases.{chosen}
use Rattle.units.specs.Units.{block_bytes, to_bytes, round_up}
use Rattle.session.specs.declared.Session.{Session}
use Rattle.session.specs.declared.Window.{Window}
use Rattle.session.specs.declared.Window.TheVariants.{Read, Write}
use Rattle.session.specs.Events.{is_set, acknowledged}
use Rattle.session.specs.Machine.{Setup, Machine, holding}
use Rattle.session.specs.Marks.{dirty}
use Rattle.session.proofs.Bits.{acknowledged_others}
use Rattle.soundness.specs.Soundness.{sound, sound_at, sound_in}
use Rattle.soundness.proofs.Access.{told}
use Rattle.soundness.proofs.Facts.{sizes, fitting}
use Rattle.flush.specs.Window.{advanced}
use Rattle.refusals.specs.declared.Needs.TheVariants.{NewNumber}
use Rattle.refusals.specs.Refusals.{Accepted, is_previous, flush_marks, reason_for}
use Rattle.refusals.proofs.Accepting.{accepts}
use Rattle.registers.specs.Registers.{command_of, sequence_of, argument, number, bytes_of, padded, reply}
use Rattle.marklist.specs.MarkList.{answer_for, listed}
use Rattle.mailbox.specs.Commands.{Outcome, numbered, numbered_in, marked, info_arguments, size_for, hint, create_arguments, created, closed, flushing, flushed}
use Rattle.mailbox.specs.Table.{Command}
use Rattle.mailbox.specs.Mediator.{command_at, reason_of, reason_in}
use Rattle.mailbox.proofs.Ends.{close_ends, flush_ends, open_ends}
use Rattle.mailbox.proofs.Mediating.{carried, each_command, each_answer}
use Rattle.invariants.specs.Events.{events_after, EventsAsSaid, CommandEvents, EventsShown, DisagreeingRefused}

-- what is to be shown of an outcome: the event byte stands in register 15
abbrev Shown : Outcome → Type 0
Shown o = get_or o.registers 15 0 ≡ o.machine.session.events

module _ (setup : Setup) (registers : List ℕ) (m : Machine) where
  abbrev before : ℕ
  before = m.session.events

  -- a FLUSH, with or without marks of its own, keeps the event byte
  flushing_same : (cond (flush_marks (numbered m.session registers) registers) (marked dirty (numbered m.session registers) registers) (numbered m.session registers)).events ≡ before
  flushing_same =
      chosen (λ (t : Session). t.events ≡ before) (flush_marks (numbered m.session registers) registers)
      (marked dirty (numbered m.session registers) registers) (numbered m.session registers) (λ _. refl) (λ _. refl)

  -- and so do a FLUSH, a CLOSE_WINDOW and a create, whether an erase fails or not
  abbrev Same : Outcome → Type 0
  Same o = o.machine.session.events ≡ before

  flush_same : Same (flushed registers (numbered_in registers m))
  flush_same = flush_ends Same registers (holding (flushing (numbered m.session registers) registers) m) (λ _. flushing_same) (λ _. flushing_same)

  close_same : Same (closed registers (numbered_in registers m))
  close_same = close_ends Same registers (numbered_in registers m) (λ _. refl) (λ _. refl)

  create_same : (w : Window) → Same (created w setup registers (numbered_in registers m))
  create_same w = open_ends Same registers (numbered_in registers m) w _ _ setup (λ _. refl) (λ _. refl)

  -- ---- the byte after a command that no check refused, by its row
  served_same : (n : ℕ) → (n ≡ 9 → ⊥) → ((command_at n).leaves setup registers (numbered_in registers m)).machine.session.events ≡ before
  served_same =
      each_command (λ (n : ℕ) (c : Command). (n ≡ 9 → ⊥) → (c.leaves setup registers (numbered_in registers m)).machine.session.events ≡ before)
      (λ _. refl) (λ _. refl) (λ _. refl) (λ _. create_same Read) (λ _. close_same) (λ _. create_same Write) (λ _. refl) (λ _. flush_same) (λ other. absurd (other refl)) (λ _. refl)
      (λ _ _. refl)

  served_others : (n : ℕ) → bit_and ((command_at n).leaves setup registers (numbered_in registers m)).machine.session.events 0xfc ≡ bit_and before 0xfc
  served_others =
      each_command (λ (_ : ℕ) (c : Command). bit_and (c.leaves setup registers (numbered_in registers m)).machine.session.events 0xfc ≡ bit_and before 0xfc)
      refl refl refl (ap (λ (n : ℕ). bit_and n 0xfc) (create_same Read)) (ap (λ (n : ℕ). bit_and n 0xfc) close_same) (ap (λ (n : ℕ). bit_and n 0xfc) (create_same Write)) refl
      (ap (λ (n : ℕ). bit_and n 0xfc) flush_same) (acknowledged_others (argument 0 registers) before) refl (λ _. refl)

  -- and after a refusal for its argument
  broken_same : (code n : ℕ) → ((command_at n).when_broken code registers (numbered_in registers m)).machine.session.events ≡ before
  broken_same code =
      each_command (λ (_ : ℕ) (c : Command). (c.when_broken code registers (numbered_in registers m)).machine.session.events ≡ before)
      refl refl refl refl refl refl refl refl refl refl (λ _. refl)

  -- where a command leaves it alone, if no check refuses it, every answer does
  unless : (P : Type 0) → (reason_in setup registers m ≡ Accepted → P → ((command_at (command_of registers)).leaves setup registers (numbered_in registers m)).machine.session.events ≡ before)
      → P → events_after setup registers m ≡ before
  unless P served p =
      each_answer (λ (o : Outcome). o.machine.session.events ≡ before) setup registers m (λ a. served a p)
      (λ code. broken_same code (command_of registers)) (λ code. refl) (λ code. refl)

  -- an ACK with a new number is accepted by a sound session
  acked : command_of registers ≡ 9 → sound_in setup m ≡ true → is_previous m.session.previous (sequence_of registers) ≡ false
      → events_after setup registers m ≡ acknowledged (argument 0 registers) before
  unfolding command_at
  acked c sounds new =
      ap (λ (o : Outcome). o.machine.session.events)
      (carried setup registers m 9 c
      (ap (λ (n : ℕ). reason_of (command_at n) (sound_in setup m) registers m) c
      ∙ accepts (sound_in setup m) m.session registers true NewNumber false (record { sounds = sounds; fresh = new; knows = refl; awake = refl; windowed = refl; argued = refl })))

  -- ---- what the host sees
  shown_at : (code : ℕ) (arguments : List ℕ) (events : ℕ) → get_or (reply registers code (padded arguments) events) 15 0 ≡ events
  shown_at code arguments events =
      ap (λ (n : ℕ). get_or (padded arguments ++ (code ∷ get_or registers 14 0 ∷ events ∷ [])) n 0) place
      ∙ get_or-append-add (padded arguments) (code ∷ get_or registers 14 0 ∷ events ∷ []) 2 0
    where
      place : 13 ≡ length (padded arguments) + 2
      place = simp (length-take, length-append, length-replicate) (omega arith)

  create_shown : (w : Window) → Shown (created w setup registers (numbered_in registers m))
  create_shown w =
      let o = number 2 0 registers in
      let z = size_for (round_up (length m.flash)) (round_up (length m.memory)) o (hint m.session registers) in
      open_ends Shown registers (numbered_in registers m) w o z setup (λ _. refl)
      (λ _. shown_at 1 (create_arguments m.session.version setup.lpc z o) before)

  served_shown : (n : ℕ) → Shown ((command_at n).leaves setup registers (numbered_in registers m))
  served_shown =
      let S = round_up (length m.flash) in
      let C = round_up (length m.memory) in
      each_command (λ (_ : ℕ) (c : Command). Shown (c.leaves setup registers (numbered_in registers m)))
      refl
      (shown_at 1 (info_arguments (min (argument 0 registers) 2) C setup.timeout) before)
      (shown_at 1 (cond (ltb m.session.version 2) (bytes_of 4 (to_bytes S) ++ bytes_of 4 block_bytes) (bytes_of 2 S ++ bytes_of 2 1)) before)
      (create_shown Read) (close_ends Shown registers (numbered_in registers m) (λ _. refl) (λ _. refl)) (create_shown Write) refl
      (flush_ends Shown registers (holding (flushing (numbered m.session registers) registers) m) (λ _. refl) (λ _. refl)) refl refl (λ _. refl)

  broken_shown : (code n : ℕ) → Shown ((command_at n).when_broken code registers (numbered_in registers m))
  broken_shown code =
      each_command (λ (_ : ℕ) (c : Command). Shown (c.when_broken code registers (numbered_in registers m)))
      refl refl refl refl refl refl refl refl refl refl (λ _. refl)

pub events_as_said : EventsAsSaid
events_as_said setup registers m = (
  acked setup registers m,
  unless setup registers m (command_of registers ≡ 9 → ⊥) (λ a other. served_same setup registers m (command_of registers) other),
  unless setup registers m (reason_in setup registers m ≡ Accepted → ⊥) (λ a refused. absurd (refused a)),
)

pub command_events : CommandEvents
command_events setup registers m =
    each_answer (λ (o : Outcome). bit_and o.machine.session.events 0xfc ≡ bit_and m.session.events 0xfc) setup registers m
    (λ _. served_others setup registers m (command_of registers))
    (λ code. ap (λ (n : ℕ). bit_and n 0xfc) (broken_same setup registers m code (command_of registers))) (λ code. refl) (λ code. refl)

pub events_shown : EventsShown
events_shown setup registers m =
    each_answer Shown setup registers m (λ _. served_shown setup registers m (command_of registers))
    (λ code. broken_shown setup registers m code (command_of registers)) (λ code. refl) (λ code. refl)

-- ---- a disagreement is never sound
disagreeing : (flash worn memory : ℕ) (s : Session) → (is_set 0x40 s.events ≡ s.suspended → ⊥) → sound flash worn memory s ≡ false
disagreeing flash worn memory s apart =
    false_from_ne_true (sound flash worn memory s)
    (λ e. apart (told s.suspended s.events (fitting _ _ s (sizes flash worn memory s e).2).access))

pub disagreeing_refused : DisagreeingRefused
unfolding sound_at reason_for answer_for listed advanced
disagreeing_refused setup registers m apart =
    let e = disagreeing (length m.flash) (length m.worn) (length m.memory) m.session apart in
    (rw e, λ list. rw e, λ done. rw e)
