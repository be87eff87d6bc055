-- Commands of version 2 that are accepted: what each needs of the machine that it is sent to, and the machine that it leaves. Of the recipe's
-- proof this file alone opens the mediator and the table of refusals.
use Rattle.std.proofs.Common.{◌≡◌, refl, sym, ap, subst, ◌∙◌, Bool, true, false, cond, not, ◌&&◌, true≢false, List, [], ◌∷◌, ℕ, ◌+◌, ◌*◌, ◌/◌, ◌%◌, ◌≤◌, ◌<◌, arith, ltb, eqb, length, get_or, replicate, le-leb, ne_eqb, Option, Some}
use mathlib.Core.Bool.{and-false}
use borrow.Author.Tests.{lt-leb}
use Rattle.units.specs.Units.{block_bytes, to_bytes, round_up}
use Rattle.buffers.specs.Ranges.{replace}
use Rattle.chip.specs.Actions.{erased}
use Rattle.session.specs.declared.Window.TheVariants.{Write}
use Rattle.session.specs.declared.Session.{Session}
use Rattle.session.specs.Machine.{Setup, Machine, lent, holding}
use Rattle.session.specs.Record.{clean, fresh, with_marks, with_window}
use Rattle.soundness.specs.Soundness.{sound_at, sound_in}
use Rattle.session.specs.Marks.{dirty, erased_mark}
use Rattle.registers.specs.Registers.{command_of, sequence_of, number}
use Rattle.refusals.specs.declared.Needs.TheVariants.{Nothing}
use Rattle.refusals.specs.Refusals.{NamedBlocks, blocks_named, is_previous, is_write, needs_number, needs_access, needs_window}
use Rattle.refusals.proofs.Accepting.{accepts}
use Rattle.mailbox.specs.Commands.{Outcome, numbered, numbered_in, marked, size_for, hint, opened, created, flushing, flushed_all}
use Rattle.mailbox.specs.Table as table
use Rattle.mailbox.specs.Mediator.{command_at, reason_of, mediate, response}
use Rattle.mailbox.proofs.Ends.{code_of, flush_ends, open_ends, opened_code}
use Rattle.mailbox.proofs.Mediating.{carried}
use Rattle.invariants.proofs.Reach.{none_failed}
use Rattle.invariants.specs.Worn.{MeetsNone}
use Rattle.recovery.specs.Second.{sent, begun}
use Rattle.recovery.specs.Recipe.{get_info}
use Rattle.recovery.proofs.SecondList.{unmarked_passes}

-- a 16-bit number is that of its two bytes
pub word : (n : ℕ) → n < 65536 → n % 256 + 256 * (n / 256 % 256 + 256 * 0) ≡ n
word n h = omega arith

-- a window has the size of its hint, if that fits
pub hinted : (S C o z : ℕ) → 1 ≤ z → z ≤ C → o + z ≤ S → size_for S C o z ≡ z
hinted S C o z some few fits = rw (ne_eqb z 0 (omega arith)) (omega arith)

-- ---- GET_INFO on a fresh session
pub info_taken : (setup : Setup) (flash worn memory : List ℕ) → sound_at setup (length flash) (length worn) (length memory) fresh ≡ true
    → response setup get_info (begun flash worn memory) ≡ 1
unfolding command_at
info_taken setup flash worn memory e =
    ap (λ (o : Outcome). get_or o.registers 13 0)
    (carried setup get_info (begun flash worn memory) (table.get_info).code refl (accepts (sound_in setup (begun flash worn memory)) fresh get_info true Nothing false
    (record { sounds = e; fresh = refl; knows = refl; awake = refl; windowed = refl; argued = refl })))

-- ---- a machine that has agreed version 2 and is not suspended, and the last number that it was sent
pub record Serving (setup : Setup) (last : ℕ) (m : Machine) : Type 0 where
  pub sounds : sound_at setup (length m.flash) (length m.worn) (length m.memory) m.session ≡ true
  pub agreed : m.session.version ≡ 2
  pub awake : m.session.suspended ≡ false
  pub previous : m.session.previous ≡ Some last

-- what a command leaves that marks: other marks and perhaps other window memory
abbrev pub marked_as : Machine → List ℕ → List ℕ → List ℕ → Machine
marked_as m registers marks memory = lent (with_marks marks (numbered m.session registers)) m.flash m.worn memory

module _ (setup : Setup) (last : ℕ) (m : Machine) (s : Serving setup last m) (registers : List ℕ) (later : last < sequence_of registers) where
  -- such a machine takes a later number, where the version knows the command, and the window and the arguments are right
  taken : (code : ℕ) → command_of registers ≡ code → (command_at code).known 2 ≡ true
      → (needs_window (command_at code).needs && not (is_write m.session.window)) ≡ false
      → (command_at code).broken m.session registers (round_up (length m.flash)) ≡ false
      → mediate setup registers m ≡ (command_at code).leaves setup registers (numbered_in registers m)
  taken code c k w a =
      carried setup registers m code c
      (ap (λ (n : ℕ). reason_of (command_at n) (sound_in setup m) registers m) c
      ∙ accepts (sound_in setup m) m.session registers ((command_at code).known m.session.version) (command_at code).needs ((command_at code).broken m.session registers (round_up (length m.flash)))
      (record {
        sounds = s.sounds;
        fresh =
            ap (λ (p : Option ℕ). needs_number (command_at code).needs && is_previous p (sequence_of registers)) s.previous
            ∙ ap (λ (t : Bool). needs_number (command_at code).needs && t) (ne_eqb (sequence_of registers) last (omega arith))
            ∙ and-false (needs_number (command_at code).needs);
        knows = ap (command_at code).known s.agreed ∙ k;
        awake = ap (λ (t : Bool). needs_access (command_at code).needs && t) s.awake ∙ and-false (needs_access (command_at code).needs);
        windowed = w;
        argued = a;
      }))

  -- ---- CREATE_WRITE_WINDOW at a block of the flash
  -- where nothing is marked
  module _ (c : command_of registers ≡ (table.create_write_window).code) (within : number 2 0 registers < round_up (length m.flash)) (none : m.session.marks ≡ clean) where
    opens : mediate setup registers m ≡ created Write setup registers (numbered_in registers m)
    unfolding command_at
    opens = taken (table.create_write_window).code c refl refl (lt-leb (round_up (length m.flash)) (number 2 0 registers) within)

    -- no erase fails, so that the window is opened
    left_open : (P : Outcome → Type 0) → P (opened Write (number 2 0 registers) (size_for (round_up (length m.flash)) (round_up (length m.memory)) (number 2 0 registers) (hint m.session registers)) setup registers (numbered_in registers m))
        → P (mediate setup registers m)
    left_open P p =
        subst P (sym opens)
        (open_ends P registers (numbered_in registers m) Write _ _ setup
        (λ f. absurd (true≢false (sym f ∙ unmarked_passes (numbered m.session registers) m.flash m.worn m.memory none))) (λ _. p))

    pub create_taken : response setup registers m ≡ 1
    create_taken = left_open (λ (x : Outcome). code_of x ≡ 1) (opened_code Write _ _ setup registers (numbered_in registers m))

    pub create_session : (o z : ℕ) → number 2 0 registers ≡ o → size_for (round_up (length m.flash)) (round_up (length m.memory)) o (number 2 2 registers) ≡ z
        → (sent setup registers m).session ≡ with_window Write o z (numbered m.session registers)
    create_session o z first size =
        left_open (λ (x : Outcome). x.machine.session ≡ with_window Write o z (numbered m.session registers)) (rw (s.agreed, first, size))

  -- ---- MARK_DIRTY and ERASE of block b of a write window
  module _ (w : m.session.window ≡ Write) (b : ℕ) (first : number 2 0 registers ≡ b) (second : number 2 2 registers ≡ 1) (within : b < m.session.size) where
    named : blocks_named m.session registers ≡ record { inside = true; start = b; count = 1 }
    named = rw (s.agreed, first, second, le-leb (b + 1) m.session.size (omega arith))

    inside : not (blocks_named m.session registers).inside ≡ false
    inside = ap (λ (r : NamedBlocks). not r.inside) named

    pub dirty_sent : command_of registers ≡ (table.mark_dirty).code → sent setup registers m ≡ marked_as m registers (replace b (dirty ∷ []) m.session.marks) m.memory
    unfolding command_at
    dirty_sent c =
        ap (λ (o : Outcome). o.machine) (taken (table.mark_dirty).code c refl (rw w) inside)
        ∙ ap (λ (r : NamedBlocks). marked_as m registers (replace r.start (replicate r.count dirty) m.session.marks) m.memory) named

    pub erase_sent : command_of registers ≡ (table.erase).code
        → sent setup registers m ≡ marked_as m registers (replace b (erased_mark ∷ []) m.session.marks) (erased (to_bytes b) block_bytes m.memory)
    unfolding command_at
    erase_sent c =
        ap (λ (o : Outcome). o.machine) (taken (table.erase).code c refl (rw w) inside)
        ∙ ap (λ (r : NamedBlocks). marked_as m registers (replace r.start (replicate r.count erased_mark) m.session.marks) (erased (to_bytes r.start) (to_bytes r.count) m.memory)) named

  -- ---- FLUSH where no block that it flushes is worn
  pub flush_taken : command_of registers ≡ (table.flush).code → m.session.window ≡ Write → MeetsNone m.worn m.session → response setup registers m ≡ 1
  unfolding command_at
  flush_taken c w good =
      ap code_of (taken (table.flush).code c refl (rw w) (rw s.agreed))
      ∙ ap (λ (t : Session). code_of (flushed_all registers (holding t m))) late
      ∙ flush_ends (λ (x : Outcome). code_of x ≡ 1) registers (numbered_in registers m)
      (λ f. absurd (true≢false (sym f ∙ none_failed (numbered m.session registers) m.flash m.worn m.memory good))) (λ _. refl)
    where
      -- version 2 adds no marks
      late : flushing (numbered m.session registers) registers ≡ numbered m.session registers
      late = ap (λ (version : ℕ). cond (ltb version 2 && not (eqb (number 4 2 registers) 0)) (marked dirty (numbered m.session registers) registers) (numbered m.session registers)) s.agreed
