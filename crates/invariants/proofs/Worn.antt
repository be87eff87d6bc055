-- Worn blocks: the claims stand in specs/Worn.antt.
use Rattle.std.proofs.Common.{◌≡◌, refl, sym, ap, subst, ◌∙◌, Bool, true, false, cond, not, ◌&&◌, ◌||◌, true≢false, List, [], ◌∷◌, ◌++◌, ◌⊎◌, inl, inr, ⊎_elim, ℕ, zero, suc, ◌+◌, ◌≤◌, ◌<◌, min, arith, ltb, eqb, length, get_or, take, drop, replicate, drop_of_length-le, lt-ltb, le-ltb, Option, None, Some, Err}
use mathlib.Core.Bool.{false≢true, and-false}
use Rattle.std.proofs.lemmas.Bool.{false_from_ne_true, true_from_ne_false}
use lib.ListN.{length-replicate}
use Rattle.units.specs.Units.{block_bytes, to_bytes, round_up}
use Rattle.buffers.specs.Ranges.{range}
use Rattle.units.proofs.Cases.{decided, chosen}
use Rattle.session.specs.declared.Session.{Session}
use Rattle.session.specs.declared.Window.{Window}
use Rattle.session.specs.declared.Window.TheVariants.{Read, Write}
use Rattle.session.specs.Machine.{Setup, Machine, lent, holding, wearing}
use Rattle.session.specs.Marks.{dirty, is_marked}
use Rattle.session.specs.Record.{clean, with_previous, with_marks}
use Rattle.soundness.specs.Soundness.{marks_sound, session_sound, sound, sound_at, sound_in}
use Rattle.soundness.proofs.Facts.{sizes}
use Rattle.flush.specs.Actions.{Action, flush_actions}
use Rattle.flush.specs.Worn.{some_fail, finished_blocks, marks_kept}
use Rattle.flush.specs.Window.{window_actions, perform_in, window_worn, done_actions, flush_fails, has_next, perform_next, advanced, flush_whole}
use Rattle.flush.proofs.Bytes.{AllIn}
use Rattle.flush.proofs.Cuts.{all_flush, all_take}
use Rattle.flush.proofs.Failing.{until_all, until_first, some_none, done_and_kept}
use Rattle.flush.proofs.Lists.{flush_count, flush_unmarked}
use Rattle.flush.proofs.Whole.{in_none, in_same, in_append}
use Rattle.refusals.specs.declared.Reason.TheVariants.{System, Repeated, Unknown, Suspended, Windowless, Argument}
use Rattle.refusals.specs.declared.Needs.TheVariants.{Access}
use Rattle.refusals.specs.Refusals.{Checked, Accepted, is_write, flush_marks, reason_for, code_for}
use Rattle.refusals.proofs.Accepting.{passed}
use Rattle.registers.specs.Registers.{command_of, sequence_of, argument, number, bytes_of, padded, reply}
use Rattle.marklist.specs.MarkList.{answer_for, listed}
use Rattle.mailbox.specs.Commands.{Outcome, numbered, numbered_in, marked, refused, reset_answer, info_arguments, size_for, hint, opened, dirty_answer, ack_answer, closing, stopped, closed, created, flushing, flushed_through, flushed_all}
use Rattle.mailbox.specs.Table.{Command}
use Rattle.mailbox.specs.Mediator.{command_at, command_in, reason_of, reason_in, answer_to, obeyed, mediate, response}
use Rattle.mailbox.proofs.Ends.{code_of, close_ends, flush_ends, open_ends, code_at, opened_code}
use Rattle.mailbox.proofs.Mediating.{mediate_as, carried, each_command}
use Rattle.invariants.specs.Codes.{is_create}
use Rattle.invariants.specs.Demand2.{at_close, flushed_by, flushed_for, fails_at, reached}
use Rattle.invariants.specs.Memory.{CreateCopies}
use Rattle.invariants.specs.Worn.{MapRefused, meets, kept, failing, WriteErrorExactly, FailedAsSaid, RefusedCreateAsSaid, place_of, StepsAsSaid, AllGood, Folded, GoodAsBefore, MeetsNone, FlushMended}
use Rattle.invariants.proofs.CarriedOut.{window_fits, window_room, fit, window_marks, done_reached, nothing, not_markable}
use Rattle.invariants.proofs.Demand2.{argument_late, every_command}
use Rattle.invariants.proofs.Kept.{flush_sound}
use Rattle.invariants.proofs.MarksKept.{cleared_sound}
use Rattle.invariants.proofs.Marks.{create_either, one_three, three_one}
use Rattle.invariants.proofs.Refused.{refusals_as_said}
use Rattle.invariants.proofs.Succeeding.{neither, accepted}
use Rattle.invariants.proofs.Reach.{kept_is, meets_is, zeros_at, none_failed}

-- ---- the map
unmapped : (flash worn memory : ℕ) (s : Session) → (worn ≡ round_up flash → ⊥) → sound flash worn memory s ≡ false
unmapped flash worn memory s apart =
    false_from_ne_true (sound flash worn memory s) (λ e. apart (sizes flash worn memory s e).3)

pub map_refused : MapRefused
unfolding sound_at reason_for answer_for listed advanced
map_refused setup registers m apart =
    let e = unmapped (length m.flash) (length m.worn) (length m.memory) m.session apart in
    (rw e, λ list. rw e, λ done. rw e)

-- ---- the flush of a sound session fails where it meets a worn block
module _ (s : Session) (flash worn memory : List ℕ) (e : sound (length flash) (length worn) (length memory) s ≡ true) where
  fails_is : (flush_whole (lent s flash worn memory)).failed ≡ meets worn s.first s.marks
  unfolding flush_whole
  fails_is = rw e (sym (meets_is worn s.first s.size s.marks (window_marks s flash worn memory e)))

  whole_flash : (flush_whole (lent s flash worn memory)).flash ≡ perform_in s memory (done_actions (lent s flash worn memory)) flash
  unfolding flush_whole
  whole_flash = rw e refl

  kept_left : (flush_whole (lent s flash worn memory)).failed ≡ true → (flush_whole (lent s flash worn memory)).marks ≡ kept worn s.first s.marks
  unfolding flush_whole
  kept_left f =
      rw e
      (ap (λ (t : Bool). cond t (marks_kept (window_worn s worn) s.marks) clean) (rw e at f)
      ∙ sym (kept_is worn s.first s.size s.marks (window_marks s flash worn memory e)))

  -- a window that is closed is flushed if it is a write window, and only then has marks
  unmarked_meets : is_write s.window ≡ false → meets worn s.first s.marks ≡ false
  unmarked_meets w =
      let clear = flush_unmarked s.marks (rw (not_markable s.window s.size w) at (fit s flash worn memory e).marks) in
      meets_is worn s.first s.size s.marks (window_marks s flash worn memory e)
      ∙ ap (some_fail (window_worn s worn)) clear
      ∙ some_none (window_worn s worn)

  closes_fail : (flush_whole (lent s flash worn memory)).failed ≡ failing worn (at_close s)
  closes_fail =
      fails_is
      ∙ chosen (λ (o : Option Session). meets worn s.first s.marks ≡ failing worn o) (is_write s.window) (Some s) None (λ _. refl) unmarked_meets

-- ---- a code of 3, exactly where a test holds
abbrev Exactly : Bool → Outcome → Type 0
Exactly b o = (b ≡ true → code_of o ≡ 3) × (b ≡ false → code_of o ≡ 3 → ⊥)

not_three : (b : Bool) (o : Outcome) → b ≡ false → (code_of o ≡ 3 → ⊥) → Exactly b o
not_three b o f n = (λ t. absurd (true≢false (sym t ∙ f)), λ _. n)

-- and else 1
abbrev Either : Bool → Outcome → Type 0
Either b o = (b ≡ true → code_of o ≡ 3) × (b ≡ false → code_of o ≡ 1)

is_three : (b : Bool) (o : Outcome) → b ≡ true → code_of o ≡ 3 → Either b o
is_three b o t c = (λ _. c, λ f. absurd (true≢false (sym t ∙ f)))

is_one : (b : Bool) (o : Outcome) → b ≡ false → code_of o ≡ 1 → Either b o
is_one b o f c = (λ t. absurd (true≢false (sym t ∙ f)), λ _. c)

exactly : (b : Bool) (o : Outcome) → Either b o → Exactly b o
exactly b o e = (e.0, λ f q. one_three (sym (e.1 f) ∙ q))

two_three : ◌≡◌ {A = ℕ} 2 3 → ⊥
two_three q = omega arith

four_three : ◌≡◌ {A = ℕ} 4 3 → ⊥
four_three q = omega arith

module _ (setup : Setup) (registers : List ℕ) (m : Machine) where
  abbrev s : Session
  s = m.session

  abbrev next : Machine
  next = numbered_in registers m

  -- the session that a FLUSH works from
  abbrev adding : Session
  adding = flushing (numbered s registers) registers

  close_fails : (reason_in setup registers m ≡ Err System → ⊥) → (flush_whole next).failed ≡ failing m.worn (at_close s)
  close_fails fine = closes_fail (numbered s registers) m.flash m.worn m.memory (flush_sound setup registers m fine).0 ∙ same (is_write s.window)
    where
      same : (writes : Bool) → failing m.worn (cond writes (Some (numbered s registers)) None) ≡ failing m.worn (cond writes (Some s) None)
      same true = refl
      same false = refl

  -- its place and its marks are those of the session with the marks that are added
  added_meets : (adds : Bool) → meets m.worn (cond adds (marked dirty (numbered s registers) registers) (numbered s registers)).first (cond adds (marked dirty (numbered s registers) registers) (numbered s registers)).marks
      ≡ meets m.worn (cond adds (marked dirty s registers) s).first (cond adds (marked dirty s registers) s).marks
  added_meets true = refl
  added_meets false = refl

  module _ (c : command_of registers ≡ 8) (a : reason_in setup registers m ≡ Accepted) where
    adding_sound : sound (length m.flash) (length m.worn) (length m.memory) adding ≡ true
    adding_sound = (flush_sound setup registers m (λ q. cc)).1 c a

    flush_fails_lem : (flush_whole (holding adding m)).failed ≡ failing m.worn (Some (flushing s registers))
    flush_fails_lem = fails_is adding m.flash m.worn m.memory adding_sound ∙ added_meets (flush_marks s registers)

  -- a command that no check refused, by its row
  abbrev Served : ℕ → Command → Type 0
  Served n c =
      command_of registers ≡ n → reason_in setup registers m ≡ Accepted → reason_of c (sound_in setup m) registers m ≡ Accepted
      → Either (failing m.worn (flushed_by n s registers)) (c.leaves setup registers next)

  accepted_fine : reason_in setup registers m ≡ Accepted → reason_in setup registers m ≡ Err System → ⊥
  accepted_fine a q = cc

  served_create : (w : Window) → reason_in setup registers m ≡ Accepted → Either (failing m.worn (at_close s)) (created w setup registers next)
  served_create w a =
      let b = failing m.worn (at_close s) in
      let is = close_fails (accepted_fine a) in
      let o = number 2 0 registers in
      let z = size_for (round_up (length m.flash)) (round_up (length m.memory)) o (hint s registers) in
      open_ends (Either b) registers next w o z setup (λ f. is_three b (closing 3 registers next) (sym is ∙ f) refl)
      (λ f. is_one b (opened w o z setup registers next) (sym is ∙ f) (opened_code w o z setup registers next))

  served_close : reason_in setup registers m ≡ Accepted → Either (failing m.worn (at_close s)) (closed registers next)
  served_close a =
      let b = failing m.worn (at_close s) in
      let is = close_fails (accepted_fine a) in
      close_ends (Either b) registers next (λ f. is_three b (stopped registers next) (sym is ∙ f) refl) (λ f. is_one b (closing 1 registers next) (sym is ∙ f) refl)

  served_flush : command_of registers ≡ 8 → reason_in setup registers m ≡ Accepted
      → Either (failing m.worn (Some (flushing s registers))) (flushed_all registers (holding adding m))
  served_flush c a =
      let b = failing m.worn (Some (flushing s registers)) in
      let is = flush_fails_lem c a in
      flush_ends (Either b) registers (holding adding m) (λ f. is_three b (stopped registers (holding adding m)) (sym is ∙ f) refl)
      (λ f. is_one b (flushed_through registers (holding adding m)) (sym is ∙ f) refl)

  served_exactly : (n : ℕ) → Served n (command_at n)
  served_exactly =
      let S = round_up (length m.flash) in
      let told = cond (ltb s.version 2) (bytes_of 4 (to_bytes S) ++ bytes_of 4 block_bytes) (bytes_of 2 S ++ bytes_of 2 1) in
      let info = info_arguments (min (argument 0 registers) 2) (round_up (length m.memory)) setup.timeout in
      each_command Served
      (λ c a r. no (reset_answer (numbered s registers) registers).registers refl)
      (λ c a r. no (reply registers 1 (padded info) s.events) (code_at registers 1 info s.events))
      (λ c a r. no (reply registers 1 (padded told) s.events) (code_at registers 1 told s.events))
      (λ c a r. served_create Read a)
      (λ c a r. served_close a)
      (λ c a r. served_create Write a)
      (λ c a r. no (dirty_answer (numbered s registers) registers).registers refl)
      (λ c a r. served_flush c a)
      (λ c a r. no (ack_answer (numbered s registers) registers).registers refl)
      (λ c a r. no (dirty_answer (numbered s registers) registers).registers refl)
      (λ n c a r. absurd (false≢true (passed (sound_in setup m) s registers false Access false r).knows))
    where
      no : (shown : List ℕ) → get_or shown 13 0 ≡ 1 → (false ≡ true → get_or shown 13 0 ≡ 3) × (false ≡ false → get_or shown 13 0 ≡ 1)
      no shown c = (λ t. absurd (false≢true t), λ _. c)

  -- a refusal for an argument
  broken_create : (reason_in setup registers m ≡ Err System → ⊥) → Exactly (failing m.worn (at_close s)) (closing (cond (flush_whole next).failed 3 2) registers next)
  broken_create fine =
      subst (λ (b : Bool). Exactly b (closing (cond (flush_whole next).failed 3 2) registers next)) (close_fails fine) (by (flush_whole next).failed)
    where
      by : (b : Bool) → Exactly b (closing (cond b 3 2) registers next)
      by true = exactly true (closing 3 registers next) (is_three true (closing 3 registers next) refl refl)
      by false = not_three false (closing 2 registers next) refl two_three

  abbrev Broken : ℕ → Command → Type 0
  Broken n c =
      reason_of c (sound_in setup m) registers m ≡ Err Argument → Exactly (failing m.worn (cond (is_create n) (at_close s) None)) (c.when_broken 2 registers next)

  broken_exactly : (reason_in setup registers m ≡ Err System → ⊥) → (n : ℕ) → Broken n (command_at n)
  broken_exactly fine =
      let no = not_three false (refused 2 registers next) refl two_three in
      each_command Broken
      (λ a. no) (λ a. no) (λ a. no) (λ a. broken_create fine) (λ a. no) (λ a. broken_create fine) (λ a. no) (λ a. no) (λ a. no) (λ a. no)
      (λ n a. absurd (false≢true (argument_late (sound_in setup m) s registers false Access false a).1))

  -- whatever the first check that refuses
  answered : (r : Checked) → reason_in setup registers m ≡ r
      → Exactly (failing m.worn (flushed_for r s registers)) (answer_to r (command_in registers) setup registers m)
  unfolding answer_to
  answered Accepted a = exactly (failing m.worn (flushed_for Accepted s registers)) ((command_in registers).leaves setup registers next) (served_exactly (command_of registers) refl a a)
  answered (Err System) a = not_three false (refused 4 registers m) refl four_three
  answered (Err Repeated) a = not_three false (refused (code_for s.version (Err Repeated)) registers next) refl (neither 3 2 8 (λ q. omega arith) (λ q. omega arith) (ltb s.version 2))
  answered (Err Unknown) a = not_three false (refused 2 registers next) refl two_three
  answered (Err Suspended) a = not_three false (refused (code_for s.version (Err Suspended)) registers next) refl (neither 3 5 6 (λ q. omega arith) (λ q. omega arith) (ltb s.version 2))
  answered (Err Windowless) a = not_three false (refused (code_for s.version (Err Windowless)) registers next) refl (neither 3 2 7 (λ q. omega arith) (λ q. omega arith) (ltb s.version 2))
  answered (Err Argument) a = broken_exactly (λ q. cc) (command_of registers) a

pub write_error_exactly : WriteErrorExactly
unfolding mediate obeyed answer_to
write_error_exactly setup registers m =
    let e = answered setup registers m (reason_in setup registers m) refl in (
      e.0,
      e.1,
      λ a f. ap code_of (mediate_as setup registers m Accepted a) ∙ (served_exactly setup registers m (command_of registers) refl a a).1 f,
    )

-- ---- what is left
-- a flush fails only where no check refuses a command, or the last one a create
failing_for : (worn : List ℕ) (r : Checked) (s : Session) (registers : List ℕ) → failing worn (flushed_for r s registers) ≡ true
    → (r ≡ Accepted) ⊎ ((r ≡ Err Argument) × (is_create (command_of registers) ≡ true))
failing_for worn Accepted s registers f = inl refl
failing_for worn (Err System) s registers f = absurd (false≢true f)
failing_for worn (Err Repeated) s registers f = absurd (false≢true f)
failing_for worn (Err Unknown) s registers f = absurd (false≢true f)
failing_for worn (Err Suspended) s registers f = absurd (false≢true f)
failing_for worn (Err Windowless) s registers f = absurd (false≢true f)
failing_for worn (Err Argument) s registers f =
    ⊎_elim
    (λ (c : is_create (command_of registers) ≡ true). inr (refl, c))
    (λ (c : is_create (command_of registers) ≡ false). absurd (false≢true (sym (ap (λ (t : Bool). failing worn (cond t (at_close s) None)) c) ∙ f)))
    (decided (is_create (command_of registers)))

module _ (setup : Setup) (registers : List ℕ) (m : Machine) (three : response setup registers m ≡ 3) where
  -- it does
  does : failing m.worn (flushed_for (reason_in setup registers m) m.session registers) ≡ true
  does =
      true_from_ne_false (failing m.worn (flushed_for (reason_in setup registers m) m.session registers))
      (λ f. (write_error_exactly setup registers m).1 f three)

  pub three_for : (reason_in setup registers m ≡ Accepted) ⊎ ((reason_in setup registers m ≡ Err Argument) × (is_create (command_of registers) ≡ true))
  three_for = failing_for m.worn (reason_in setup registers m) m.session registers does

  pub three_accepted : is_create (command_of registers) ≡ false → reason_in setup registers m ≡ Accepted
  three_accepted n = ⊎_elim (λ a. a) (λ (p : (reason_in setup registers m ≡ Err Argument) × (is_create (command_of registers) ≡ true)). absurd (false≢true (sym n ∙ p.1))) three_for

  -- what a FLUSH leaves, by the session that it works from
  pub flush_left_lem : (c : command_of registers ≡ 8) (a : reason_in setup registers m ≡ Accepted)
      → ((flush_whole (holding (adding setup registers m) m)).failed ≡ true) × (mediate setup registers m ≡ stopped registers (holding (adding setup registers m) m))
  unfolding command_at
  flush_left_lem c a =
      let t = holding (adding setup registers m) m in
      let left = carried setup registers m 8 c a in
      let f =
      true_from_ne_false (flush_whole t).failed
      (λ f. one_three (sym (ap code_of (left ∙ ap (λ (b : Bool). cond b (stopped registers t) (flushed_through registers t)) f)) ∙ three)) in
      (f, left ∙ ap (λ (b : Bool). cond b (stopped registers t) (flushed_through registers t)) f)

  -- and a CLOSE_WINDOW
  pub close_left : (c : command_of registers ≡ 5) (a : reason_in setup registers m ≡ Accepted)
      → ((flush_whole (numbered_in registers m)).failed ≡ true) × (mediate setup registers m ≡ stopped registers (numbered_in registers m))
  unfolding command_at
  close_left c a =
      let t = numbered_in registers m in
      let left = carried setup registers m 5 c a in
      let f =
      true_from_ne_false (flush_whole t).failed
      (λ f. one_three (sym (ap code_of (left ∙ ap (λ (b : Bool). cond b (stopped registers t) (closing 1 registers t)) f)) ∙ three)) in
      (f, left ∙ ap (λ (b : Bool). cond b (stopped registers t) (closing 1 registers t)) f)

  -- and a create, also one that is refused for its argument
  pub create_left : is_create (command_of registers) ≡ true → mediate setup registers m ≡ closing 3 registers (numbered_in registers m)
  unfolding command_at
  create_left c =
      let t = numbered_in registers m in
      ⊎_elim
      (λ (a : reason_in setup registers m ≡ Accepted).
      create_either (λ _. mediate setup registers m ≡ closing 3 registers t) (command_of registers) c
      (λ e. opens Read (carried setup registers m 4 e a)) (λ e. opens Write (carried setup registers m 6 e a)))
      (λ (p : (reason_in setup registers m ≡ Err Argument) × (is_create (command_of registers) ≡ true)).
      let left = (refusals_as_said setup registers m).1 p.1 p.0 in
      left ∙ ap (λ (code : ℕ). closing code registers t) (sym (ap code_of left) ∙ three))
      three_for
    where
      opens : (w : Window) → mediate setup registers m ≡ created w setup registers (numbered_in registers m) → mediate setup registers m ≡ closing 3 registers (numbered_in registers m)
      opens w left =
          let t = numbered_in registers m in
          let o = number 2 0 registers in
          let z = size_for (round_up (length m.flash)) (round_up (length m.memory)) o (hint m.session registers) in
          left
          ∙ open_ends (λ (x : Outcome). code_of x ≡ 3 → x ≡ closing 3 registers t) registers t w o z setup (λ _ _. refl)
          (λ _ q. absurd (one_three (sym (opened_code w o z setup registers t) ∙ q))) (sym (ap code_of left) ∙ three)

-- the session that a FLUSH leaves, with or without marks of its own
added_left : (s : Session) (registers marks : List ℕ) (adds : Bool)
    → (with_marks marks (cond adds (marked dirty (numbered s registers) registers) (numbered s registers)) ≡ with_previous (Some (sequence_of registers)) (with_marks marks s))
    × ((cond adds (marked dirty (numbered s registers) registers) (numbered s registers)).first ≡ s.first)
    × ((cond adds (marked dirty (numbered s registers) registers) (numbered s registers)).marks ≡ (cond adds (marked dirty s registers) s).marks)
added_left s registers marks true = (refl, refl, refl)
added_left s registers marks false = (refl, refl, refl)

-- the registers of an answer with code 3 and no arguments
abbrev three_shown : List ℕ → ℕ → List ℕ
three_shown registers events = command_of registers ∷ sequence_of registers ∷ (replicate 11 0 ++ (3 ∷ get_or registers 14 0 ∷ events ∷ []))

pub failed_as_said : FailedAsSaid
failed_as_said setup registers m three = (
  λ c.
      let a = three_accepted setup registers m three (ap is_create c) in
      let left = flush_left_lem setup registers m three c a in
      let t = adding setup registers m in
      let marks = (flush_whole (holding t m)).marks in
      let same = kept_left t m.flash m.worn m.memory (adding_sound setup registers m c a) left.0
      ∙ ap (λ (n : ℕ). kept m.worn n t.marks) (added_left m.session registers marks (flush_marks m.session registers)).1
      ∙ ap (kept m.worn m.session.first) (added_left m.session registers marks (flush_marks m.session registers)).2 in
      let session = (added_left m.session registers marks (flush_marks m.session registers)).0 in
      record {
        shown = ap (λ (o : Outcome). o.registers) left.1 ∙ ap (λ (u : Session). three_shown registers u.events) session;
        left =
            ap (λ (o : Outcome). o.machine.session) left.1
            ∙ session
            ∙ ap (λ (ms : List ℕ). with_previous (Some (sequence_of registers)) (with_marks ms m.session)) same;
        memory_same = ap (λ (o : Outcome). o.machine.memory) left.1;
        map_same = ap (λ (o : Outcome). o.machine.worn) left.1;
      },
  λ c.
      let a = three_accepted setup registers m three (ap is_create c) in
      let left = close_left setup registers m three c a in
      let fine = accepted_fine setup registers m a in
      let same = kept_left (numbered m.session registers) m.flash m.worn m.memory (flush_sound setup registers m fine).0 left.0 in
      record {
        shown = ap (λ (o : Outcome). o.registers) left.1;
        left = ap (λ (o : Outcome). o.machine.session) left.1 ∙ ap (λ (ms : List ℕ). with_previous (Some (sequence_of registers)) (with_marks ms m.session)) same;
        memory_same = ap (λ (o : Outcome). o.machine.memory) left.1;
        map_same = ap (λ (o : Outcome). o.machine.worn) left.1;
      },
  λ c.
      let left = create_left setup registers m three c in
      record {
        shown = ap (λ (o : Outcome). o.registers) left;
        left = ap (λ (o : Outcome). o.machine.session) left;
        memory_same = ap (λ (o : Outcome). o.machine.memory) left;
        map_same = ap (λ (o : Outcome). o.machine.worn) left;
      },
)

-- a create that is refused for its argument
pub refused_create_as_said : RefusedCreateAsSaid
refused_create_as_said setup registers m c a =
    let left = (refusals_as_said setup registers m).1 c a in
    let code : ◌≡◌ {A = ℕ} (cond (flush_whole (numbered_in registers m)).failed 3 2) (cond (failing m.worn (at_close m.session)) 3 2) =
    ap (λ (b : Bool). cond b 3 2) (close_fails setup registers m (λ q. cc)) in
    let is = left ∙ ap (λ (n : ℕ). closing n registers (numbered_in registers m)) code in
    record {
      shown = ap (λ (o : Outcome). o.registers) is;
      left = ap (λ (o : Outcome). o.machine.session) is;
      memory_same = ap (λ (o : Outcome). o.machine.memory) is;
      map_same = ap (λ (o : Outcome). o.machine.worn) is;
    }

-- ---- the steps
awake : (s : Session) (flash worn memory : List ℕ) (done : ℕ) → sound (length flash) (length worn) (length memory) s ≡ true → s.suspended ≡ false
    → advanced (lent s flash worn memory) done ≡ record {
      code = cond (not (has_next (lent s flash worn memory) done) && flush_fails (lent s flash worn memory)) 3 1;
      yes = has_next (lent s flash worn memory) done;
      flash = perform_next (lent s flash worn memory) done;
    }
unfolding advanced
awake s flash worn memory done e u = rw (e, u)

asleep : (s : Session) (flash worn memory : List ℕ) (done : ℕ) → sound (length flash) (length worn) (length memory) s ≡ true → s.suspended ≡ true
    → advanced (lent s flash worn memory) done ≡ record { code = 6; yes = false; flash = flash }
unfolding advanced
asleep s flash worn memory done e u = rw (e, u)

unsound_step : (s : Session) (flash worn memory : List ℕ) (done : ℕ) → sound (length flash) (length worn) (length memory) s ≡ false
    → advanced (lent s flash worn memory) done ≡ record { code = 4; yes = false; flash = flash }
unfolding advanced
unsound_step s flash worn memory done e = rw e

-- the action after the first so many of the first n of a list is that of the list
next_of : (n j : ℕ) (xs : List Action) → j < n → take 1 (drop j (take n xs)) ≡ take 1 (drop j xs)
next_of zero j xs h = absurd (omega arith)
next_of (suc n) zero [] h = refl
next_of (suc n) zero (x ∷ xs) h = refl
next_of (suc n) (suc j) [] h = refl
next_of (suc n) (suc j) (x ∷ xs) h = next_of n j xs (omega arith)

module _ (m : Machine) (e : sound (length m.flash) (length m.worn) (length m.memory) m.session ≡ true) where
  -- where the failing erase is, or the end
  pub place_is : length (done_actions m) ≡ place_of m
  place_is =
      ap length (done_reached m.session m.flash m.worn m.memory e) ∙ flush_count (reached m.worn m.session.first m.session.marks)

  pub meets_fails : flush_fails m ≡ meets m.worn m.session.first m.session.marks
  meets_fails = sym (meets_is m.worn m.session.first m.session.size m.session.marks (window_marks m.session m.flash m.worn m.memory e))

  module _ (done : ℕ) (u : m.session.suspended ≡ false) where
    before_place : done < length (done_actions m)
        → advanced m done ≡ record { code = 1; yes = true; flash = perform_in m.session m.memory (take 1 (drop done (window_actions m.session))) m.flash }
    before_place h =
        let t = lt-ltb done (length (done_actions m)) h in
        let code : ◌≡◌ {A = ℕ} (cond (not (has_next m done) && flush_fails m) 3 1) 1 = ap (λ (more : Bool). cond (not more && flush_fails m) 3 1) t in
        let first = until_first (window_worn m.session m.worn) (window_actions m.session) in
        let flash = ap (λ (xs : List Action). perform_in m.session m.memory (take 1 (drop done xs)) m.flash) first
        ∙ ap (λ (xs : List Action). perform_in m.session m.memory xs m.flash) (next_of (length (done_actions m)) done (window_actions m.session) h) in
        awake m.session m.flash m.worn m.memory done e u ∙ (λ i. record { code = code i; yes = t i; flash = flash i })

    from_place : length (done_actions m) ≤ done
        → advanced m done ≡ record { code = cond (meets m.worn m.session.first m.session.marks) 3 1; yes = false; flash = m.flash }
    from_place h =
        let t = le-ltb done (length (done_actions m)) h in
        let code : ◌≡◌ {A = ℕ} (cond (not (has_next m done) && flush_fails m) 3 1) (cond (meets m.worn m.session.first m.session.marks) 3 1) =
        ap (λ (more : Bool). cond (not more && flush_fails m) 3 1) t ∙ ap (λ (fails : Bool). cond fails 3 1) meets_fails in
        awake m.session m.flash m.worn m.memory done e u ∙ (λ i. record { code = code i; yes = t i; flash = unchanged i })
      where
        unchanged : perform_in m.session m.memory (take 1 (drop done (done_actions m))) m.flash ≡ m.flash
        unchanged =
            ap (λ (xs : List Action). perform_in m.session m.memory (take 1 xs) m.flash) (drop_of_length-le (done_actions m) h)
            ∙ in_none m.session m.flash (window_fits m.session m.flash m.worn m.memory e) m.memory (window_room m.session m.flash m.worn m.memory e)

pub steps_as_said : StepsAsSaid
steps_as_said m done = (
  λ e. unsound_step m.session m.flash m.worn m.memory done e,
  λ e. (
    λ u. asleep m.session m.flash m.worn m.memory done e u,
    λ u h. before_place m e done u (subst (λ (n : ℕ). done < n) (sym (place_is m e)) h),
    λ u h. from_place m e done u (subst (λ (n : ℕ). n ≤ done) (sym (place_is m e)) h),
  ),
)

-- ---- with every block good
good_meets : (worn : List ℕ) → AllGood worn → (c : ℕ) (marks : List ℕ) → meets worn c marks ≡ false
good_meets worn good c [] = refl
good_meets worn good c (mark ∷ marks) =
    ap (λ (t : Bool). t || meets worn (suc c) marks) here ∙ good_meets worn good (suc c) marks
  where
    here : fails_at worn c mark ≡ false
    here = ap (λ (byte : ℕ). not (eqb mark 0) && not (eqb byte 0)) (good c) ∙ and-false (not (eqb mark 0))

good_failing : (worn : List ℕ) → AllGood worn → (o : Option Session) → failing worn o ≡ false
good_failing worn good None = refl
good_failing worn good (Some s) = good_meets worn good s.first s.marks

-- a flush that meets no worn block does all of its actions
module _ (s : Session) (flash worn memory : List ℕ) (e : sound (length flash) (length worn) (length memory) s ≡ true) (good : meets worn s.first s.marks ≡ false) where
  all_done : done_actions (lent s flash worn memory) ≡ window_actions s
  all_done =
      until_all (window_worn s worn) (window_actions s)
      (sym (meets_is worn s.first s.size s.marks (window_marks s flash worn memory e)) ∙ good)

  pub folds : ((flush_whole (lent s flash worn memory)).flash ≡ perform_in s memory (window_actions s) flash)
      × ((flush_whole (lent s flash worn memory)).actions ≡ length (window_actions s))
  unfolding flush_whole
  folds = rw e (ap (λ (xs : List Action). perform_in s memory xs flash) all_done, ap length all_done)

-- what is done goes by the window's place and size, and the number has no part in it
folded_as : (s t : Session) (flash memory after : List ℕ) (actions : ℕ) → t.first ≡ s.first → t.size ≡ s.size → t.marks ≡ s.marks
    → (after ≡ perform_in t memory (window_actions t) flash) × (actions ≡ length (window_actions t)) → Folded (Some s) flash memory after actions
folded_as s t flash memory after actions f z m d = (
  d.0 ∙ in_same t s f z memory (window_actions t) flash ∙ ap (λ (marks : List ℕ). perform_in s memory (flush_actions marks) flash) m,
  d.1 ∙ ap (λ (marks : List ℕ). length (flush_actions marks)) m,
)

added_same : (s : Session) (registers : List ℕ) (adds : Bool)
    → ((cond adds (marked dirty (numbered s registers) registers) (numbered s registers)).first ≡ (cond adds (marked dirty s registers) s).first)
    × ((cond adds (marked dirty (numbered s registers) registers) (numbered s registers)).size ≡ (cond adds (marked dirty s registers) s).size)
    × ((cond adds (marked dirty (numbered s registers) registers) (numbered s registers)).marks ≡ (cond adds (marked dirty s registers) s).marks)
added_same s registers true = (refl, refl, refl)
added_same s registers false = (refl, refl, refl)

-- and the marks that a FLUSH adds leave the window where it is
added_place : (s : Session) (registers : List ℕ) (adds : Bool)
    → ((cond adds (marked dirty s registers) s).first ≡ s.first) × ((cond adds (marked dirty s registers) s).size ≡ s.size)
added_place s registers true = (refl, refl)
added_place s registers false = (refl, refl)

module _ (setup : Setup) (s : Session) (registers flash worn memory : List ℕ) (good : AllGood worn) where
  closed_folds : sound (length flash) (length worn) (length memory) s ≡ true
      → Folded (at_close s) flash memory (flush_whole (lent (numbered s registers) flash worn memory)).flash (flush_whole (lent (numbered s registers) flash worn memory)).actions
  unfolding sound session_sound
  closed_folds e =
      let t = numbered s registers in
      let after = (flush_whole (lent t flash worn memory)).flash in
      let actions = (flush_whole (lent t flash worn memory)).actions in
      chosen (λ (o : Option Session). Folded o flash memory after actions) (is_write s.window) (Some s) None
      (λ _. folded_as s t flash memory after actions refl refl refl (folds t flash worn memory e (good_meets worn good s.first s.marks)))
      (λ w. nothing t flash worn memory e w)

  flushed_folds : sound (length flash) (length worn) (length memory) (flushing (numbered s registers) registers) ≡ true
      → Folded (Some (flushing s registers)) flash memory (flush_whole (lent (flushing (numbered s registers) registers) flash worn memory)).flash
      (flush_whole (lent (flushing (numbered s registers) registers) flash worn memory)).actions
  flushed_folds e =
      let t = flushing (numbered s registers) registers in
      let same = added_same s registers (flush_marks s registers) in
      folded_as (flushing s registers) t flash memory _ _ same.0 same.1 same.2 (folds t flash worn memory e (good_meets worn good t.first t.marks))

pub good_as_before : GoodAsBefore
good_as_before setup registers m good = (
  (write_error_exactly setup registers m).1 (good_failing m.worn good (flushed_for (reason_in setup registers m) m.session registers)),
  every_command setup m.session registers m.flash m.worn m.memory (λ t after actions. Folded t m.flash m.memory after actions) (refl, refl)
      (closed_folds setup m.session registers m.flash m.worn m.memory good) (flushed_folds setup m.session registers m.flash m.worn m.memory good),
)

-- ---- after a failed flush: what was done, and what the marks that are kept ask for, is all
module _ (t : Session) (flash worn memory : List ℕ) (e : sound (length flash) (length worn) (length memory) t ≡ true) where
  sound_marks : marks_sound t.size t.marks ≡ true
  sound_marks = window_marks t flash worn memory e

  abbrev kept_actions : List Action
  kept_actions = flush_actions (marks_kept (window_worn t worn) t.marks)

  goes_on : perform_in t memory kept_actions (perform_in t memory (done_actions (lent t flash worn memory)) flash) ≡ perform_in t memory (window_actions t) flash
  goes_on =
      in_append t flash (window_fits t flash worn memory e) memory (window_room t flash worn memory e) (done_actions (lent t flash worn memory)) kept_actions
      (subst (AllIn t.size) (sym (until_first (window_worn t worn) (window_actions t)))
      (all_take t.size (length (done_actions (lent t flash worn memory))) (window_actions t) (all_flush t.size t.marks sound_marks)))
      (all_flush t.size (marks_kept (window_worn t worn) t.marks) (cleared_sound (finished_blocks (window_worn t worn) t.marks) t.size t.marks sound_marks))
      ∙ ap (λ (xs : List Action). perform_in t memory xs flash) (sym (done_and_kept (window_worn t worn) t.marks))

  -- a flush of the marks that are left, of the same window
  mended : (u : Session) → (flush_whole (lent t flash worn memory)).failed ≡ true → u.first ≡ t.first → u.size ≡ t.size → u.marks ≡ (flush_whole (lent t flash worn memory)).marks
      → perform_in u memory (window_actions u) (flush_whole (lent t flash worn memory)).flash ≡ perform_in t memory (window_actions t) flash
  mended u f first size marks =
      in_same u t first size memory (window_actions u) (flush_whole (lent t flash worn memory)).flash
      ∙ ap (λ (ms : List ℕ). perform_in t memory (flush_actions ms) (flush_whole (lent t flash worn memory)).flash) (marks ∙ kept_left t flash worn memory e f ∙ kept_is worn t.first t.size t.marks sound_marks)
      ∙ ap (perform_in t memory kept_actions) flash_left
      ∙ goes_on
    where
      flash_left : (flush_whole (lent t flash worn memory)).flash ≡ perform_in t memory (done_actions (lent t flash worn memory)) flash
      flash_left = whole_flash t flash worn memory e

-- with every block good, on the same sizes, a command is refused by the same check
module _ (setup : Setup) (registers : List ℕ) (m : Machine) where
  abbrev zeroed : Machine
  zeroed = wearing (replicate (length m.worn) 0) m

  zeroed_reason : reason_in setup registers zeroed ≡ reason_in setup registers m
  zeroed_reason =
      ap (λ (n : ℕ). reason_of (command_in registers) (sound_at setup (length m.flash) n (length m.memory) m.session) registers m) (length-replicate {0} {A = ℕ} (length m.worn) 0)

  zeroed_good : AllGood zeroed.worn
  zeroed_good block = zeros_at (length m.worn) block

  -- and the flush of a sound session does all of its actions
  zeroed_folds : (t : Session) → sound (length m.flash) (length m.worn) (length m.memory) t ≡ true
      → (flush_whole (holding t zeroed)).flash ≡ perform_in t m.memory (window_actions t) m.flash
  zeroed_folds t e =
      (folds t m.flash zeroed.worn m.memory
      (ap (λ (n : ℕ). sound (length m.flash) n (length m.memory) t) (length-replicate {0} {A = ℕ} (length m.worn) 0) ∙ e)
      (good_meets zeroed.worn zeroed_good t.first t.marks)).0

  zeroed_flush : command_of registers ≡ 8 → reason_in setup registers m ≡ Accepted
      → (mediate setup registers zeroed).machine.flash ≡ perform_in (adding setup registers m) m.memory (window_actions (adding setup registers m)) m.flash
  unfolding command_at
  zeroed_flush c a =
      let t = adding setup registers m in
      let is = zeroed_folds t (adding_sound setup registers m c a) in
      ap (λ (o : Outcome). o.machine.flash) (carried setup registers zeroed 8 c (zeroed_reason ∙ a))
      ∙ flush_ends (λ (o : Outcome). o.machine.flash ≡ perform_in t m.memory (window_actions t) m.flash) registers (holding t zeroed) (λ _. is) (λ _. is)

  zeroed_close : command_of registers ≡ 5 → reason_in setup registers m ≡ Accepted
      → (mediate setup registers zeroed).machine.flash ≡ perform_in (numbered m.session registers) m.memory (window_actions (numbered m.session registers)) m.flash
  unfolding command_at
  zeroed_close c a =
      let t = numbered m.session registers in
      let is = zeroed_folds t (flush_sound setup registers m (accepted_fine setup registers m a)).0 in
      ap (λ (o : Outcome). o.machine.flash) (carried setup registers zeroed 5 c (zeroed_reason ∙ a))
      ∙ close_ends (λ (o : Outcome). o.machine.flash ≡ perform_in t m.memory (window_actions t) m.flash) registers (holding t zeroed) (λ _. is) (λ _. is)

-- a FLUSH that is not refused, adds no mark and meets no worn block
module _ (setup : Setup) (registers : List ℕ) (m : Machine) (c : command_of registers ≡ 8) (a : reason_in setup registers m ≡ Accepted)
    (same : (flushing m.session registers).marks ≡ m.session.marks) (good : MeetsNone m.worn m.session) where
  abbrev from : Session
  from = adding setup registers m

  from_is : (from.first ≡ m.session.first) × (from.size ≡ m.session.size) × (from.marks ≡ m.session.marks)
  from_is =
      let n = added_same m.session registers (flush_marks m.session registers) in
      let p = added_place m.session registers (flush_marks m.session registers) in
      (n.0 ∙ p.0, n.1 ∙ p.1, n.2 ∙ same)

  from_good : MeetsNone m.worn from
  from_good b h =
      ap (λ (n : ℕ). get_or m.worn (n + b) 0) from_is.0 ∙ good b (ap (λ (marks : List ℕ). is_marked (get_or marks b 0)) (sym from_is.2) ∙ h)

  passes : (flush_whole (holding from m)).failed ≡ false
  passes = none_failed from m.flash m.worn m.memory from_good

  through : mediate setup registers m ≡ flushed_through registers (holding from m)
  unfolding command_at
  through =
      carried setup registers m 8 c a
      ∙ ap (λ (b : Bool). cond b (stopped registers (holding from m)) (flushed_through registers (holding from m))) passes

  through_flash : (mediate setup registers m).machine.flash ≡ perform_in from m.memory (window_actions from) m.flash
  through_flash =
      let e = adding_sound setup registers m c a in
      ap (λ (o : Outcome). o.machine.flash) through
      ∙ (folds from m.flash m.worn m.memory e (sym (fails_is from m.flash m.worn m.memory e) ∙ passes)).0

-- what the first leaves, of the session whose marks it carried out
module _ (setup : Setup) (registers later : List ℕ) (m : Machine) (worn : List ℕ) (t : Session)
    (e : sound (length m.flash) (length m.worn) (length m.memory) t ≡ true) (f : (flush_whole (holding t m)).failed ≡ true)
    (left : mediate setup registers m ≡ stopped registers (holding t m)) (good : MeetsNone worn (mediate setup registers m).machine.session)
    (c : command_of later ≡ 8) (a : reason_in setup later (wearing worn (mediate setup registers m).machine) ≡ Accepted)
    (same : (flushing (mediate setup registers m).machine.session later).marks ≡ (mediate setup registers m).machine.session.marks) where
  abbrev after : Machine
  after = wearing worn (mediate setup registers m).machine

  later_ends : (response setup later after ≡ 1) × ((mediate setup later after).machine.flash ≡ perform_in t m.memory (window_actions t) m.flash)
  later_ends =
      let u = adding setup later after in
      let is = from_is setup later after c a same good in
      let session = ap (λ (o : Outcome). o.machine.session) left in (
        ap code_of (through setup later after c a same good),
        through_flash setup later after c a same good
            ∙ ap (λ (memory : List ℕ). perform_in u memory (window_actions u) after.flash) (ap (λ (o : Outcome). o.machine.memory) left)
            ∙ ap (perform_in u m.memory (window_actions u)) (ap (λ (o : Outcome). o.machine.flash) left)
            ∙ mended t m.flash m.worn m.memory e u f (is.0 ∙ ap (λ (s : Session). s.first) session) (is.1 ∙ ap (λ (s : Session). s.size) session)
            (is.2 ∙ ap (λ (s : Session). s.marks) session),
      )

pub flush_mended : FlushMended
flush_mended setup registers later m worn three kind good c a same =
    ⊎_elim
    (λ (eight : command_of registers ≡ 8).
    let accepted = three_accepted setup registers m three (ap is_create eight) in
    let left = flush_left_lem setup registers m three eight accepted in
    let ends = later_ends setup registers later m worn (adding setup registers m) (adding_sound setup registers m eight accepted) left.0 left.1 good c a same in
    (ends.0, ends.1 ∙ sym (zeroed_flush setup registers m eight accepted)))
    (λ (five : command_of registers ≡ 5).
    let accepted = three_accepted setup registers m three (ap is_create five) in
    let left = close_left setup registers m three five accepted in
    let sounds = (flush_sound setup registers m (accepted_fine setup registers m accepted)).0 in
    let ends = later_ends setup registers later m worn (numbered m.session registers) sounds left.0 left.1 good c a same in
    (ends.0, ends.1 ∙ sym (zeroed_close setup registers m five accepted)))
    kind

-- ---- what a create copies
create_copied : (w : Window) (setup : Setup) (registers : List ℕ) (m : Machine) → code_of (created w setup registers m) ≡ 1
    → let after = (created w setup registers m).machine in
    after.memory ≡ range (to_bytes after.session.first) (to_bytes after.session.size) after.flash ++ drop (length (range (to_bytes after.session.first) (to_bytes after.session.size) after.flash)) m.memory
create_copied w setup registers m =
    let o = number 2 0 registers in
    let z = size_for (round_up (length m.flash)) (round_up (length m.memory)) o (hint m.session registers) in
    let new = range (to_bytes o) (to_bytes z) (flush_whole m).flash in
    let front : 0 + length new ≡ length new = omega arith in
    open_ends
    (λ (x : Outcome). code_of x ≡ 1
    → x.machine.memory ≡ range (to_bytes x.machine.session.first) (to_bytes x.machine.session.size) x.machine.flash ++ drop (length (range (to_bytes x.machine.session.first) (to_bytes x.machine.session.size) x.machine.flash)) m.memory)
    registers m w o z setup (λ _ q. absurd (three_one q)) (λ _ _. ap (λ (n : ℕ). new ++ drop n m.memory) front)

pub create_copies : CreateCopies
unfolding command_at
create_copies setup registers m c = (
  λ one.
      let a = accepted setup m.session registers m.flash m.worn m.memory one in
      create_either (λ _. copied (mediate setup registers m)) (command_of registers) c
      (λ e. let left = carried setup registers m 4 e a in subst copied (sym left) (create_copied Read setup registers (numbered_in registers m) (sym (ap code_of left) ∙ one)))
      (λ e. let left = carried setup registers m 6 e a in subst copied (sym left) (create_copied Write setup registers (numbered_in registers m) (sym (ap code_of left) ∙ one))),
  λ three. ap (λ (o : Outcome). o.machine.memory) (create_left setup registers m three c),
)
  where
    copied : Outcome → Type 0
    copied x =
        x.machine.memory ≡ range (to_bytes x.machine.session.first) (to_bytes x.machine.session.size) x.machine.flash ++ drop (length (range (to_bytes x.machine.session.first) (to_bytes x.machine.session.size) x.machine.flash)) m.memory
