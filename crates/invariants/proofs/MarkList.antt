-- A list of marks in one call: the claims stand in specs/MarkList.antt.
use Rattle.std.proofs.Common.{◌≡◌, refl, sym, ap, subst, ◌∙◌, Bool, true, false, cond, not, List, [], ◌∷◌, ◌⊎◌, inl, inr, ⊎_elim, ℕ, zero, suc, ◌+◌, ◌-◌, ◌*◌, ◌/◌, ◌%◌, ◌≤◌, ◌<◌, arith, leb, eqb, length, get_or, replicate, le-leb, le-ltb, lt-ltb, eq-eqb, ne_eqb, Err}
use mathlib.Core.Bool.{false≢true}
use borrow.Author.Tests.{eqb-false, not-false}
use Rattle.units.proofs.Cases.{decided, passed_by}
use Rattle.buffers.specs.Ranges.{replace}
use Rattle.session.specs.declared.Session.{Session}
use Rattle.session.specs.declared.Counts.{Counts}
use Rattle.session.specs.Machine.{Setup, Machine, lent, holding}
use Rattle.session.specs.Marks.{dirty}
use Rattle.session.specs.Record.{with_previous, with_counted, with_marks}
use Rattle.soundness.specs.Soundness.{sound_at, sound_in}
use Rattle.soundness.proofs.Facts.{measured}
use Rattle.registers.specs.Registers.{command_of, sequence_of, number}
use Rattle.refusals.specs.declared.Needs.TheVariants.{WriteWindow}
use Rattle.refusals.specs.declared.Reason.TheVariants.{System, Repeated, Unknown, Suspended as SuspendedCommand, Windowless as WindowlessCommand, Argument}
use Rattle.refusals.specs.Refusals.{NamedBlocks, Checked, Accepted, is_previous, is_write, blocks_named, reason_for, code_for}
use Rattle.refusals.proofs.Accepting.{passed}
use Rattle.marklist.specs.declared.ListError.TheVariants.{Unsound, OtherVersion, Suspended, Windowless, Malformed, Outside}
use Rattle.marklist.specs.MarkList.{ListAnswer, Marked, Pair, pairs_of, malformed, first_outside, answer_for, list_code, names_pair, place_named, mark_pairs, listed, listed_in, after_list}
use Rattle.marklist.proofs.InPairs.{inside_front}
use Rattle.marklist.proofs.Reaching.{pairs_marked}
use Rattle.marklist.proofs.Taken.{Taken, taken, answer_taken, within_marks, list_left, list_answer, each_check, pairs_code}
use Rattle.mailbox.specs.Commands.{Outcome, numbered}
use Rattle.mailbox.specs.Table.{from}
use Rattle.mailbox.specs.Mediator.{command_at, reason_of, reason_in, answer_to, mediate, response}
use Rattle.mailbox.proofs.Mediating.{mediate_as, carried}
use Rattle.invariants.specs.MarkList.{answer_code, ListLeaves, ListRefused, ListMarks, numbers_of, Single, after_sent, AllSucceed, FailAt, NeverRepeat, Names, ListAsCommands, ListRefusedAlike, ListAtVersion, ListMalformed, ListUnnamed}
use Rattle.invariants.proofs.Kept.{command_keeps}
use Rattle.invariants.proofs.Succeeding.{accepted}

-- ---- what it leaves
pub list_leaves : ListLeaves
list_leaves setup list m =
    list_left
    (λ (t : Session). lent t m.flash m.worn m.memory ≡ holding (with_counted t.marks t.counts m.session) m)
    setup list m refl (λ _. refl)

-- code 1 is that of a list that was marked
code_marked : (a : ListAnswer) → list_code a ≡ 1 → a ≡ Marked
code_marked Marked e = refl
code_marked (Err Unsound) e = absurd (omega arith)
code_marked (Err OtherVersion) e = absurd (omega arith)
code_marked (Err Suspended) e = absurd (omega arith)
code_marked (Err Windowless) e = absurd (omega arith)
code_marked (Err Malformed) e = absurd (omega arith)
code_marked (Err (Outside place)) e = absurd (omega arith)

answer_marked : (setup : Setup) (list : List ℕ) (m : Machine) → answer_code setup list m ≡ 1 → answer_for (sound_in setup m) list m.session ≡ Marked
answer_marked setup list m e = sym (list_answer setup list m) ∙ code_marked (listed_in setup list m).answer e

pub list_refused : ListRefused
list_refused setup list m n =
    list_left (λ (t : Session). lent t m.flash m.worn m.memory ≡ m) setup list m refl
    (λ a. absurd (n (ap list_code (list_answer setup list m ∙ a))))

-- the marks of a list that was marked
list_marked : (setup : Setup) (list : List ℕ) (m : Machine) → answer_for (sound_in setup m) list m.session ≡ Marked
    → (listed_in setup list m).session ≡ with_marks (mark_pairs (pairs_of list) m.session.marks) m.session
unfolding listed
list_marked setup list m a = rw a

-- block by block
pub list_marks : ListMarks
list_marks setup list m long e block =
    let a = answer_marked setup list m e in
    ap (λ (t : Session). get_or t.marks block 0) (list_marked setup list m a)
    ∙ pairs_marked 0 (pairs_of list) m.session.marks long (within_marks setup (length m.flash) (length m.worn) (length m.memory) list m.session a) block

-- ---- beside the single commands

-- the pairs of their own numbers, which are so many
same_pairs : (pairs : List Pair) → pairs_of (numbers_of pairs) ≡ pairs
same_pairs [] = refl
same_pairs (pair ∷ pairs) = ap (λ (t : List Pair). pair ∷ t) (same_pairs pairs)

twice : (pairs : List Pair) → length (numbers_of pairs) ≡ 2 * length pairs
twice [] = refl
twice (pair ∷ pairs) = let more = twice pairs in omega arith

formed : (pairs : List Pair) → length pairs ≤ 64 → malformed (length (numbers_of pairs)) ≡ false
formed pairs few =
    let n = twice pairs in
    let even : length (numbers_of pairs) % 2 ≡ 1 → ⊥ = λ q. omega arith in
    let small : length (numbers_of pairs) / 2 ≤ 64 = omega arith in
    rw (ne_eqb (length (numbers_of pairs) % 2) 1 even, le-ltb 64 (length (numbers_of pairs) / 2) small)

-- a machine of which no check before the arguments refuses a MARK_DIRTY at version 2, but for its number
record Ready (setup : Setup) (m : Machine) : Type 0 where
  sounds : sound_in setup m ≡ true
  two : m.session.version ≡ 2
  awake : m.session.suspended ≡ false
  writes : is_write m.session.window ≡ true

-- what a MARK_DIRTY leaves at version 2
abbrev marked_by : List ℕ → Machine → Machine
marked_by registers m =
    holding (with_marks (replace (number 2 0 registers) (replicate (number 2 2 registers) dirty) m.session.marks) (numbered m.session registers)) m

module _ (setup : Setup) (registers : List ℕ) (m : Machine) (is : command_of registers ≡ 7) (two : m.session.version ≡ 2) where
  abbrev inside : Bool
  inside = leb (number 2 0 registers + number 2 2 registers) m.session.size

  reason_is : reason_in setup registers m
      ≡ reason_for (sound_in setup m) m.session registers (from 1 m.session.version) WriteWindow (not (blocks_named m.session registers).inside)
  unfolding command_at
  reason_is = ap (λ (n : ℕ). reason_of (command_at n) (sound_in setup m) registers m) is

  known : from 1 m.session.version ≡ true
  known = rw two refl

  inside_is : (blocks_named m.session registers).inside ≡ inside
  inside_is = rw two refl

  -- one that no check refused
  ready_if : reason_in setup registers m ≡ Accepted → Ready setup m × (inside ≡ true)
  ready_if a =
      let p = passed (sound_in setup m) m.session registers (from 1 m.session.version) WriteWindow (not (blocks_named m.session registers).inside) (sym reason_is ∙ a) in (
        record { sounds = p.sounds; two = two; awake = p.awake; writes = not-false (is_write m.session.window) p.windowed },
        sym inside_is ∙ not-false (blocks_named m.session registers).inside p.argued,
      )

  leaves : reason_in setup registers m ≡ Accepted → (mediate setup registers m).machine ≡ marked_by registers m
  unfolding command_at
  leaves a =
      ap (λ (o : Outcome). o.machine) (carried setup registers m 7 is a)
      ∙ ap (λ (b : NamedBlocks). holding (with_marks (replace b.start (replicate b.count dirty) m.session.marks) (numbered m.session registers)) m) named
    where
      named : blocks_named (numbered m.session registers) registers ≡ record { inside = inside; start = number 2 0 registers; count = number 2 2 registers }
      named = rw two refl

  -- the response, by what the checks find
  abbrev repeated : Bool
  repeated = is_previous m.session.previous (sequence_of registers)

  code_is : (r : Checked) → get_or (answer_to r (command_at 7) setup registers m).registers 13 0 ≡ code_for 2 r
  unfolding answer_to command_at
  code_is Accepted = refl
  code_is (Err System) = refl
  code_is (Err Repeated) = rw two refl
  code_is (Err Unknown) = refl
  code_is (Err SuspendedCommand) = rw two refl
  code_is (Err WindowlessCommand) = rw two refl
  code_is (Err Argument) = refl

  responds_as : response setup registers m ≡ code_for 2 (reason_for (sound_in setup m) m.session registers true WriteWindow (not inside))
  responds_as =
      ap (λ (o : Outcome). get_or o.registers 13 0)
      (mediate_as setup registers m (reason_in setup registers m) refl ∙ ap (λ (n : ℕ). answer_to (reason_in setup registers m) (command_at n) setup registers m) is)
      ∙ code_is (reason_in setup registers m)
      ∙ ap (code_for 2) (reason_is ∙ (λ k. reason_for (sound_in setup m) m.session registers (known k) WriteWindow (not (inside_is k))))

  -- PARAM_ERROR is that of an argument: every check before has passed
  abbrev Two : Checked → Type 0
  Two r = code_for 2 r ≡ 2

  argued : response setup registers m ≡ 2 → Ready setup m × (inside ≡ false)
  unfolding reason_for
  argued e =
      let a = passed_by Two (not (sound_in setup m)) (Err System) _ (λ q. omega arith) (sym responds_as ∙ e) in
      let b = passed_by Two repeated (Err Repeated) _ (λ q. omega arith) a.1 in
      let c = passed_by Two m.session.suspended (Err SuspendedCommand) _ (λ q. omega arith) b.1 in
      let d = passed_by Two (not (is_write m.session.window)) (Err WindowlessCommand) _ (λ q. omega arith) c.1 in (
        record { sounds = not-false (sound_in setup m) a.0; two = two; awake = c.0; writes = not-false (is_write m.session.window) d.0 },
        last inside d.1,
      )
    where
      last : (b : Bool) → code_for 2 (cond (not b) (Err Argument) Accepted) ≡ 2 → b ≡ false
      last true q = absurd (omega arith)
      last false q = refl

  unsound_four : sound_in setup m ≡ false → response setup registers m ≡ 4
  unfolding reason_for
  unsound_four e = responds_as ∙ rw e refl

  module _ (sounds : sound_in setup m ≡ true) (new : repeated ≡ false) where
    suspended_six : m.session.suspended ≡ true → response setup registers m ≡ 6
    unfolding reason_for
    suspended_six e = responds_as ∙ rw (sounds, new, e) refl

    windowless_seven : m.session.suspended ≡ false → is_write m.session.window ≡ false → response setup registers m ≡ 7
    unfolding reason_for
    windowless_seven e w = responds_as ∙ rw (sounds, new, e, w) refl

    inside_one : m.session.suspended ≡ false → is_write m.session.window ≡ true → inside ≡ true → response setup registers m ≡ 1
    unfolding reason_for
    inside_one e w i = responds_as ∙ rw (sounds, new, e, w, i) refl

    outside_two : m.session.suspended ≡ false → is_write m.session.window ≡ true → inside ≡ false → response setup registers m ≡ 2
    unfolding reason_for
    outside_two e w i = responds_as ∙ rw (sounds, new, e, w, i) refl

  ready_next : Ready setup m → reason_in setup registers m ≡ Accepted → Ready setup (marked_by registers m)
  ready_next r a =
      record {
        sounds = subst (λ (n : Machine). sound_at setup (length m.flash) (length m.worn) (length m.memory) n.session ≡ true) (leaves a) (command_keeps setup registers m r.sounds);
        two = two;
        awake = r.awake;
        writes = r.writes;
      }

-- the place of a pair that is named comes from where the places are counted
first_least : (size place first : ℕ) (pairs : List Pair) → first_outside size place pairs ≡ Err (Outside first) → place ≤ first
first_least size place first [] e = cc
first_least size place first (pair ∷ pairs) e =
    ⊎_elim
    (λ (t : leb (pair.block + pair.count) size ≡ true).
    let rest = first_least size (suc place) first pairs (ap (λ (b : Bool). cond (not b) (Err (Outside place)) (first_outside size (suc place) pairs)) (sym t) ∙ e) in
    omega arith)
    (λ (t : leb (pair.block + pair.count) size ≡ false).
    let here = ap place_named (ap (λ (b : Bool). cond (not b) (Err (Outside place)) (first_outside size (suc place) pairs)) (sym t) ∙ e) in
    omega arith)
    (decided (leb (pair.block + pair.count) size))

module _ (setup : Setup) where
  -- pairs that all lie inside: each command succeeds
  inside_succeed : (pairs : List Pair) (sent : List (List ℕ)) (m : Machine) (place : ℕ) → Ready setup m → Single pairs sent → NeverRepeat m.session.previous sent
      → first_outside m.session.size place pairs ≡ Marked → AllSucceed setup sent m
  inside_succeed [] [] m place r single new e = tt
  inside_succeed [] (registers ∷ sent) m place r single new e = absurd single
  inside_succeed (pair ∷ pairs) [] m place r single new e = absurd single
  inside_succeed (pair ∷ pairs) (registers ∷ sent) m place r single new e =
      let f = inside_front m.session.size place pair pairs e in
      let is = single.0 in
      let first = single.1 in
      let second = single.2 in
      let within = le-leb (number 2 0 registers + number 2 2 registers) m.session.size (omega (arith, f.0, first, second)) in
      let one = inside_one setup registers m is r.two r.sounds new.0 r.awake r.writes within in
      let a = accepted setup m.session registers m.flash m.worn m.memory one in (
        one,
        subst (λ (n : Machine). AllSucceed setup sent n) (sym (leaves setup registers m is r.two a))
            (inside_succeed pairs sent (marked_by registers m) (suc place) (ready_next setup registers m is r.two r a) single.3 new.1 f.1),
      )

  -- the first pair that does not: its command is the first that fails
  outside_fails : (pairs : List Pair) (sent : List (List ℕ)) (m : Machine) (place first : ℕ) → Ready setup m → Single pairs sent → NeverRepeat m.session.previous sent
      → first_outside m.session.size place pairs ≡ Err (Outside first) → FailAt (first - place) setup sent m
  outside_fails [] sent m place first r single new e = cc
  outside_fails (pair ∷ pairs) [] m place first r single new e = absurd single
  outside_fails (pair ∷ pairs) (registers ∷ sent) m place first r single new e =
      ⊎_elim
      (λ (t : leb (pair.block + pair.count) m.session.size ≡ true).
      let one = inside_one setup registers m is r.two r.sounds new.0 r.awake r.writes (numbers ∙ t) in
      let a = accepted setup m.session registers m.flash m.worn m.memory one in
      let rest = ap (λ (b : Bool). cond (not b) (Err (Outside place)) (first_outside m.session.size (suc place) pairs)) (sym t) ∙ e in
      let later = first_least m.session.size (suc place) first pairs rest in
      let one_less : suc (first - suc place) ≡ first - place = omega arith in
      subst (λ (n : ℕ). FailAt n setup (registers ∷ sent) m) one_less (
        one,
        subst (λ (n : Machine). FailAt (first - suc place) setup sent n) (sym (leaves setup registers m is r.two a))
            (outside_fails pairs sent (marked_by registers m) (suc place) first (ready_next setup registers m is r.two r a) single.3 new.1 rest),
      ))
      (λ (t : leb (pair.block + pair.count) m.session.size ≡ false).
      let here = ap place_named (ap (λ (b : Bool). cond (not b) (Err (Outside place)) (first_outside m.session.size (suc place) pairs)) (sym t) ∙ e) in
      let none : 0 ≡ first - place = omega arith in
      subst (λ (n : ℕ). FailAt n setup (registers ∷ sent) m) none
      (outside_two setup registers m is r.two r.sounds new.0 r.awake r.writes (numbers ∙ t)))
      (decided (leb (pair.block + pair.count) m.session.size))
    where
      is : command_of registers ≡ 7
      is = single.0

      numbers : leb (number 2 0 registers + number 2 2 registers) m.session.size ≡ leb (pair.block + pair.count) m.session.size
      numbers = λ k. leb (single.1 k + single.2 k) m.session.size

  -- where all commands succeed: no pair lies outside
  sent_inside : (pairs : List Pair) (sent : List (List ℕ)) (m : Machine) (place : ℕ) → m.session.version ≡ 2 → Single pairs sent → AllSucceed setup sent m
      → first_outside m.session.size place pairs ≡ Marked
  sent_inside [] sent m place two single ok = refl
  sent_inside (pair ∷ pairs) [] m place two single ok = absurd single
  sent_inside (pair ∷ pairs) (registers ∷ sent) m place two single ok =
      let a = accepted setup m.session registers m.flash m.worn m.memory ok.0 in
      let within = (ready_if setup registers m single.0 two a).1 in
      let rest = subst (λ (n : Machine). AllSucceed setup sent n) (leaves setup registers m single.0 two a) ok.1 in
      ap (λ (b : Bool). cond (not b) (Err (Outside place)) (first_outside m.session.size (suc place) pairs))
      ((λ k. leb (sym single.1 k + sym single.2 k) m.session.size) ∙ within)
      ∙ sent_inside pairs sent (marked_by registers m) (suc place) two single.3 rest

  -- and of the first machine what the last has
  abbrev Leaves : List Pair → Machine → Machine → Type 0
  Leaves pairs m n = n ≡ holding (with_previous n.session.previous (with_marks (mark_pairs pairs m.session.marks) m.session)) m

  sent_leaves : (pair : Pair) (pairs : List Pair) (registers : List ℕ) (sent : List (List ℕ)) (m : Machine) → m.session.version ≡ 2
      → Single (pair ∷ pairs) (registers ∷ sent) → AllSucceed setup (registers ∷ sent) m → Leaves (pair ∷ pairs) m (after_sent setup (registers ∷ sent) m)
  sent_leaves pair [] registers [] m two single ok =
      subst (Leaves (pair ∷ []) m) (sym (leaves setup registers m single.0 two (accepted setup m.session registers m.flash m.worn m.memory ok.0)))
      (λ k. holding (with_marks (replace (single.1 k) (replicate (single.2 k) dirty) m.session.marks) (numbered m.session registers)) m)
  sent_leaves pair [] registers (other ∷ sent) m two single ok = absurd single.3
  sent_leaves pair (next ∷ pairs) registers [] m two single ok = absurd single.3
  sent_leaves pair (next ∷ pairs) registers (other ∷ sent) m two single ok =
      let l = leaves setup registers m single.0 two (accepted setup m.session registers m.flash m.worn m.memory ok.0) in
      let end = after_sent setup (other ∷ sent) (marked_by registers m) in
      subst (λ (n : Machine). Leaves (pair ∷ next ∷ pairs) m (after_sent setup (other ∷ sent) n)) (sym l)
      (sent_leaves next pairs other sent (marked_by registers m) two single.3 (subst (λ (n : Machine). AllSucceed setup (other ∷ sent) n) l ok.1)
      ∙ (λ k.
      holding
      (with_previous end.session.previous
      (with_marks (mark_pairs (next ∷ pairs) (replace (single.1 k) (replicate (single.2 k) dirty) m.session.marks)) m.session)) m))

  -- where they fail at a place, the pair there is the first outside; and the first command tells of the machine
  sent_outside : (pairs : List Pair) (sent : List (List ℕ)) (m : Machine) (first place : ℕ) → m.session.version ≡ 2 → Single pairs sent
      → FailAt place setup sent m → Ready setup m × (first_outside m.session.size first pairs ≡ Err (Outside (first + place)))
  sent_outside pairs [] m first place two single fails = absurd fails
  sent_outside [] (registers ∷ sent) m first place two single fails = absurd single
  sent_outside (pair ∷ pairs) (registers ∷ sent) m first zero two single fails =
      let a = argued setup registers m single.0 two fails in
      let here : first ≡ first + 0 = omega arith in (
        a.0,
        ap (λ (b : Bool). cond (not b) (Err (Outside first)) (first_outside m.session.size (suc first) pairs))
            ((λ k. leb (sym single.1 k + sym single.2 k) m.session.size) ∙ a.1)
            ∙ ap (λ (n : ℕ). Err (Outside n)) here,
      )
  sent_outside (pair ∷ pairs) (registers ∷ sent) m first (suc place) two single fails =
      let a = accepted setup m.session registers m.flash m.worn m.memory fails.0 in
      let r = ready_if setup registers m single.0 two a in
      let rest = subst (λ (n : Machine). FailAt place setup sent n) (leaves setup registers m single.0 two a) fails.1 in
      let later : suc first + place ≡ first + suc place = omega arith in (
        r.0,
        ap (λ (b : Bool). cond (not b) (Err (Outside first)) (first_outside m.session.size (suc first) pairs))
            ((λ k. leb (sym single.1 k + sym single.2 k) m.session.size) ∙ r.1)
            ∙ (sent_outside pairs sent (marked_by registers m) (suc first) place two single.3 rest).1
            ∙ ap (λ (n : ℕ). Err (Outside n)) later,
      )

-- ---- both directions
module _ (setup : Setup) (pairs : List Pair) (m : Machine) (two : m.session.version ≡ 2) where
  -- a list whose pairs are looked at
  ready_list : Taken (sound_in setup m) (numbers_of pairs) m.session → Ready setup m
  ready_list t = record { sounds = t.sounds; two = two; awake = t.awake; writes = t.writes }

  list_answered : length pairs ≤ 64 → Ready setup m → answer_for (sound_in setup m) (numbers_of pairs) m.session ≡ first_outside m.session.size 0 pairs
  list_answered few r =
      answer_taken (sound_in setup m) (numbers_of pairs) m.session
      (record { sounds = r.sounds; is_two = eq-eqb m.session.version 2 two; awake = r.awake; writes = r.writes; formed = formed pairs few })
      ∙ ap (first_outside m.session.size 0) (same_pairs pairs)

  list_after : answer_for (sound_in setup m) (numbers_of pairs) m.session ≡ Marked
      → after_list setup (numbers_of pairs) m ≡ holding (with_marks (mark_pairs pairs m.session.marks) m.session) m
  list_after a =
      ap (λ (s : Session). holding s m) (list_marked setup (numbers_of pairs) m a)
      ∙ ap (λ (t : List Pair). holding (with_marks (mark_pairs t m.session.marks) m.session) m) (same_pairs pairs)

-- no pairs: the session stays, marked or refused
none_after : (setup : Setup) (m : Machine) → after_list setup [] m ≡ m
none_after setup m =
    list_left (λ (t : Session). holding t m ≡ m) setup [] m refl
    (λ a.
    let t = taken (sound_in setup m) [] m.session Marked refl a in
    let z = measured setup (length m.flash) (length m.worn) (length m.memory) m.session t.0.sounds in
    ap (λ (n : Counts). holding (with_counted m.session.marks n m.session) m) (sym z.fits.counts))

all_succeeded : (setup : Setup) (pairs : List Pair) (sent : List (List ℕ)) (m : Machine) → m.session.version ≡ 2 → length pairs ≤ 64 → Single pairs sent
    → AllSucceed setup sent m
    → (after_list setup (numbers_of pairs) m ≡ holding (with_previous m.session.previous (after_sent setup sent m).session) (after_sent setup sent m))
    × ((pairs ≡ [] → ⊥) → answer_code setup (numbers_of pairs) m ≡ 1)
all_succeeded setup [] [] m two few single ok = (none_after setup m, λ n. absurd (n refl))
all_succeeded setup [] (registers ∷ sent) m two few single ok = absurd single
all_succeeded setup (pair ∷ pairs) [] m two few single ok = absurd single
all_succeeded setup (pair ∷ pairs) (registers ∷ sent) m two few single ok =
    let r = (ready_if setup registers m single.0 two (accepted setup m.session registers m.flash m.worn m.memory ok.0)).0 in
    let a = list_answered setup (pair ∷ pairs) m two few r ∙ sent_inside setup (pair ∷ pairs) (registers ∷ sent) m 0 two single ok in (
      list_after setup (pair ∷ pairs) m two a
          ∙ ap (λ (n : Machine). holding (with_previous m.session.previous n.session) n) (sym (sent_leaves setup pair pairs registers sent m two single ok)),
      λ _. ap list_code (list_answer setup (numbers_of (pair ∷ pairs)) m ∙ a),
    )

-- an answer that names a pair is that of its place
named_is : (a : ListAnswer) → names_pair a ≡ true → a ≡ Err (Outside (place_named a))
named_is Marked e = absurd (false≢true e)
named_is (Err Unsound) e = absurd (false≢true e)
named_is (Err OtherVersion) e = absurd (false≢true e)
named_is (Err Suspended) e = absurd (false≢true e)
named_is (Err Windowless) e = absurd (false≢true e)
named_is (Err Malformed) e = absurd (false≢true e)
named_is (Err (Outside place)) e = refl

names : (setup : Setup) (list : List ℕ) (m : Machine) (place : ℕ) → (listed_in setup list m).answer ≡ Err (Outside place) → Names place setup list m
names setup list m place e = record { code = ap list_code e; naming = ap names_pair e; named = ap place_named e }

pub list_as_commands : ListAsCommands
list_as_commands setup pairs sent m two few single = (
  all_succeeded setup pairs sent m two few single,
  λ place n new.
      let list = numbers_of pairs in
      let e = sym (list_answer setup list m) ∙ named_is (listed_in setup list m).answer n.naming ∙ ap (λ (n : ℕ). Err (Outside n)) n.named in
      let t = taken (sound_in setup m) list m.session (Err (Outside place)) refl e in
      let all : place - 0 ≡ place = omega arith in
      subst (λ (n : ℕ). FailAt n setup sent m) all
      (outside_fails setup pairs sent m 0 place (ready_list setup pairs m two t.0) single new (ap (first_outside m.session.size 0) (sym (same_pairs pairs)) ∙ t.1)),
  λ e new.
      let t = taken (sound_in setup m) (numbers_of pairs) m.session Marked refl (answer_marked setup (numbers_of pairs) m e) in
      inside_succeed setup pairs sent m 0 (ready_list setup pairs m two t.0) single new (ap (first_outside m.session.size 0) (sym (same_pairs pairs)) ∙ t.1),
  λ place fails.
      let f = sent_outside setup pairs sent m 0 place two single fails in
      let here : 0 + place ≡ place = omega arith in
      names setup (numbers_of pairs) m place (list_answer setup (numbers_of pairs) m ∙ list_answered setup pairs m two few f.0 ∙ f.1 ∙ ap (λ (n : ℕ). Err (Outside n)) here),
)

-- ---- the refusals that come before the pairs

-- the answer, where it is known whether all is sound
answered : (setup : Setup) (list : List ℕ) (m : Machine) (b : Bool) → sound_in setup m ≡ b → (listed_in setup list m).answer ≡ answer_for b list m.session
answered setup list m b e = list_answer setup list m ∙ ap (λ (b : Bool). answer_for b list m.session) e

module _ (setup : Setup) (list registers : List ℕ) (m : Machine) (two : m.session.version ≡ 2) (is : command_of registers ≡ 7)
    (new : is_previous m.session.previous (sequence_of registers) ≡ false) where
  -- a code that is neither 1 nor 2 is the response
  abbrev Alike : ℕ → Type 0
  Alike code = (code ≡ 1 → ⊥) → (code ≡ 2 → ⊥) → response setup registers m ≡ code

  to_command : (b : Bool) → sound_in setup m ≡ b → Alike (list_code (answer_for b list m.session))
  unfolding answer_for
  to_command false e = λ _ _. unsound_four setup registers m is two e
  to_command true e =
      each_check (λ (a : ListAnswer). Alike (list_code a)) true list m.session
      (λ q. absurd (false≢true (sym q)))
      (λ q. absurd (false≢true (sym q ∙ eq-eqb m.session.version 2 two)))
      (λ s _ _. suspended_six setup registers m is two e new s)
      (λ s w _ _. windowless_seven setup registers m is two e new s w)
      (λ _ _ not-2. absurd (not-2 refl))
      (λ _. pairs_code Alike (λ not-1 _. absurd (not-1 refl)) (λ _ not-2. absurd (not-2 refl)) m.session.size 0 (pairs_of list))

  -- and the other way round
  to_list : (b suspends writes : Bool) → sound_in setup m ≡ b → m.session.suspended ≡ suspends → is_write m.session.window ≡ writes
      → (response setup registers m ≡ 1 → ⊥) → (response setup registers m ≡ 2 → ⊥) → answer_code setup list m ≡ response setup registers m
  unfolding answer_for
  to_list false suspends writes e s w not-1 not-2 = ap list_code (answered setup list m false e) ∙ sym (unsound_four setup registers m is two e)
  to_list true true writes e s w not-1 not-2 =
      let a : answer_for true list m.session ≡ (Err Suspended) = rw (two, s) refl in
      ap list_code (answered setup list m true e ∙ a) ∙ sym (suspended_six setup registers m is two e new s)
  to_list true false false e s w not-1 not-2 =
      let a : answer_for true list m.session ≡ (Err Windowless) = rw (two, s, w) refl in
      ap list_code (answered setup list m true e ∙ a) ∙ sym (windowless_seven setup registers m is two e new s w)
  to_list true false true e s w not-1 not-2 =
      ⊎_elim
      (λ (i : inside setup registers m is two ≡ true). absurd (not-1 (inside_one setup registers m is two e new s w i)))
      (λ (i : inside setup registers m is two ≡ false). absurd (not-2 (outside_two setup registers m is two e new s w i)))
      (decided (inside setup registers m is two))

  none_marked_lem : Ready setup m → answer_code setup [] m ≡ 1
  none_marked_lem r = ap list_code (list_answer setup [] m ∙ list_answered setup [] m two (omega arith) r)

pub list_refused_alike : ListRefusedAlike
list_refused_alike setup list registers m two is new = (
  subst (Alike setup list registers m two is new) (sym (ap list_code (list_answer setup list m)))
      (to_command setup list registers m two is new (sound_in setup m) refl),
  to_list setup list registers m two is new (sound_in setup m) m.session.suspended (is_write m.session.window) refl refl refl,
  ⊎_elim
      (λ (e : response setup registers m ≡ 1).
      none_marked_lem setup list registers m two is new
      (ready_if setup registers m is two (accepted setup m.session registers m.flash m.worn m.memory e)).0)
      (λ (e : response setup registers m ≡ 2). none_marked_lem setup list registers m two is new (argued setup registers m is two e).0),
)

pub list_at_version : ListAtVersion
unfolding answer_for
list_at_version setup list m = (
  λ e. let q = answered setup list m false e in (ap list_code q, ap names_pair q),
  λ e n.
      let other : answer_for true list m.session ≡ (Err OtherVersion) = rw (ne_eqb m.session.version 2 n) refl in
      let q = answered setup list m true e ∙ other in
      (ap list_code q, ap names_pair q),
)

odd_or_long : (n : ℕ) → (n % 2 ≡ 1) ⊎ (128 < n) → malformed n ≡ true
odd_or_long n (inl e) = rw (eq-eqb (n % 2) 1 e) refl
odd_or_long n (inr h) =
    ⊎_elim
    (λ (e : eqb (n % 2) 1 ≡ true). rw e refl)
    (λ (e : eqb (n % 2) 1 ≡ false).
    let even = eqb-false (n % 2) 1 e in
    let more : 64 < n / 2 = omega arith in
    rw (e, lt-ltb 64 (n / 2) more) refl)
    (decided (eqb (n % 2) 1))

pub list_malformed : ListMalformed
list_malformed setup list m h =
    subst (λ (a : ListAnswer). (list_code a ≡ 1 → ⊥) × (names_pair a ≡ false)) (sym (list_answer setup list m))
    (each_check (λ (a : ListAnswer). (list_code a ≡ 1 → ⊥) × (names_pair a ≡ false)) (sound_in setup m) list m.session
    (λ _. (λ q. omega arith, refl))
    (λ _. (λ q. omega arith, refl))
    (λ _. (λ q. omega arith, refl))
    (λ _ _. (λ q. omega arith, refl))
    (λ _. (λ q. omega arith, refl))
    (λ t. absurd (false≢true (sym t.formed ∙ odd_or_long (length list) h))))

pub list_unnamed : ListUnnamed
list_unnamed setup list m = none (listed_in setup list m).answer
  where
    none : (a : ListAnswer) → names_pair a ≡ false → place_named a ≡ 0
    none Marked e = refl
    none (Err Unsound) e = refl
    none (Err OtherVersion) e = refl
    none (Err Suspended) e = refl
    none (Err Windowless) e = refl
    none (Err Malformed) e = refl
    none (Err (Outside place)) e = absurd (false≢true (sym e))
