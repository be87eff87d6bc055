-- Demand 3, whole: `demand_3`, over the definitions that the contracts cite.
use Rattle.std.proofs.Common.{◌≡◌, refl, sym, ap, ◌∙◌, subst, Bool, true, false, cond, ◌&&◌, not, List, ◌∷◌, ℕ, ◌+◌, ◌≤◌, min, ltb, eqb, length, get_or, replicate}
use lib.ListN.{length-replicate}
use Rattle.units.proofs.Cases.{chosen}
use Rattle.units.specs.Units.{to_bytes}
use Rattle.session.specs.declared.Session.{Session}
use Rattle.session.specs.declared.Window.TheVariants.{Write}
use Rattle.session.specs.Machine.{Setup, Machine, lent}
use Rattle.session.specs.Marks.{dirty, is_marked}
use Rattle.session.specs.Events.{control_lost, clear_bits}
use Rattle.session.specs.Record.{fresh, with_version, with_access}
use Rattle.soundness.specs.Soundness.{sound, sound_at}
use Rattle.session.specs.Suspension.{Suspension, resumed}
use Rattle.soundness.proofs.Access.{resumed_sound}
use Rattle.soundness.proofs.Facts.{part_within, measured}
use Rattle.flush.specs.Actions.{flush_actions}
use Rattle.flush.specs.Window.{window_actions, perform_in, window_worn}
use Rattle.flush.proofs.Failing.{until_all}
use Rattle.flush.proofs.Whole.{in_same, after_cut}
use Rattle.registers.specs.Registers.{argument, number}
use Rattle.mailbox.specs.Commands.{numbered, marked}
use Rattle.refusals.specs.Refusals.{flush_marks}
use Rattle.mailbox.specs.Runs.{send}
use Rattle.invariants.proofs.Reach.{zeros_meet_none, none_fails}
use Rattle.invariants.proofs.Worn.{place_is, meets_fails}
use Rattle.invariants.proofs.Runs.{run_keeps}
use Rattle.recovery.specs.Cut.{FirstCall, cut, start, Kept, AtCut}
use Rattle.recovery.specs.Demand.{Demand3}
use Rattle.invariants.specs.Worn.{MeetsNone}
use Rattle.recovery.specs.Second.{Way, by_steps, by_flush, Succeeds, flash_after, begun, agreeing, opening, SecondRun, StepsSucceed, second_end, second_flash, unstopped, AddsNone, unstopped_flash}
use Rattle.recovery.proofs.FirstList.{kept_window, kept_first, kept_size, kept_marks, marks_sound_lem, Running, begins, runs, says, session_after, machine_after, block_at_lem, finished_at, old_at, other_at, length_at, resumed_kept, resume_said, steps_flash, steps_said}
use Rattle.recovery.proofs.SecondList.{info_sound, info_leaves, create_opens, Open, calls_open, flush_leaves}

-- ---- either way to flush does all actions of the window
way_flash : (setup : Setup) (way : Way) (m : Machine) → Succeeds setup way m → AddsNone way m.session
    → sound (length m.flash) (length m.worn) (length m.memory) m.session ≡ true → m.session.window ≡ Write → m.session.suspended ≡ false
    → MeetsNone m.worn m.session → flash_after setup way m ≡ perform_in m.session m.memory (window_actions m.session) m.flash
way_flash setup by_steps m ok none e w a good = steps_flash m.session m.flash m.worn m.memory e w (none_fails m.session m.worn good) a
way_flash setup (by_flush registers) m ok none e w a good =
    flush_leaves setup m.session registers m.flash m.worn m.memory ok.0 ok.1 none e (none_fails m.session m.worn good)

-- what is done goes by the window's place, size and marks
same_window : (t s : Session) → t.first ≡ s.first → t.size ≡ s.size → t.marks ≡ s.marks → (memory flash : List ℕ)
    → perform_in t memory (window_actions t) flash ≡ perform_in s memory (window_actions s) flash
same_window t s f z m memory flash =
    in_same t s f z memory (window_actions t) flash ∙ ap (λ (marks : List ℕ). perform_in s memory (flush_actions marks) flash) m

-- a FLUSH of version 2 adds no mark
adds_none : (way : Way) (t : Session) → t.version ≡ 2 → AddsNone way t
adds_none by_steps t v = tt
adds_none (by_flush registers) t v =
    ap (λ (version : ℕ). (cond (ltb version 2 && not (eqb (number 4 2 registers) 0)) (marked dirty t registers) t).marks) v

module _ (setup : Setup) (s : Session) (flash worn memory : List ℕ) (sounds : sound_at setup (length flash) (length worn) (length memory) s ≡ true) (w : s.window ≡ Write) where
  e : sound (length flash) (length worn) (length memory) s ≡ true
  e = (measured setup (length flash) (length worn) (length memory) s sounds).sound

  room : to_bytes s.size ≤ length memory
  room = (part_within (length flash) (length worn) (length memory) s e).1

  -- ---- the flush never stopped
  k : Kept s (resumed s).session
  k = resumed_kept s flash worn memory e w s refl

  awake : (resumed s).session.suspended ≡ false
  awake = (resume_said s flash worn memory e w s).1

  -- with every block good
  abbrev zeros : List ℕ
  zeros = replicate (length worn) 0

  sound₁ : sound (length flash) (length zeros) (length memory) (resumed s).session ≡ true
  sound₁ = rw (length-replicate {0} {A = ℕ} (length worn) 0) (resumed_sound (length flash) (length worn) (length memory) s e)

  unstopped_steps : StepsSucceed (unstopped (lent s flash worn memory))
  unstopped_steps =
      steps_said (resumed s).session flash zeros memory sound₁ (kept_window s (resumed s).session k ∙ w)
      (none_fails (resumed s).session zeros (zeros_meet_none (length worn) (resumed s).session)) awake

  -- suspended or not, it adds what it would add before the resume
  adds : (way : Way) → AddsNone way s → AddsNone way (resumed s).session
  adds by_steps n = tt
  adds (by_flush registers) n =
      chosen (λ (t : Suspension). AddsNone (by_flush registers) t.session) s.suspended
      (record { done = true; session = with_access false (clear_bits control_lost s.events) s })
      (record { done = false; session = s })
      (λ _. resumes (flush_marks s registers) n) (λ _. n)
    where
      resumes : (adds : Bool) → (cond adds (marked dirty s registers) s).marks ≡ s.marks
          → (cond adds (marked dirty (with_access false (clear_bits control_lost s.events) s) registers) (with_access false (clear_bits control_lost s.events) s)).marks ≡ s.marks
      resumes true same = same
      resumes false same = refl

  never_stopped : (way : Way) → Succeeds setup way (unstopped (lent s flash worn memory)) → AddsNone way s
      → unstopped_flash setup way (lent s flash worn memory) ≡ perform_in s memory (window_actions s) flash
  never_stopped way ok none =
      way_flash setup way (unstopped (lent s flash worn memory)) ok (adds way none) sound₁ (kept_window s (resumed s).session k ∙ w) awake
      (zeros_meet_none (length worn) (resumed s).session)
      ∙ same_window (resumed s).session s (kept_first s (resumed s).session k) (kept_size s (resumed s).session k) (kept_marks s (resumed s).session k) memory flash

  module _ (list : List FirstCall) where
    r : Running s flash worn memory e w (cut (lent s flash worn memory) list)
    r = runs s flash worn memory e w list (start (lent s flash worn memory)) (begins s flash worn memory e w)

    at_cut : AtCut (lent s flash worn memory) list
    at_cut =
        record {
          answered = says s flash worn memory e w list (start (lent s flash worn memory)) (begins s flash worn memory e w);
          reaches = place_is (lent s flash worn memory) e;
          stops = meets_fails (lent s flash worn memory) e;
          through = λ none. ap length (until_all (window_worn s worn) (window_actions s) none);
          as_run = λ setup. machine_after s flash worn memory e w setup list (start (lent s flash worn memory));
          blocks = block_at_lem s flash worn memory e w (cut (lent s flash worn memory) list) r;
          finished = finished_at s flash worn memory e w (cut (lent s flash worn memory) list) r;
          old = old_at s flash worn memory e w (cut (lent s flash worn memory) list) r;
          others = other_at s flash worn memory e w (cut (lent s flash worn memory) list) r;
          flash_size = length_at s flash worn memory e w (cut (lent s flash worn memory) list) r;
          session = session_after s flash worn memory e w list (start (lent s flash worn memory));
          kept = r.kept;
          memory_same = r.memory_is;
          map_same = r.worn_is;
        }

    abbrev Again : Type 0
    Again = SecondRun setup (lent s flash worn memory) (cut (lent s flash worn memory) list).machine.flash

    abbrev end : Again → Machine
    end q = second_end setup (lent s flash worn memory) (cut (lent s flash worn memory) list).machine.flash q

    -- ---- the second run: its window is open again
    second_open : (q : Again) → Open s.first s.size (length memory) (cut (lent s flash worn memory) list).machine.flash q.worn (end q)
    second_open q =
        subst (λ (n : ℕ). Open s.first s.size n f₁ q.worn (end q)) long₁
        (subst (λ (f : List ℕ). Open s.first s.size (length m₁.memory) f q.worn (end q)) (ap (λ (m : Machine). m.flash) left₁)
        (subst (λ (map : List ℕ). Open s.first s.size (length m₁.memory) m₁.flash map (end q)) (ap (λ (m : Machine). m.worn) left₁) o₃))
      where
        f₁ : List ℕ
        f₁ = (cut (lent s flash worn memory) list).machine.flash

        m₁ : Machine
        m₁ = agreeing setup q.info f₁ q.worn q.other

        left₁ : m₁ ≡ lent (with_version (min (argument 0 q.info) 2) (numbered fresh q.info)) f₁ q.worn q.other
        left₁ = info_leaves setup q.info f₁ q.worn q.other q.info_succeeds q.info_is

        long₁ : length m₁.memory ≡ length memory
        long₁ = ap (λ (m : Machine). length m.memory) left₁ ∙ q.other_size

        o₂ : Open s.first s.size (length m₁.memory) m₁.flash m₁.worn (opening setup q.info q.create f₁ q.worn q.other)
        o₂ =
            create_opens setup m₁.session q.create m₁.flash m₁.worn m₁.memory q.create_is q.create_succeeds
            (ap (λ (m : Machine). m.session.marks) left₁) s.first s.size q.agreed (ap (λ (m : Machine). m.session.suspended) left₁)
            q.same_first q.same_size

        o₃ : Open s.first s.size (length m₁.memory) m₁.flash m₁.worn (end q)
        o₃ =
            calls_open setup s.first s.size (length m₁.memory) m₁.flash m₁.worn (subst (λ (n : ℕ). to_bytes s.size ≤ n) (sym long₁) room)
            q.calls q.allowed (opening setup q.info q.create f₁ q.worn q.other) o₂

    second_sound : (q : Again) → sound (length (end q).flash) (length (end q).worn) (length (end q).memory) (end q).session ≡ true
    second_sound q =
        let f₁ = (cut (lent s flash worn memory) list).machine.flash in
        (measured setup (length (end q).flash) (length (end q).worn) (length (end q).memory) (end q).session
        (run_keeps setup (send q.info ∷ send q.create ∷ q.calls) (begun f₁ q.worn q.other)
        (info_sound setup q.info f₁ q.worn q.other q.info_succeeds))
        ).sound

    -- no block that it flushes is worn
    second_good : (q : Again) → MeetsNone (end q).worn (end q).session
    second_good q b h =
        let o = second_open q in
        ap (λ (map : List ℕ). get_or map ((end q).session.first + b) 0) o.map_is
        ∙ ap (λ (n : ℕ). get_or q.worn (n + b) 0) o.first_is
        ∙ q.good b (ap (λ (marks : List ℕ). is_marked (get_or marks b 0)) (sym q.same_marks) ∙ h)

    second_steps : (q : Again) → StepsSucceed (end q)
    second_steps q =
        let o = second_open q in
        steps_said (end q).session (end q).flash (end q).worn (end q).memory (second_sound q) o.window (none_fails (end q).session (end q).worn (second_good q)) o.awake

    second_ends : (q : Again) → second_flash setup (lent s flash worn memory) (cut (lent s flash worn memory) list).machine.flash q ≡ perform_in s memory (window_actions s) flash
    second_ends q =
        let o = second_open q in
        way_flash setup q.way (end q) q.way_succeeds (adds_none q.way (end q).session o.agreed) (second_sound q) o.window o.awake (second_good q)
        ∙ same_window (end q).session s o.first_is o.size_is q.same_marks (end q).memory (end q).flash
        ∙ ap (perform_in s (end q).memory (window_actions s)) (o.flash_is ∙ r.flash_is)
        ∙ after_cut s flash (part_within (length flash) (length worn) (length memory) s e).0 memory room (marks_sound_lem s flash worn memory e w) (end q).memory
        (subst (λ (n : ℕ). to_bytes s.size ≤ n) (sym o.memory_long) room) q.same_bytes (cut (lent s flash worn memory) list).count

-- the statement stands in specs/Demand.antt
pub demand_3 : Demand3
demand_3 setup m sounds w list =
    let s = m.session in
    let flash = m.flash in
    let worn = m.worn in
    let memory = m.memory in (
      at_cut setup s flash worn memory sounds w list,
      λ second way ok none. (
        second_ends setup s flash worn memory sounds w list second ∙ sym (never_stopped setup s flash worn memory sounds w way ok none),
        second_steps setup s flash worn memory sounds w list second,
        unstopped_steps setup s flash worn memory sounds w,
      ),
    )
