-- The first list: whatever it is, the first j actions stand and the others do not.
use Rattle.std.proofs.Common.{◌≡◌, refl, sym, ap, subst, ◌∙◌, Bool, true, false, cond, not, ◌&&◌, List, [], ◌∷◌, ◌++◌, append-nil, ◌⊎◌, inl, inr, ⊎_elim, ℕ, zero, suc, ◌+◌, ◌-◌, ◌/◌, ◌≤◌, ◌<◌, arith, ltb, length, get_or, take, drop, replicate, drop_of_length-le, take-add, take_all, take-take, le-leb, lt-ltb, ltb-true, ltb-false}
use Rattle.units.proofs.Cases.{decided, below_or}
use Rattle.units.specs.Units.{to_bytes}
use Rattle.session.specs.declared.Session.{Session}
use Rattle.session.specs.declared.Window.{Window}
use Rattle.session.specs.declared.Window.TheVariants.{Write}
use Rattle.session.specs.Machine.{Setup, lent}
use Rattle.session.specs.Marks.{is_marked}
use Rattle.session.specs.Events.{control_lost, set_bits, clear_bits}
use Rattle.session.specs.Record.{with_access}
use Rattle.soundness.specs.Soundness.{marks_sound, markable, sound}
use Rattle.session.specs.Suspension.{Suspension, answer as saying, suspended, resumed}
use Rattle.session.proofs.Answers.{either_way}
use Rattle.soundness.proofs.Access.{suspended_sound, resumed_sound}
use Rattle.soundness.proofs.Facts.{sizes, fitting, part_within}
use Rattle.buffers.specs.Ranges.{range}
use Rattle.buffers.proofs.Replace.{range_at}
use Rattle.flush.specs.Actions.{Action, flush_actions, perform_all}
use Rattle.flush.specs.Cut.{passed, ahead, progress, block_at, leaves}
use Rattle.flush.specs.Worn.{until_failure, some_fail}
use Rattle.flush.specs.Window.{window_actions, window_part, part_end, perform_in, window_worn, done_actions, flush_fails, has_next, perform_next, Advanced, advanced}
use Rattle.flush.proofs.Bytes.{AllIn}
use Rattle.flush.proofs.Failing.{until_all, until_first}
use Rattle.flush.proofs.Cuts.{all_flush, all_take, all_drop, block_after, passed_finished, ahead_old, cut_clean}
use Rattle.flush.proofs.Whole.{part_length, in_none, in_length, in_part, in_outside, in_append, in_same}
use Rattle.mailbox.specs.Runs.{called_all}
use Rattle.recovery.specs.Cut.{FirstCall, step, suspend, resume, State, Said, stepped, told, counted, after, answer, after_all, answers, step_said, expected, access_after, actions_of, reach_of, start, calls_of, in_marked, Kept}

-- what a session that differs in its suspension and event byte alone has of the other
module _ (s t : Session) (k : Kept s t) where
  pub kept_window : t.window ≡ s.window
  kept_window = ap (λ (u : Session). u.window) k

  pub kept_first : t.first ≡ s.first
  kept_first = ap (λ (u : Session). u.first) k

  pub kept_size : t.size ≡ s.size
  kept_size = ap (λ (u : Session). u.size) k

  pub kept_marks : t.marks ≡ s.marks
  kept_marks = ap (λ (u : Session). u.marks) k

-- ---- one step
asleep : (t : Session) (worn memory : List ℕ) (j : ℕ) (flash : List ℕ) → sound (length flash) (length worn) (length memory) t ≡ true → t.suspended ≡ true
    → advanced (lent t flash worn memory) j ≡ record { code = 6; yes = false; flash = flash }
unfolding advanced
asleep t worn memory j flash e u = rw (e, u)

awake : (t : Session) (worn memory : List ℕ) (j : ℕ) (flash : List ℕ) → sound (length flash) (length worn) (length memory) t ≡ true → t.suspended ≡ false
    → advanced (lent t flash worn memory) j ≡ record {
      code = cond (not (has_next (lent t flash worn memory) j) && flush_fails (lent t flash worn memory)) 3 1;
      yes = has_next (lent t flash worn memory) j;
      flash = perform_next (lent t flash worn memory) j;
    }
unfolding advanced
awake t worn memory j flash e u = rw (e, u)

-- what a session's flush does before an erase fails, and whether one does, goes by its window and marks
abbrev done_by : Session → List ℕ → List Action
done_by t worn = until_failure (window_worn t worn) (window_actions t)

abbrev fails_by : Session → List ℕ → Bool
fails_by t worn = some_fail (window_worn t worn) (window_actions t)

-- the action after the first j, if there is one
one_more : (actions : List Action) (j : ℕ) → take j actions ++ take 1 (drop j actions) ≡ take (counted (length actions) false j) actions
one_more actions j =
    ⊎_elim
    (λ (t : ltb j (length actions) ≡ true). rw t (sym (take-add j 1 actions)))
    (λ (t : ltb j (length actions) ≡ false).
    rw t
    (ap (λ (xs : List Action). take j actions ++ take 1 xs) (drop_of_length-le actions (ltb-false j (length actions) t))
    ∙ append-nil (take j actions)))
    (decided (ltb j (length actions)))

module _ (s : Session) (flash worn memory : List ℕ) (e : sound (length flash) (length worn) (length memory) s ≡ true) (w : s.window ≡ Write) where
  -- how many are done before an erase fails
  abbrev pub N : ℕ
  N = reach_of (lent s flash worn memory)

  abbrev fails : Bool
  fails = fails_by s worn

  -- they are the first of all
  first_done : (j : ℕ) → j ≤ N → take j (done_by s worn) ≡ take j (window_actions s)
  first_done j h = ap (take j) (until_first (window_worn s worn) (window_actions s)) ∙ take-take j N (window_actions s) h

  pub marks_sound_lem : marks_sound s.size s.marks ≡ true
  marks_sound_lem =
      ap (λ (n : ℕ). marks_sound n s.marks) (ap (λ (k : Window). markable k s.size) (sym w))
      ∙ (fitting _ _ s (sizes (length flash) (length worn) (length memory) s e).2).marks

  fits : part_end s ≤ length flash
  fits = (part_within (length flash) (length worn) (length memory) s e).0

  room : to_bytes s.size ≤ length memory
  room = (part_within (length flash) (length worn) (length memory) s e).1

  all : AllIn s.size (window_actions s)
  all = all_flush s.size s.marks marks_sound_lem

  -- what holds between two calls
  pub record Running (st : State) : Type 0 where
    pub kept : Kept s st.machine.session
    pub sounds : sound (length flash) (length worn) (length memory) st.machine.session ≡ true
    pub memory_is : st.machine.memory ≡ memory
    pub worn_is : st.machine.worn ≡ worn
    pub few : st.count ≤ N
    pub flash_is : st.machine.flash ≡ perform_in s memory (take st.count (window_actions s)) flash

  pub begins : Running (start (lent s flash worn memory))
  begins =
      record {
        kept = refl;
        sounds = e;
        memory_is = refl;
        worn_is = refl;
        few = omega arith;
        flash_is = sym (in_none s flash fits memory room);
      }

  same_length : (st : State) → Running st → length st.machine.flash ≡ length flash
  same_length st r =
      ap length r.flash_is
      ∙ in_length s flash fits memory room (take st.count (window_actions s)) (all_take s.size st.count (window_actions s) all)

  still_sound : (st : State) → Running st → sound (length st.machine.flash) (length st.machine.worn) (length st.machine.memory) st.machine.session ≡ true
  still_sound st r =
      rw (same_length st r, r.worn_is, r.memory_is) r.sounds

  -- what is done of the flush of a session that is kept
  abbrev partly : ℕ → ℕ → List ℕ → List ℕ → List Action
  partly first size worn marks = until_failure (range first size worn) (flush_actions marks)

  same_actions : (st : State) → Running st → done_actions st.machine ≡ done_by s worn
  same_actions st r =
      let t = st.machine.session in
      ap (λ (n : ℕ). partly n t.size st.machine.worn t.marks) (kept_first s t r.kept)
      ∙ ap (λ (n : ℕ). partly s.first n st.machine.worn t.marks) (kept_size s t r.kept)
      ∙ ap (λ (map : List ℕ). partly s.first s.size map t.marks) r.worn_is
      ∙ ap (partly s.first s.size worn) (kept_marks s t r.kept)

  abbrev meeting : ℕ → ℕ → List ℕ → List ℕ → Bool
  meeting first size worn marks = some_fail (range first size worn) (flush_actions marks)

  same_fails : (st : State) → Running st → flush_fails st.machine ≡ fails
  same_fails st r =
      let t = st.machine.session in
      ap (λ (n : ℕ). meeting n t.size st.machine.worn t.marks) (kept_first s t r.kept)
      ∙ ap (λ (n : ℕ). meeting s.first n st.machine.worn t.marks) (kept_size s t r.kept)
      ∙ ap (λ (map : List ℕ). meeting s.first s.size map t.marks) r.worn_is
      ∙ ap (meeting s.first s.size worn) (kept_marks s t r.kept)

  -- the actions that are done lie in the window
  all_done : AllIn s.size (done_by s worn)
  all_done = subst (AllIn s.size) (sym (until_first (window_worn s worn) (window_actions s))) (all_take s.size N (window_actions s) all)

  still_few : (j : ℕ) → j ≤ N → counted N false j ≤ N
  still_few j h =
      ⊎_elim
      (λ (t : ltb j N ≡ true). rw t (later (ltb-true j N t)))
      (λ (t : ltb j N ≡ false). rw t h)
      (decided (ltb j N))
    where
      later : j < N → j + 1 ≤ N
      later l = omega arith

  -- the flash after a step that is not suspended
  stepped_flash : (st : State) → Running st
      → perform_next st.machine st.count ≡ perform_in s memory (take (counted N false st.count) (window_actions s)) flash
  stepped_flash st r =
      in_same st.machine.session s (kept_first s st.machine.session r.kept) (kept_size s st.machine.session r.kept) st.machine.memory (take 1 (drop st.count (done_actions st.machine))) st.machine.flash
      ∙ ap (λ (m : List ℕ). perform_in s m (take 1 (drop st.count (done_actions st.machine))) st.machine.flash) r.memory_is
      ∙ ap (λ (xs : List Action). perform_in s memory (take 1 (drop st.count xs)) st.machine.flash) (same_actions st r)
      ∙ ap (perform_in s memory (take 1 (drop st.count (done_by s worn)))) (r.flash_is ∙ ap (λ (xs : List Action). perform_in s memory xs flash) (sym (first_done st.count r.few)))
      ∙ in_append s flash fits memory room (take st.count (done_by s worn)) (take 1 (drop st.count (done_by s worn)))
      (all_take s.size st.count (done_by s worn) all_done)
      (all_take s.size 1 (drop st.count (done_by s worn)) (all_drop s.size st.count (done_by s worn) all_done))
      ∙ ap (λ (xs : List Action). perform_in s memory xs flash) (one_more (done_by s worn) st.count ∙ first_done (counted N false st.count) (still_few st.count r.few))

  access : (t : Session) → Kept s t → (b : Bool) (v : ℕ) → Kept s (with_access b v t)
  access t k b v = ap (with_access b v) k

  step_goes : (st : State) → Running st → Running (after N step st)
  step_goes st r =
      ⊎_elim
      (λ (u : st.machine.session.suspended ≡ true).
      let a = asleep st.machine.session st.machine.worn st.machine.memory st.count st.machine.flash (still_sound st r) u in
      record {
        kept = r.kept;
        sounds = r.sounds;
        memory_is = r.memory_is;
        worn_is = r.worn_is;
        few = rw u r.few;
        flash_is = ap (λ (x : Advanced). x.flash) a ∙ r.flash_is ∙ reach st.count u;
      })
      (λ (u : st.machine.session.suspended ≡ false).
      let a = awake st.machine.session st.machine.worn st.machine.memory st.count st.machine.flash (still_sound st r) u in
      record {
        kept = r.kept;
        sounds = r.sounds;
        memory_is = r.memory_is;
        worn_is = r.worn_is;
        few = rw u (still_few st.count r.few);
        flash_is = ap (λ (x : Advanced). x.flash) a ∙ stepped_flash st r ∙ reach st.count u;
      })
      (decided st.machine.session.suspended)
    where
      reach : {b : Bool} (j : ℕ) → st.machine.session.suspended ≡ b
          → perform_in s memory (take (counted N b j) (window_actions s)) flash
          ≡ perform_in s memory (take (counted N st.machine.session.suspended j) (window_actions s)) flash
      reach j u = ap (λ (b : Bool). perform_in s memory (take (counted N b j) (window_actions s)) flash) (sym u)

  suspended_kept : (t : Session) → Kept s t → Kept s (suspended t).session
  suspended_kept t k =
      either_way (Kept s) (not t.suspended) t (with_access true (set_bits control_lost t.events) t) k (access t k true (set_bits control_lost t.events))

  pub resumed_kept : (t : Session) → Kept s t → Kept s (resumed t).session
  resumed_kept t k =
      either_way (Kept s) t.suspended t (with_access false (clear_bits control_lost t.events) t) k (access t k false (clear_bits control_lost t.events))

  goes : (call : FirstCall) (st : State) → Running st → Running (after N call st)
  goes step st r = step_goes st r
  goes suspend st r =
      record {
        kept = suspended_kept st.machine.session r.kept;
        sounds = suspended_sound (length flash) (length worn) (length memory) st.machine.session r.sounds;
        memory_is = r.memory_is;
        worn_is = r.worn_is;
        few = r.few;
        flash_is = r.flash_is;
      }
  goes resume st r =
      record {
        kept = resumed_kept st.machine.session r.kept;
        sounds = resumed_sound (length flash) (length worn) (length memory) st.machine.session r.sounds;
        memory_is = r.memory_is;
        worn_is = r.worn_is;
        few = r.few;
        flash_is = r.flash_is;
      }

  pub runs : (list : List FirstCall) (st : State) → Running st → Running (after_all N list st)
  runs [] st r = r
  runs (call ∷ list) st r = runs list (after N call st) (goes call st r)

  -- ---- the answers
  step_said_lem : (st : State) → Running st
      → answer step st ≡ step_said N fails st.machine.session.suspended st.count
  step_said_lem st r =
      ⊎_elim
      (λ (u : st.machine.session.suspended ≡ true).
      ap (λ (x : Advanced). stepped x.code x.yes) (asleep st.machine.session st.machine.worn st.machine.memory st.count st.machine.flash (still_sound st r) u)
      ∙ ap by (sym u))
      (λ (u : st.machine.session.suspended ≡ false).
      ap (λ (x : Advanced). stepped x.code x.yes) (awake st.machine.session st.machine.worn st.machine.memory st.count st.machine.flash (still_sound st r) u)
      ∙ ap (λ (xs : List Action). told_by (ltb st.count (length xs)) (flush_fails st.machine)) (same_actions st r)
      ∙ ap (told_by (ltb st.count N)) (same_fails st r)
      ∙ adds (ltb st.count N) fails
      ∙ ap by (sym u))
      (decided st.machine.session.suspended)
    where
      by : Bool → Said
      by b = step_said N fails b st.count

      told_by : Bool → Bool → Said
      told_by more stops = stepped (cond (not more && stops) 3 1) more

      adds : (more stops : Bool) → told_by more stops ≡ cond more (stepped 1 true) (stepped (cond stops 3 1) false)
      adds true stops = refl
      adds false stops = refl

  suspend_said : (t : Session) → ((suspended t).done ≡ not t.suspended) × ((suspended t).session.suspended ≡ true)
  suspend_said t =
      ⊎_elim
      (λ (u : t.suspended ≡ true). (ap done u ∙ ap not (sym u), ap after_it u ∙ u))
      (λ (u : t.suspended ≡ false). (ap done u ∙ ap not (sym u), ap after_it u))
      (decided t.suspended)
    where
      by : Bool → Suspension
      by b = saying (not b) t (with_access true (set_bits control_lost t.events) t)

      done : Bool → Bool
      done b = (by b).done

      after_it : Bool → Bool
      after_it b = (by b).session.suspended

  pub resume_said : (t : Session) → ((resumed t).done ≡ t.suspended) × ((resumed t).session.suspended ≡ false)
  resume_said t =
      ⊎_elim
      (λ (u : t.suspended ≡ true). (ap done u ∙ sym u, ap after_it u))
      (λ (u : t.suspended ≡ false). (ap done u ∙ sym u, ap after_it u ∙ u))
      (decided t.suspended)
    where
      by : Bool → Suspension
      by b = saying b t (with_access false (clear_bits control_lost t.events) t)

      done : Bool → Bool
      done b = (by b).done

      after_it : Bool → Bool
      after_it b = (by b).session.suspended

  pub says : (list : List FirstCall) (st : State) → Running st → answers N list st ≡ expected N fails list st.machine.session.suspended st.count
  says [] st r = refl
  says (step ∷ list) st r =
      ap (λ (x : Said). x ∷ answers N list (after N step st)) (step_said_lem st r)
      ∙ ap (λ (xs : List Said). step_said N fails st.machine.session.suspended st.count ∷ xs) (says list (after N step st) (goes step st r))
  says (suspend ∷ list) st r =
      let t = suspend_said st.machine.session in
      ap (λ (x : Bool). told x ∷ answers N list (after N suspend st)) t.0
      ∙ ap (λ (xs : List Said). told (not st.machine.session.suspended) ∷ xs) (says list (after N suspend st) (goes suspend st r) ∙ ap (λ (b : Bool). expected N fails list b st.count) t.1)
  says (resume ∷ list) st r =
      let t = resume_said st.machine.session in
      ap (λ (x : Bool). told x ∷ answers N list (after N resume st)) t.0
      ∙ ap (λ (xs : List Said). told st.machine.session.suspended ∷ xs) (says list (after N resume st) (goes resume st r) ∙ ap (λ (b : Bool). expected N fails list b st.count) t.1)

  -- ---- the session
  pub session_after : (list : List FirstCall) (st : State) → (after_all N list st).machine.session ≡ access_after list st.machine.session
  session_after [] st = refl
  session_after (step ∷ list) st = session_after list (after N step st)
  session_after (suspend ∷ list) st = session_after list (after N suspend st)
  session_after (resume ∷ list) st = session_after list (after N resume st)

  -- ---- and as a run of calls
  pub machine_after : (setup : Setup) (list : List FirstCall) (st : State)
      → (after_all N list st).machine ≡ called_all setup (calls_of N list st) st.machine
  machine_after setup [] st = refl
  machine_after setup (step ∷ list) st = machine_after setup list (after N step st)
  machine_after setup (suspend ∷ list) st = machine_after setup list (after N suspend st)
  machine_after setup (resume ∷ list) st = machine_after setup list (after N resume st)

  -- ---- the flash at the cut
  module _ (st : State) (r : Running st) where
    abbrev done_part : List ℕ
    done_part = perform_all memory (take st.count (window_actions s)) (window_part s flash)

    some : AllIn s.size (take st.count (window_actions s))
    some = all_take s.size st.count (window_actions s) all

    pub part_at : window_part s st.machine.flash ≡ done_part
    part_at = ap (window_part s) r.flash_is ∙ in_part s flash fits memory room (take st.count (window_actions s)) some

    pub block_at_lem : (b : ℕ) → b < s.size → block_at b (window_part s st.machine.flash) ≡ leaves memory b (take st.count (window_actions s)) (window_part s flash)
    block_at_lem b h =
        ap (block_at b) part_at
        ∙ block_after s.size memory room (window_part s flash) (part_length s flash fits) (take st.count (window_actions s)) some b h

    pub finished_at : (b : ℕ) → b < s.size → progress b st.count (window_actions s) ≡ passed
        → block_at b (window_part s st.machine.flash) ≡ leaves memory b (window_actions s) (window_part s flash)
    finished_at b h p = block_at_lem b h ∙ passed_finished s.size memory room (window_part s flash) (part_length s flash fits) s.marks st.count b p

    pub old_at : (b : ℕ) → b < s.size → progress b st.count (window_actions s) ≡ ahead
        → block_at b (window_part s st.machine.flash) ≡ block_at b (window_part s flash)
    old_at b h p = block_at_lem b h ∙ ahead_old s.size memory room (window_part s flash) (part_length s flash fits) s.marks st.count b p

    pub length_at : length st.machine.flash ≡ length flash
    length_at = same_length st r

    outside_part : (x : ℕ) → (x < to_bytes s.first) ⊎ (part_end s ≤ x) → get_or st.machine.flash x 0 ≡ get_or flash x 0
    outside_part x o =
        ap (λ (f : List ℕ). get_or f x 0) r.flash_is
        ∙ in_outside s flash fits memory room (take st.count (window_actions s)) some x o

    -- a byte of the part is read at its place in the whole
    in_whole : (f : List ℕ) (x : ℕ) → to_bytes s.first ≤ x → x < part_end s → get_or f x 0 ≡ get_or (window_part s f) (x - to_bytes s.first) 0
    in_whole f x l h =
        let place : x ≡ to_bytes s.first + (x - to_bytes s.first) = omega arith in
        ap (λ (i : ℕ). get_or f i 0) place ∙ sym (range_at (to_bytes s.first) (to_bytes s.size) f (x - to_bytes s.first) (omega arith))

    inside_part : (x : ℕ) → to_bytes s.first ≤ x → x < part_end s → is_marked (get_or s.marks ((x - to_bytes s.first) / 4096) 0) ≡ false
        → get_or st.machine.flash x 0 ≡ get_or flash x 0
    inside_part x l h m =
        in_whole st.machine.flash x l h
        ∙ ap (λ (p : List ℕ). get_or p (x - to_bytes s.first) 0) part_at
        ∙ cut_clean s.size memory room s.marks marks_sound_lem (window_part s flash) (part_length s flash fits) st.count (x - to_bytes s.first) m
        ∙ sym (in_whole flash x l h)

    pub other_at : (x : ℕ) → in_marked s x ≡ false → get_or st.machine.flash x 0 ≡ get_or flash x 0
    other_at x q =
        ⊎_elim
        (λ (l : x < to_bytes s.first). outside_part x (inl l))
        (λ (l : to_bytes s.first ≤ x).
        ⊎_elim
        (λ (h : x < part_end s). inside_part x l h (rw (le-leb (to_bytes s.first) x l, lt-ltb x (part_end s) h) at q))
        (λ (h : part_end s ≤ x). outside_part x (inr h))
        (below_or x (part_end s)))
        (below_or x (to_bytes s.first))

  -- ---- N steps from the start, not suspended
  steps_count : (n : ℕ) (st : State) → st.machine.session.suspended ≡ false → st.count + n ≤ N → (after_all N (replicate n step) st).count ≡ st.count + n
  steps_count zero st u h = omega arith
  steps_count (suc n) st u h =
      let more : counted N st.machine.session.suspended st.count ≡ st.count + 1 =
      ap (λ (b : Bool). counted N b st.count) u ∙ ap (λ (t : Bool). cond t (st.count + 1) st.count) (lt-ltb st.count N (omega arith)) in
      steps_count n (after N step st) u (rw more (omega arith)) ∙ rw more (omega arith)

  -- where no erase fails all are done
  module _ (none : fails ≡ false) (u : s.suspended ≡ false) where
    all_of : N ≡ actions_of s
    all_of = ap length (until_all (window_worn s worn) (window_actions s) none)

    pub steps_flash : (after_all N (replicate (actions_of s) step) (start (lent s flash worn memory))).machine.flash ≡ perform_in s memory (window_actions s) flash
    steps_flash =
        let n = actions_of s in
        let count : (after_all N (replicate n step) (start (lent s flash worn memory))).count ≡ n = steps_count n (start (lent s flash worn memory)) u (omega (arith, all_of)) ∙ omega arith in
        (runs (replicate n step) (start (lent s flash worn memory)) begins).flash_is
        ∙ ap (λ (j : ℕ). perform_in s memory (take j (window_actions s)) flash) count
        ∙ ap (λ (xs : List Action). perform_in s memory xs flash) (take_all n (window_actions s) (omega arith))

    -- each of which answers 1 with yes
    steps_expected : (n j : ℕ) → j + n ≤ N → expected N fails (replicate n step) false j ≡ replicate n (stepped 1 true)
    steps_expected zero j h = refl
    steps_expected (suc n) j h =
        let t : ltb j N ≡ true = lt-ltb j N (omega arith) in
        ap (λ (b : Bool). cond b (stepped 1 true) (stepped (cond fails 3 1) false) ∷ expected N fails (replicate n step) false (cond b (j + 1) j)) t
        ∙ ap (λ (xs : List Said). stepped 1 true ∷ xs) (steps_expected n (j + 1) (omega arith))

    pub steps_said : answers N (replicate (actions_of s) step) (start (lent s flash worn memory)) ≡ replicate (actions_of s) (stepped 1 true)
    steps_said =
        says (replicate (actions_of s) step) (start (lent s flash worn memory)) begins
        ∙ ap (λ (b : Bool). expected N fails (replicate (actions_of s) step) b 0) u
        ∙ steps_expected (actions_of s) 0 (omega (arith, all_of))
