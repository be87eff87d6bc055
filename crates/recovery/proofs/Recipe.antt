-- The recovery of specs/Recipe.antt is a second run, whatever the session and the cut: `recovers`.
use Rattle.std.proofs.Common.{◌≡◌, refl, sym, ap, ◌∙◌, subst, true, List, [], ◌∷◌, ◌++◌, append-nil, inl, inr, ⊎_elim, ℕ, suc, ◌+◌, ◌-◌, ◌/◌, ◌≤◌, ◌<◌, arith, leb, eqb, length, get_or, take, drop, replicate, drop-cons, take_all, leb-true, eqb-true, Some}
use borrow.Author.Tests.{eqb-false}
use Rattle.units.specs.Units.{block_bytes, to_bytes, round_up}
use Rattle.units.proofs.Cases.{both, chosen, below_or}
use Rattle.buffers.specs.Ranges.{replace}
use Rattle.buffers.proofs.Replace.{range_length, range_at, replace_before, replace_inside}
use Rattle.chip.specs.Actions.{erased}
use Rattle.chip.proofs.Laws.{erased_outside}
use Rattle.session.specs.declared.Session.{Session}
use Rattle.session.specs.declared.Window.{Window}
use Rattle.session.specs.declared.Window.TheVariants.{Write}
use Rattle.session.specs.Machine.{Setup, Machine, lent}
use Rattle.session.specs.Record.{fresh, with_version, with_window}
use Rattle.soundness.specs.Soundness.{active_sound, window_sound, marks_sound, sound_at, sound_in}
use Rattle.soundness.proofs.Facts.{part_within, Measured, measured}
use Rattle.session.specs.Marks.{dirty, erased_mark, is_marked}
use Rattle.registers.specs.Registers.{sequence_of, number}
use Rattle.mailbox.specs.Commands.{numbered, size_for}
use Rattle.mailbox.specs.Runs.{Call, send, write, written, called, called_all}
use Rattle.invariants.proofs.Runs.{write_within, run_keeps}
use Rattle.recovery.specs.Cut.{cut}
use Rattle.recovery.specs.Recipe.{get_info, reopen, mark_dirty, mark_erased, former, restored, restored_from, recipe, flush_all, ByRecipe, Recovers}
use Rattle.mailbox.specs.Mediator.{response}
use Rattle.invariants.specs.Worn.{MeetsNone}
use Rattle.recovery.specs.Second.{sent, AllAllowed, Way, by_steps, by_flush, Succeeds, begun, agreeing, opening, marking}
use Rattle.recovery.proofs.Demand.{demand_3}
use Rattle.recovery.proofs.FirstList.{marks_sound_lem}
use Rattle.recovery.proofs.MarksAgain.{mark_most, mark_past, mark_more, mark_none}
use Rattle.recovery.proofs.SecondList.{fresh_as, info_leaves, create_opens, Open, calls_open}
use Rattle.recovery.proofs.Sending.{word, hinted, info_taken, Serving, marked_as, create_taken, create_session, dirty_sent, erase_sent, flush_taken}

-- ---- lists of calls one after the other
pub append_allowed : (n : ℕ) (xs ys : List Call) → AllAllowed n xs → AllAllowed n ys → AllAllowed n (xs ++ ys)
append_allowed n [] ys p q = q
append_allowed n (x ∷ xs) ys p q = (p.0, append_allowed n xs ys p.1 q)

pub append_called : (setup : Setup) (xs ys : List Call) (m : Machine) → called_all setup (xs ++ ys) m ≡ called_all setup ys (called_all setup xs m)
append_called setup [] ys m = refl
append_called setup (x ∷ xs) ys m = append_called setup xs ys (called setup x m)

-- a mark that is none of the two
neither : (mark : ℕ) → mark ≤ 2 → (mark ≡ 1 → ⊥) → (mark ≡ 2 → ⊥) → mark ≡ 0
neither mark h p q = omega arith

module _ (setup : Setup) (s : Session) (flash worn memory : List ℕ) (sounds : sound_at setup (length flash) (length worn) (length memory) s ≡ true) (w : s.window ≡ Write)
    (many : length s.marks ≡ 64) (good : MeetsNone worn s) where
  -- what the session and the sizes tell
  d : Measured (length flash) (length worn) (length memory) s
  d = measured setup (length flash) (length worn) (length memory) s sounds

  fine : marks_sound s.size s.marks ≡ true
  fine = marks_sound_lem s flash worn memory d.sound w

  room : to_bytes s.size ≤ length memory
  room = (part_within (length flash) (length worn) (length memory) s d.sound).1

  active : active_sound s.first s.size (round_up (length flash)) (round_up (length memory)) ≡ true
  active = subst (λ (k : Window). window_sound k s.first s.size (round_up (length flash)) (round_up (length memory)) ≡ true) w d.fits.window

  some : 1 ≤ s.size
  some = leb-true 1 s.size (both (leb 1 s.size) _ active).0

  few : s.size ≤ 64
  few = omega (arith, d.fits.in_memory, d.memory_sized.few)

  low : s.first + s.size ≤ 65535
  low = omega (arith, d.fits.in_flash, d.flash_sized.few)

  -- a window memory has the former bytes of the dirty ones among the first b blocks
  abbrev Held : ℕ → List ℕ → Type 0
  Held b bytes = (x : ℕ) → x < to_bytes b → get_or s.marks (x / block_bytes) 0 ≡ dirty → get_or bytes x 0 ≡ get_or memory x 0

  -- ---- between two blocks of the recipe: the first b are done, k are ahead
  record Ready (b k : ℕ) (m : Machine) : Type 0 where
    opened : Open s.first s.size (length memory) flash worn m
    sound_so_far : sound_in setup m ≡ true
    number : ℕ
    previous : m.session.previous ≡ Some number
    earlier : number < 2 + b
    marks : m.session.marks ≡ take b s.marks ++ replicate k 0
    held : Held b m.memory

  -- such a machine takes the next number, also with other bytes in its window
  serving : (b k : ℕ) (m : Machine) (r : Ready b k m) (n : Machine) → n.session ≡ m.session → Open s.first s.size (length memory) flash worn n
      → sound_in setup n ≡ true → Serving setup r.number n
  serving b k m r n same o sounds =
      record {
        sounds = sounds;
        agreed = o.agreed;
        awake = o.awake;
        previous = ap (λ (t : Session). t.previous) same ∙ r.previous;
      }

  -- the window stays open
  opens : (calls : List Call) → AllAllowed s.size calls → (m : Machine) → Open s.first s.size (length memory) flash worn m
      → Open s.first s.size (length memory) flash worn (called_all setup calls m)
  opens = calls_open setup s.first s.size (length memory) flash worn room

  -- what a list of calls does for some blocks
  record Carries (b k c l : ℕ) (calls : List Call) : Type 0 where
    allowed : AllAllowed s.size calls
    goes : (m : Machine) → Ready b k m → Ready c l (called_all setup calls m)

  -- a marked block lies in the window
  within : (b mark : ℕ) → get_or s.marks b 0 ≡ suc mark → b < s.size
  within b mark e =
      ⊎_elim
      (λ (h : b < s.size). h)
      (λ (h : s.size ≤ b). let z = mark_past s.size b s.marks fine h in absurd (omega arith))
      (below_or b s.size)

  -- ---- one block
  module _ (b k : ℕ) (all : b + suc k ≡ 64) where
    there : b < length s.marks
    there = omega arith

    small : b < 65536
    small = omega arith

    -- one block more is held, if the bytes before it stay and those of a dirty one are the former ones
    held_more : (old new : List ℕ) → Held b old → ((x : ℕ) → x < to_bytes b → get_or new x 0 ≡ get_or old x 0)
        → ((x : ℕ) → to_bytes b ≤ x → x < to_bytes (suc b) → get_or s.marks b 0 ≡ dirty → get_or new x 0 ≡ get_or memory x 0) → Held (suc b) new
    held_more old new h before here x l e =
        ⊎_elim
        (λ (p : x < to_bytes b). before x p ∙ h x p e)
        (λ (p : to_bytes b ≤ x).
        let i : x / block_bytes ≡ b = omega arith in
        here x p l (ap (λ (j : ℕ). get_or s.marks j 0) (sym i) ∙ e))
        (below_or x (to_bytes b))

    -- a clean one
    clean_block : get_or s.marks b 0 ≡ 0 → Carries b (suc k) (suc b) k []
    clean_block e =
        record {
          allowed = tt;
          goes =
              λ m r.
              record {
                opened = r.opened;
                sound_so_far = r.sound_so_far;
                number = r.number;
                previous = r.previous;
                earlier = omega (arith, r.earlier);
                marks = r.marks ∙ mark_none s.marks b k there e;
                held = held_more m.memory m.memory r.held (λ x h. refl) (λ x l h d. absurd (omega arith));
              };
        }

    -- after the command that marks it
    marked_block : (m n : Machine) → Ready b (suc k) m → (registers : List ℕ) (mark : ℕ) (bytes : List ℕ) → get_or s.marks b 0 ≡ mark
        → n ≡ marked_as m registers (replace b (mark ∷ []) m.session.marks) bytes → sequence_of registers ≡ 2 + b
        → Open s.first s.size (length memory) flash worn n → sound_in setup n ≡ true → Held (suc b) bytes → Ready (suc b) k n
    marked_block m n r registers mark bytes e left q o sounds h =
        record {
          opened = o;
          sound_so_far = sounds;
          number = 2 + b;
          previous = ap (λ (x : Machine). x.session.previous) left ∙ ap Some q;
          earlier = omega arith;
          marks =
              ap (λ (x : Machine). x.session.marks) left ∙ ap (replace b (mark ∷ [])) r.marks ∙ mark_more s.marks b k there mark e;
          held = subst (λ (x : Machine). Held (suc b) x.memory) (sym left) h;
        }

    -- a marked block is one of the window that is open
    reach : (m : Machine) → Open s.first s.size (length memory) flash worn m → (mark : ℕ) → get_or s.marks b 0 ≡ suc mark → b < m.session.size
    reach m o mark e = rw o.size_is (within b mark e)

    -- a dirty one: its former bytes are written, then it is marked
    module _ (e : get_or s.marks b 0 ≡ dirty) where
      inside : to_bytes b + block_bytes ≤ to_bytes s.size
      inside = let h = within b 0 e in omega arith

      long : length (former memory b) ≡ block_bytes
      unfolding former
      long = range_length (to_bytes b) block_bytes memory (omega (arith, inside, room))

      former_at : (j : ℕ) → j < block_bytes → get_or (former memory b) j 0 ≡ get_or memory (to_bytes b + j) 0
      unfolding former
      former_at j h = range_at (to_bytes b) block_bytes memory j h

      dirty_allowed : AllAllowed s.size (write (to_bytes b) (former memory b) ∷ send (mark_dirty b) ∷ [])
      dirty_allowed = (omega (arith, long, inside), (inl refl, tt))

      dirty_held : (m : Machine) → Ready b (suc k) m → Held (suc b) (written (to_bytes b) (former memory b) m.memory)
      dirty_held m r =
          subst (Held (suc b)) (sym (write_within (to_bytes b) (former memory b) m.memory fits))
          (held_more m.memory (replace (to_bytes b) (former memory b) m.memory) r.held
          (λ x h. replace_before (to_bytes b) (former memory b) m.memory fits x 0 h) here)
        where
          fits : to_bytes b + length (former memory b) ≤ length m.memory
          fits = omega (arith, long, inside, room, r.opened.memory_long)

          here : (x : ℕ) → to_bytes b ≤ x → x < to_bytes (suc b) → get_or s.marks b 0 ≡ dirty
              → get_or (replace (to_bytes b) (former memory b) m.memory) x 0 ≡ get_or memory x 0
          here x l h d =
              let place : to_bytes b + (x - to_bytes b) ≡ x = omega arith in
              ap (λ (i : ℕ). get_or (replace (to_bytes b) (former memory b) m.memory) i 0) (sym place)
              ∙ replace_inside (to_bytes b) (former memory b) m.memory fits (x - to_bytes b) 0 (omega (arith, long))
              ∙ former_at (x - to_bytes b) (omega arith)
              ∙ ap (λ (i : ℕ). get_or memory i 0) place

      dirty_block : Carries b (suc k) (suc b) k (write (to_bytes b) (former memory b) ∷ send (mark_dirty b) ∷ [])
      dirty_block =
          record {
            allowed = dirty_allowed;
            goes =
                λ m r.
                let n : Machine = called setup (write (to_bytes b) (former memory b)) m in
                let o = opens (write (to_bytes b) (former memory b) ∷ []) (dirty_allowed.0, tt) m r.opened in
                let sounds = run_keeps setup (write (to_bytes b) (former memory b) ∷ []) m r.sound_so_far in
                let left = dirty_sent setup r.number n (serving b (suc k) m r n refl o sounds) (mark_dirty b) r.earlier o.window b (word b small) refl (reach n o 0 e) refl in
                marked_block m (sent setup (mark_dirty b) n) r (mark_dirty b) dirty n.memory e left refl
                (opens (write (to_bytes b) (former memory b) ∷ send (mark_dirty b) ∷ []) dirty_allowed m r.opened)
                (run_keeps setup (send (mark_dirty b) ∷ []) n sounds) (dirty_held m r);
          }

    -- an erased one
    erased_block : get_or s.marks b 0 ≡ erased_mark → Carries b (suc k) (suc b) k (send (mark_erased b) ∷ [])
    erased_block e =
        record {
          allowed = (inr refl, tt);
          goes =
              λ m r.
              let o = r.opened in
              let left = erase_sent setup r.number m (serving b (suc k) m r m refl o r.sound_so_far) (mark_erased b) r.earlier o.window b (word b small) refl (reach m o 1 e) refl in
              marked_block m (sent setup (mark_erased b) m) r (mark_erased b) erased_mark (erased (to_bytes b) block_bytes m.memory) e left refl
              (opens (send (mark_erased b) ∷ []) (inr refl, tt) m o) (run_keeps setup (send (mark_erased b) ∷ []) m r.sound_so_far)
              (held_more m.memory (erased (to_bytes b) block_bytes m.memory) r.held
              (λ x h. erased_outside (to_bytes b) block_bytes m.memory (omega (arith, room, within b 1 e, o.memory_long)) x (inl h))
              (λ x l h d. absurd (omega arith)));
        }

    -- a block with any mark
    block : Carries b (suc k) (suc b) k (restored memory b (get_or s.marks b 0))
    block =
        let mark = get_or s.marks b 0 in
        chosen (Carries b (suc k) (suc b) k) (eqb mark dirty) _ _ (λ t. dirty_block (eqb-true mark dirty t)) (λ n1.
        chosen (Carries b (suc k) (suc b) k) (eqb mark erased_mark) _ _ (λ t. erased_block (eqb-true mark erased_mark t)) (λ n2.
        clean_block (neither mark (mark_most s.size b s.marks fine) (eqb-false mark dirty n1) (eqb-false mark erased_mark n2))))

  -- ---- the blocks in turn
  blocks : (b : ℕ) (rest : List ℕ) → drop b s.marks ≡ rest → b + length rest ≡ 64
      → Carries b (length rest) 64 0 (restored_from memory b rest)
  blocks b [] e all = record { allowed = tt; goes = λ m r. subst (λ (c : ℕ). Ready c 0 m) (omega arith) r }
  blocks b (mark ∷ rest) e all =
      let others = blocks (suc b) rest tail (omega arith) in
      record {
        allowed = append_allowed s.size (restored memory b mark) (restored_from memory (suc b) rest) this.allowed others.allowed;
        goes =
            λ m r.
            subst (Ready 64 0) (sym (append_called setup (restored memory b mark) (restored_from memory (suc b) rest) m))
            (others.goes (called_all setup (restored memory b mark) m) (this.goes m r));
      }
    where
      split : get_or s.marks b 0 ∷ drop (suc b) s.marks ≡ mark ∷ rest
      split = sym (drop-cons s.marks b 0 (there b (length rest) all)) ∙ e

      first : get_or s.marks b 0 ≡ mark
      first = cc split

      this : Carries b (suc (length rest)) (suc b) (length rest) (restored memory b mark)
      this = subst (λ (x : ℕ). Carries b (suc (length rest)) (suc b) (length rest) (restored memory b x)) first (block b (length rest) all)

      tail : drop (suc b) s.marks ≡ rest
      tail = cc split

  -- ---- the window is opened again, on a machine that was found with some other window memory
  module _ (other : List ℕ) (other_size : length other ≡ length memory) where
    begun_sound : sound_in setup (begun flash worn other) ≡ true
    begun_sound = fresh_as setup (length flash) (length worn) (length memory) s sounds (length flash) (length worn) (length other) refl refl other_size

    -- GET_INFO
    info_ok : response setup get_info (begun flash worn other) ≡ 1
    info_ok = info_taken setup flash worn other begun_sound

    abbrev agreed : Machine
    agreed = lent (with_version 2 (numbered fresh get_info)) flash worn other

    left : agreeing setup get_info flash worn other ≡ agreed
    left = info_leaves setup get_info flash worn other info_ok refl

    -- CREATE_WRITE_WINDOW
    record Reopened (m : Machine) : Type 0 where
      taken : response setup (reopen s) m ≡ 1
      ready : Ready 0 64 (sent setup (reopen s) m)

    reopened : Reopened agreed
    reopened =
        record {
          taken = taken;
          ready =
              record {
                opened =
                    subst (λ (n : ℕ). Open s.first s.size n flash worn (sent setup (reopen s) agreed)) other_size
                    (create_opens setup agreed.session (reopen s) flash worn other refl taken refl s.first s.size refl refl
                    (ap (λ (t : Session). t.first) window) (ap (λ (t : Session). t.size) window));
                sound_so_far = run_keeps setup (send (reopen s) ∷ []) agreed serves.sounds;
                number = 1;
                previous = ap (λ (t : Session). t.previous) window;
                earlier = omega arith;
                marks = ap (λ (t : Session). t.marks) window;
                held = λ x h. absurd (omega arith);
              };
        }
      where
        serves : Serving setup 0 agreed
        serves =
            record {
              sounds = subst (λ (m : Machine). sound_in setup m ≡ true) left (run_keeps setup (send get_info ∷ []) (begun flash worn other) begun_sound);
              agreed = refl;
              awake = refl;
              previous = refl;
            }

        first_word : number 2 0 (reopen s) ≡ s.first
        first_word = word s.first (omega (arith, low))

        within_flash : number 2 0 (reopen s) < round_up (length flash)
        within_flash = rw first_word (omega (arith, some, d.fits.in_flash))

        taken : response setup (reopen s) agreed ≡ 1
        taken = create_taken setup 0 agreed serves (reopen s) (omega arith) refl within_flash refl

        window : (sent setup (reopen s) agreed).session ≡ with_window Write s.first s.size (numbered agreed.session (reopen s))
        window =
            create_session setup 0 agreed serves (reopen s) (omega arith) refl within_flash refl s.first s.size first_word
            (ap (size_for (round_up (length flash)) (round_up (length other)) s.first) (word s.size (omega (arith, few)))
            ∙ hinted (round_up (length flash)) (round_up (length other)) s.first s.size some (rw other_size d.fits.in_memory) d.fits.in_flash)

    -- the list, and FLUSH
    again : Reopened (agreeing setup get_info flash worn other)
    again = subst Reopened (sym left) reopened

    carried : Carries 0 64 64 0 (recipe s memory)
    carried = subst (λ (n : ℕ). Carries 0 n 64 0 (recipe s memory)) many (blocks 0 s.marks refl (omega arith))

    abbrev end : Machine
    end = marking setup get_info (reopen s) (recipe s memory) flash worn other

    ended : Ready 64 0 end
    ended = carried.goes (opening setup get_info (reopen s) flash worn other) again.ready

    -- the marks are those of the session, and none of their blocks is worn
    same_marks : end.session.marks ≡ s.marks
    same_marks = ended.marks ∙ append-nil (take 64 s.marks) ∙ take_all 64 s.marks (omega arith)

    meets_none : MeetsNone end.worn end.session
    meets_none b h =
        ap (λ (map : List ℕ). get_or map (end.session.first + b) 0) ended.opened.map_is
        ∙ ap (λ (n : ℕ). get_or worn (n + b) 0) ended.opened.first_is
        ∙ good b (ap (λ (marks : List ℕ). is_marked (get_or marks b 0)) (sym same_marks) ∙ h)

    flushes : Succeeds setup (by_flush flush_all) end
    flushes = (
      refl,
      flush_taken setup ended.number end (serving 64 0 end ended end refl ended.opened ended.sound_so_far) flush_all ended.earlier refl ended.opened.window meets_none,
    )

    second : (flash₀ worn₀ : List ℕ) (way : Way) → Succeeds setup way end → ByRecipe setup (lent s flash₀ worn₀ memory) flash worn other way
    second flash₀ worn₀ way ok =
        record {
          run =
              record {
                worn = worn;
                good = good;
                other = other;
                other_size = other_size;
                info = get_info;
                info_is = refl;
                info_succeeds = info_ok;
                agreed = ap (λ (m : Machine). m.session.version) left;
                create = reopen s;
                create_is = refl;
                create_succeeds = again.taken;
                same_first = again.ready.opened.first_is;
                same_size = again.ready.opened.size_is;
                calls = recipe s memory;
                allowed = carried.allowed;
                same_marks = same_marks;
                same_bytes = λ x p. let e = eqb-true (get_or s.marks (x / block_bytes) 0) dirty p in ended.held x (let h = within (x / block_bytes) 0 e in omega (arith, few)) e;
                way = way;
                way_succeeds = ok;
              };
          worn_is = refl;
          other_is = refl;
          info_is = refl;
          create_is = refl;
          calls_are = refl;
          way_is = refl;
        }

-- the statement stands in specs/Recipe.antt
pub recovers : Recovers
recovers setup m sounds w many list worn other worn-size good other_size =
    let s = m.session in
    let memory = m.memory in
    let f = (cut m list).machine.flash in
    let same : length f ≡ length m.flash = (demand_3 setup m sounds w list).0.flash_size in
    let sounds₁ : sound_at setup (length f) (length worn) (length memory) s ≡ true = rw (same, worn-size) sounds in (
      second setup s f worn memory sounds₁ w many good other other_size m.flash m.worn by_steps tt,
      second setup s f worn memory sounds₁ w many good other other_size m.flash m.worn (by_flush flush_all) (flushes setup s f worn memory sounds₁ w many good other other_size),
    )
