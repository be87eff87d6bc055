-- A flush that is cut after j of its actions, and a flush that is run to its end. Everything is said of one block or one byte of the window's
-- part: what its own actions among the first j leave, and what all of them leave whatever was there before.
use mathlib.Core.Path.{◌≡◌, refl, sym, ap, ◌∙◌, subst}
use mathlib.Core.Bool.{Bool, true, false, cond, ◌||◌, true≢false}
use mathlib.Core.List.{List, [], ◌∷◌, ◌++◌, append-nil}
use mathlib.Core.Logic.{◌⊎◌, inl, inr, ⊎_elim}
use Prim.Native.Nat.{ℕ, zero, suc, ◌+◌, ◌-◌, ◌*◌, ◌/◌, ◌≤◌, ◌<◌}
use native.Mathlib.Omega.{arith}
use lib.Bits.{bit_and}
use lib.Dec.{eqb, leb}
use lib.ListN.{length, get_or, take, drop, take-append-drop}
use lib.Seq.{ext_get_or}
use borrow.Author.Tests.{eq-eqb, ne_eqb, eqb-true, eqb-false, leb-true}
use Rattle.units.proofs.Cases.{decided, below_or, both}
use Rattle.units.specs.Units.{to_bytes}
use Rattle.session.specs.Marks.{erased_mark, erases, programs, is_marked}
use Rattle.soundness.specs.Soundness.{marks_sound}
use Rattle.flush.specs.Actions.{Action, erase, program, pages_from, block_actions, actions_from, flush_actions, perform_all}
use Rattle.flush.specs.Cut.{block_of, own, none, passed, under_work, ahead, progress, block_at, leaves}
use Rattle.buffers.proofs.Replace.{range_length, range_at}
use Rattle.flush.proofs.Lists.{by_asked, unmarked_none, clear_none, perform_none}
use Rattle.flush.proofs.Bytes.{byte_after, bytes_after, bytes_append, In, AllIn, performed_length, performed_byte}

-- ---- every action of sound marks lies in the window
pub all_append : (n : ℕ) (xs ys : List Action) → AllIn n xs → AllIn n ys → AllIn n (xs ++ ys)
all_append n [] ys p q = q
all_append n (x ∷ xs) ys p q = (p.0, all_append n xs ys p.1 q)

pub all_take : (n j : ℕ) (xs : List Action) → AllIn n xs → AllIn n (take j xs)
all_take n zero xs p = tt
all_take n (suc j) [] p = tt
all_take n (suc j) (x ∷ xs) p = (p.0, all_take n j xs p.1)

pub all_drop : (n j : ℕ) (xs : List Action) → AllIn n xs → AllIn n (drop j xs)
all_drop n zero xs p = p
all_drop n (suc j) [] p = tt
all_drop n (suc j) (x ∷ xs) p = all_drop n j xs p.1

all_pages : (n b p k : ℕ) → b < n → p + k ≤ 16 → AllIn n (pages_from b p k)
all_pages n b p zero h l = tt
all_pages n b p (suc k) h l = ((h, omega arith), all_pages n b (suc p) k h (omega arith))

all_block : (n b mark : ℕ) → b < n → AllIn n (block_actions b mark)
all_block n b mark h =
    by_asked (AllIn n) b mark (λ e p. (h, all_pages n b 0 16 h (omega arith))) (λ e p. (h, tt)) (λ e p. all_pages n b 0 16 h (omega arith)) (λ e p. tt)

none_block : (n b mark : ℕ) → leb mark 0 ≡ true → AllIn n (block_actions b mark)
none_block n b mark t = subst (AllIn n) (sym (clear_none b mark (leb-true mark 0 t))) tt

from_cons : (n b m : ℕ) (ms : List ℕ) → AllIn n (block_actions b m) → AllIn n (actions_from (suc b) ms) → AllIn n (actions_from b (m ∷ ms))
unfolding actions_from
from_cons n b m ms p q = all_append n (block_actions b m) (actions_from (suc b) ms) p q

all_none : (n b : ℕ) (marks : List ℕ) → marks_sound zero marks ≡ true → AllIn n (actions_from b marks)
unfolding actions_from
all_none n b [] e = tt
all_none n b (m ∷ ms) e =
    let p = both (leb m 0) (marks_sound zero ms) e in
    all_append n (block_actions b m) (actions_from (suc b) ms) (none_block n b m p.0) (all_none n (suc b) ms p.1)

all_from : (k b : ℕ) (marks : List ℕ) → marks_sound k marks ≡ true → AllIn (b + k) (actions_from b marks)
all_from zero b marks e = all_none (b + 0) b marks e
all_from (suc k) b [] e = all_none (b + suc k) b [] refl
all_from (suc k) b (m ∷ ms) e =
    let p = both (leb m 2) (marks_sound k ms) e in
    from_cons (b + suc k) b m ms (all_block (b + suc k) b m (omega arith))
    (subst (λ (n : ℕ). AllIn n (actions_from (suc b) ms)) (omega arith) (all_from k (suc b) ms p.1))

pub all_flush : (n : ℕ) (marks : List ℕ) → marks_sound n marks ≡ true → AllIn n (flush_actions marks)
unfolding flush_actions
all_flush n marks e = subst (λ (k : ℕ). AllIn k (actions_from 0 marks)) (omega arith) (all_from n 0 marks e)

-- ---- a byte is changed only by its own block's actions
outside : (memory : List ℕ) (n : ℕ) (a : Action) → In n a → (x old : ℕ) → (block_of a ≡ x / 4096 → ⊥) → byte_after memory a x old ≡ old
outside memory n (erase b) h x old q = rw (ne_eqb (x / 4096) b (λ e. q (sym e)))
outside memory n (program b p) h x old q = rw (ne_eqb (x / 256) (b * 16 + p) (λ e. q (same e)))
  where
    same : x / 256 ≡ b * 16 + p → b ≡ x / 4096
    same e = let k : p < 16 = h.1 in omega arith

pub bytes_own : (memory : List ℕ) (n : ℕ) (actions : List Action) → AllIn n actions → (x old : ℕ)
    → bytes_after memory actions x old ≡ bytes_after memory (own (x / 4096) actions) x old
bytes_own memory n [] all x old = refl
bytes_own memory n (a ∷ actions) all x old =
    ⊎_elim
    (λ (t : eqb (block_of a) (x / 4096) ≡ true). rw t (bytes_own memory n actions all.1 x (byte_after memory a x old)))
    (λ (t : eqb (block_of a) (x / 4096) ≡ false).
    rw t
    (ap (bytes_after memory actions x) (outside memory n a all.0 x old (eqb-false (block_of a) (x / 4096) t))
    ∙ bytes_own memory n actions all.1 x old))
    (decided (eqb (block_of a) (x / 4096)))

own_all : (n b : ℕ) (actions : List Action) → AllIn n actions → AllIn n (own b actions)
own_all n b [] all = tt
own_all n b (a ∷ actions) all =
    ⊎_elim
    (λ (t : eqb (block_of a) b ≡ true). rw t (all.0, own_all n b actions all.1))
    (λ (t : eqb (block_of a) b ≡ false). rw t (own_all n b actions all.1))
    (decided (eqb (block_of a) b))

own_own : (b : ℕ) (actions : List Action) → own b (own b actions) ≡ own b actions
own_own b [] = refl
own_own b (a ∷ actions) =
    ⊎_elim
    (λ (t : eqb (block_of a) b ≡ true). rw (t, t) (ap (λ (xs : List Action). a ∷ xs) (own_own b actions)))
    (λ (t : eqb (block_of a) b ≡ false). rw t (own_own b actions))
    (decided (eqb (block_of a) b))

pub own_append : (b : ℕ) (xs ys : List Action) → own b (xs ++ ys) ≡ own b xs ++ own b ys
own_append b [] ys = refl
own_append b (a ∷ xs) ys =
    ⊎_elim
    (λ (t : eqb (block_of a) b ≡ true). rw t (ap (λ (zs : List Action). a ∷ zs) (own_append b xs ys)))
    (λ (t : eqb (block_of a) b ≡ false). rw t (own_append b xs ys))
    (decided (eqb (block_of a) b))

-- ---- actions are taken in rising order of their blocks
Rising : ℕ → List Action → Type 0
Rising b [] = Unit
Rising b (a ∷ actions) = (b ≤ block_of a) × Rising (block_of a) actions

rising_less : (c b : ℕ) (actions : List Action) → c ≤ b → Rising b actions → Rising c actions
unfolding Rising
rising_less c b [] l r = tt
rising_less c b (a ∷ actions) l r = (omega (arith, r.0), r.1)

rising_drop : (c j : ℕ) (actions : List Action) → Rising c actions → Rising c (drop j actions)
unfolding Rising
rising_drop c zero actions r = r
rising_drop c (suc j) [] r = tt
rising_drop c (suc j) (a ∷ actions) r = rising_less c (block_of a) (drop j actions) r.0 (rising_drop (block_of a) j actions r.1)

-- a block below all of a rising list has none of its actions
above_none : (c b : ℕ) (actions : List Action) → b < c → Rising c actions → own b actions ≡ []
unfolding Rising
above_none c b [] l r = refl
above_none c b (a ∷ actions) l r =
    let k : b < block_of a = omega (arith, r.0) in
    rw (ne_eqb (block_of a) b (λ e. omega arith)) (above_none (block_of a) b actions k r.1)

-- a block of whose actions some are done and some are left is the one under work
first_own : (c b : ℕ) (actions : List Action) → c ≡ b → Rising c actions → none (own b actions) ≡ false → none (own b (take 1 actions)) ≡ false
unfolding Rising
first_own c b [] e r q = q
first_own c b (a ∷ actions) e r q =
    ⊎_elim
    (λ (t : eqb (block_of a) b ≡ true). rw t)
    (λ (t : eqb (block_of a) b ≡ false).
    absurd (true≢false (sym (ap none (above_none (block_of a) b actions (beyond t) r.1)) ∙ (rw t at q))))
    (decided (eqb (block_of a) b))
  where
    beyond : eqb (block_of a) b ≡ false → b < block_of a
    beyond t = let d : block_of a ≡ b → ⊥ = eqb-false (block_of a) b t in omega (arith, r.0)

-- so a block that still has actions, but not the next one, has none done
ahead_none : (c j b : ℕ) (actions : List Action) → Rising c actions → none (own b (drop j actions)) ≡ false
    → none (own b (take 1 (drop j actions))) ≡ true → own b (take j actions) ≡ []
unfolding Rising
ahead_none c zero b actions r p q = refl
ahead_none c (suc j) b [] r p q = refl
ahead_none c (suc j) b (a ∷ actions) r p q =
    ⊎_elim
    (λ (t : eqb (block_of a) b ≡ true).
    absurd (true≢false (sym q ∙ first_own (block_of a) b (drop j actions) (eqb-true (block_of a) b t) (rising_drop (block_of a) j actions r.1) p)))
    (λ (t : eqb (block_of a) b ≡ false). rw t (ahead_none (block_of a) j b actions r.1 p q))
    (decided (eqb (block_of a) b))

rising_pages : (b p k : ℕ) (rest : List Action) → Rising b rest → Rising b (pages_from b p k ++ rest)
unfolding Rising
rising_pages b p zero rest r = r
rising_pages b p (suc k) rest r = (omega arith, rising_pages b (suc p) k rest r)

rising_block : (b mark : ℕ) (rest : List Action) → Rising b rest → Rising b (block_actions b mark ++ rest)
unfolding Rising
rising_block b mark rest r =
    by_asked (λ xs. Rising b (xs ++ rest)) b mark
    (λ e p. (omega arith, rising_pages b 0 16 rest r)) (λ e p. (omega arith, r)) (λ e p. rising_pages b 0 16 rest r) (λ e p. r)

rising_from : (b : ℕ) (marks : List ℕ) → Rising b (actions_from b marks)
unfolding Rising actions_from
rising_from b [] = tt
rising_from b (m ∷ ms) =
    rising_block b m (actions_from (suc b) ms) (rising_less b (suc b) (actions_from (suc b) ms) (omega arith) (rising_from (suc b) ms))

rising_flush : (marks : List ℕ) → Rising 0 (flush_actions marks)
unfolding flush_actions
rising_flush marks = rising_from 0 marks

-- ---- one block after some actions
none_is : (actions : List Action) → none actions ≡ true → actions ≡ []
none_is [] e = refl
none_is (a ∷ actions) e = absurd (true≢false (sym e))

module _ (n : ℕ) (memory : List ℕ) (room : to_bytes n ≤ length memory) (part : List ℕ) (size : length part ≡ to_bytes n) where
  after_length : (actions : List Action) → AllIn n actions → length (perform_all memory actions part) ≡ to_bytes n
  after_length actions all = performed_length n memory room actions all part size ∙ size

  -- is what its own actions leave
  pub block_after : (actions : List Action) → AllIn n actions → (b : ℕ) → b < n
      → block_at b (perform_all memory actions part) ≡ leaves memory b actions part
  block_after actions all b h =
      ext_get_or 0 (block_at b (perform_all memory actions part)) (block_at b (perform_all memory (own b actions) part))
      (long (perform_all memory actions part) (after_length actions all) ∙ sym (long (perform_all memory (own b actions) part) (after_length (own b actions) (own_all n b actions all))))
      (λ i l. at i (rw (long (perform_all memory actions part) (after_length actions all)) at l))
    where
      long : (xs : List ℕ) → length xs ≡ to_bytes n → length (block_at b xs) ≡ 4096
      long xs e = range_length (to_bytes b) 4096 xs (omega arith)

      at : (i : ℕ) → i < 4096 → get_or (block_at b (perform_all memory actions part)) i 0 ≡ get_or (block_at b (perform_all memory (own b actions) part)) i 0
      at i l =
          let x = to_bytes b + i in
          let q : (to_bytes b + i) / 4096 ≡ b = omega arith in
          range_at (to_bytes b) 4096 (perform_all memory actions part) i l
          ∙ performed_byte n memory room actions all part size x
          ∙ bytes_own memory n actions all x (get_or part x 0)
          ∙ ap (λ (c : ℕ). bytes_after memory (own c actions) x (get_or part x 0)) q
          ∙ sym (performed_byte n memory room (own b actions) (own_all n b actions all) part size x)
          ∙ sym (range_at (to_bytes b) 4096 (perform_all memory (own b actions) part) i l)

  -- a block that is passed is finished
  pub passed_finished : (marks : List ℕ) (j b : ℕ) → progress b j (flush_actions marks) ≡ passed
      → leaves memory b (take j (flush_actions marks)) part ≡ leaves memory b (flush_actions marks) part
  passed_finished marks j b p =
      ap (λ (xs : List Action). block_at b (perform_all memory xs part)) (whole (none_is (own b (drop j (flush_actions marks))) (only (flush_actions marks) p)))
    where
      ahead_not : ahead ≡ passed → ⊥
      ahead_not e = let z : ◌≡◌ {A = ℕ} 0 1 = cc in omega arith

      work_not : under_work ≡ passed → ⊥
      work_not e = let z : ◌≡◌ {A = ℕ} 0 1 = cc in omega arith

      only : (actions : List Action) → progress b j actions ≡ passed → none (own b (drop j actions)) ≡ true
      only actions e =
          ⊎_elim (λ t. t)
          (λ (t : none (own b (drop j actions)) ≡ false).
          ⊎_elim
          (λ (u : none (own b (take 1 (drop j actions))) ≡ true). absurd (ahead_not (rw (t, u) at e)))
          (λ (u : none (own b (take 1 (drop j actions))) ≡ false). absurd (work_not (rw (t, u) at e)))
          (decided (none (own b (take 1 (drop j actions))))))
          (decided (none (own b (drop j actions))))

      whole : own b (drop j (flush_actions marks)) ≡ [] → own b (take j (flush_actions marks)) ≡ own b (flush_actions marks)
      whole e =
          sym
          (ap (own b) (sym (take-append-drop j (flush_actions marks)))
          ∙ own_append b (take j (flush_actions marks)) (drop j (flush_actions marks))
          ∙ ap (λ (xs : List Action). own b (take j (flush_actions marks)) ++ xs) e
          ∙ append-nil (own b (take j (flush_actions marks))))

  -- and one that is ahead is old
  pub ahead_old : (marks : List ℕ) (j b : ℕ) → progress b j (flush_actions marks) ≡ ahead → leaves memory b (take j (flush_actions marks)) part ≡ block_at b part
  ahead_old marks j b p =
      let q = only (flush_actions marks) p in
      ap (λ (xs : List Action). block_at b (perform_all memory xs part)) (ahead_none 0 j b (flush_actions marks) (rising_flush marks) q.0 q.1)
      ∙ ap (block_at b) (perform_none memory part)
    where
      passed_not : passed ≡ ahead → ⊥
      passed_not e = let z : ◌≡◌ {A = ℕ} 0 1 = cc in omega arith

      work_not : under_work ≡ ahead → ⊥
      work_not e = let z : ◌≡◌ {A = ℕ} 0 1 = cc in omega arith

      only : (actions : List Action) → progress b j actions ≡ ahead
          → (none (own b (drop j actions)) ≡ false) × (none (own b (take 1 (drop j actions))) ≡ true)
      only actions e =
          ⊎_elim
          (λ (t : none (own b (drop j actions)) ≡ true). absurd (passed_not (rw t at e)))
          (λ (t : none (own b (drop j actions)) ≡ false).
          ⊎_elim
          (λ (u : none (own b (take 1 (drop j actions))) ≡ true). (t, u))
          (λ (u : none (own b (take 1 (drop j actions))) ≡ false). absurd (work_not (rw (t, u) at e)))
          (decided (none (own b (take 1 (drop j actions))))))
          (decided (none (own b (drop j actions))))

-- ---- the flush run to its end, byte by byte
-- what a mark makes of a byte: an erase makes it FF, and programming ANDs the window's byte to what is there
abbrev pub byte_by : Bool → Bool → ℕ → ℕ → ℕ
byte_by erased programmed new old = cond programmed (bit_and (cond erased 0xff old) new) (cond erased 0xff old)

abbrev pub byte_of : ℕ → ℕ → ℕ → ℕ
byte_of mark new old = byte_by (erases mark) (programs mark) new old

byte_as : {e p : Bool} (mark new old : ℕ) → erases mark ≡ e → programs mark ≡ p → byte_by e p new old ≡ byte_of mark new old
byte_as {e} {p} mark new old q r =
    sym (ap (λ (t : Bool). byte_by t (programs mark) new old) q ∙ ap (λ (t : Bool). byte_by e t new old) r)

module _ (memory : List ℕ) (x : ℕ) where
  -- page p and the k after it, by whether x is in page p
  page : ℕ → ℕ → ℕ → ℕ → Bool → ℕ
  page b p k old t = bytes_after memory (pages_from b (suc p) k) x (cond t (bit_and old (get_or memory x 0)) old)

  pages_miss : (b p k old : ℕ) → (x / 256 < b * 16 + p) ⊎ (b * 16 + p + k ≤ x / 256) → bytes_after memory (pages_from b p k) x old ≡ old
  unfolding page
  pages_miss b p zero old o = refl
  pages_miss b p (suc k) old o =
      let here : eqb (x / 256) (b * 16 + p) ≡ false = ne_eqb (x / 256) (b * 16 + p) (λ e. ⊎_elim (λ l. omega arith) (λ l. omega arith) o) in
      ap (page b p k old) here
      ∙ (pages_miss b (suc p) k old (⊎_elim (λ l. inl (omega arith)) (λ l. inr (omega arith)) o))

  pages_hit : (b p k old : ℕ) → b * 16 + p ≤ x / 256 → x / 256 < b * 16 + p + k → bytes_after memory (pages_from b p k) x old ≡ bit_and old (get_or memory x 0)
  unfolding page
  pages_hit b p zero old l h = absurd (omega arith)
  pages_hit b p (suc k) old l h =
      ⊎_elim
      (λ (t : eqb (x / 256) (b * 16 + p) ≡ true).
      let e : x / 256 ≡ b * 16 + p = eqb-true (x / 256) (b * 16 + p) t in
      ap (page b p k old) t ∙ pages_miss b (suc p) k (bit_and old (get_or memory x 0)) (inl (omega arith)))
      (λ (t : eqb (x / 256) (b * 16 + p) ≡ false).
      let d : x / 256 ≡ b * 16 + p → ⊥ = eqb-false (x / 256) (b * 16 + p) t in
      ap (page b p k old) t ∙ pages_hit b (suc p) k old (omega arith) (omega arith))
      (decided (eqb (x / 256) (b * 16 + p)))

  -- an erase before other actions, by whether x is in its block
  erasing : {t : Bool} (b old : ℕ) (rest : List Action) → eqb (x / 4096) b ≡ t
      → bytes_after memory (erase b ∷ rest) x old ≡ bytes_after memory rest x (cond t 0xff old)
  erasing b old rest e = ap (λ (t : Bool). bytes_after memory rest x (cond t 0xff old)) e

  block_miss : (b mark old : ℕ) → (x / 4096 ≡ b → ⊥) → bytes_after memory (block_actions b mark) x old ≡ old
  block_miss b mark old d =
      by_asked (λ xs. bytes_after memory xs x old ≡ old) b mark
      (λ e p. erasing b old (pages_from b 0 16) (ne_eqb (x / 4096) b d) ∙ pages)
      (λ e p. erasing b old [] (ne_eqb (x / 4096) b d))
      (λ e p. pages)
      (λ e p. refl)
    where
      side : (x / 256 < b * 16 + 0) ⊎ (b * 16 + 0 ≤ x / 256) → (x / 256 < b * 16 + 0) ⊎ (b * 16 + 0 + 16 ≤ x / 256)
      side o = ⊎_elim inl (λ (l : b * 16 + 0 ≤ x / 256). inr (omega arith)) o

      pages : bytes_after memory (pages_from b 0 16) x old ≡ old
      pages = pages_miss b 0 16 old (side (below_or (x / 256) (b * 16 + 0)))

  block_hit : (b mark old : ℕ) → x / 4096 ≡ b → bytes_after memory (block_actions b mark) x old ≡ byte_of mark (get_or memory x 0) old
  block_hit b mark old h =
      let here : eqb (x / 4096) b ≡ true = eq-eqb (x / 4096) b h in
      by_asked (λ xs. bytes_after memory xs x old ≡ byte_of mark (get_or memory x 0) old) b mark
      (λ e p. erasing b old (pages_from b 0 16) here ∙ pages_hit b 0 16 0xff (omega arith) (omega arith) ∙ byte_as mark (get_or memory x 0) old e p)
      (λ e p. erasing b old [] here ∙ byte_as mark (get_or memory x 0) old e p)
      (λ e p. pages_hit b 0 16 old (omega arith) (omega arith) ∙ byte_as mark (get_or memory x 0) old e p)
      (λ e p. byte_as mark (get_or memory x 0) old e p)

  -- the marks from block b on: x lies before block b
  from_before : (b : ℕ) (marks : List ℕ) (old : ℕ) → x / 4096 < b → bytes_after memory (actions_from b marks) x old ≡ old
  unfolding actions_from
  from_before b [] old l = refl
  from_before b (m ∷ ms) old l =
      bytes_append memory (block_actions b m) (actions_from (suc b) ms) x old
      ∙ ap (bytes_after memory (actions_from (suc b) ms) x) (block_miss b m old (λ e. omega arith))
      ∙ from_before (suc b) ms old (omega arith)

  -- or at block b, or after it
  from_byte : (b : ℕ) (marks : List ℕ) (old : ℕ) → b ≤ x / 4096
      → bytes_after memory (actions_from b marks) x old ≡ byte_of (get_or marks (x / 4096 - b) 0) (get_or memory x 0) old
  unfolding actions_from
  from_byte b [] old l = refl
  from_byte b (m ∷ ms) old l =
      bytes_append memory (block_actions b m) (actions_from (suc b) ms) x old
      ∙ ⊎_elim
      (λ (lt : b < x / 4096).
      let later : x / 4096 - b ≡ suc (x / 4096 - suc b) = omega arith in
      ap (bytes_after memory (actions_from (suc b) ms) x) (block_miss b m old (λ e. omega arith))
      ∙ from_byte (suc b) ms old lt
      ∙ ap (λ (i : ℕ). byte_of (get_or (m ∷ ms) i 0) (get_or memory x 0) old) (sym later))
      (λ (ge : x / 4096 ≤ b).
      let here : x / 4096 - b ≡ 0 = omega arith in
      ap (bytes_after memory (actions_from (suc b) ms) x) (block_hit b m old (omega arith))
      ∙ from_before (suc b) ms (byte_of m (get_or memory x 0) old) (omega arith)
      ∙ ap (λ (i : ℕ). byte_of (get_or (m ∷ ms) i 0) (get_or memory x 0) old) (sym here))
      (below_or b (x / 4096))

-- a byte after the whole flush
pub flush_byte : (n : ℕ) (memory : List ℕ) → to_bytes n ≤ length memory → (marks : List ℕ) → marks_sound n marks ≡ true
    → (part : List ℕ) → length part ≡ to_bytes n → (x : ℕ)
    → get_or (perform_all memory (flush_actions marks) part) x 0 ≡ byte_of (get_or marks (x / 4096) 0) (get_or memory x 0) (get_or part x 0)
unfolding flush_actions
flush_byte n memory room marks sound part size x =
    performed_byte n memory room (flush_actions marks) (all_flush n marks sound) part size x
    ∙ from_byte memory x 0 marks (get_or part x 0) (omega arith)
    ∙ ap (λ (i : ℕ). byte_of (get_or marks i 0) (get_or memory x 0) (get_or part x 0)) whole
  where
    whole : x / 4096 - 0 ≡ x / 4096
    whole = omega arith

-- ---- whatever was there before
-- every block that is programmed is erased before, so that nothing is left of what was there
programs_erased : (mark : ℕ) → programs mark ≡ true → erases mark ≡ true
programs_erased mark p = ap (λ (t : Bool). t || eqb mark erased_mark) p

byte_same : (mark new₁ new₂ old₁ old₂ : ℕ) → (programs mark ≡ true → new₁ ≡ new₂) → (is_marked mark ≡ false → old₁ ≡ old₂)
    → byte_of mark new₁ old₁ ≡ byte_of mark new₂ old₂
byte_same mark new₁ new₂ old₁ old₂ d n =
    ⊎_elim
    (λ (p : programs mark ≡ true).
    let e = programs_erased mark p in
    sym (byte_as mark new₁ old₁ e p) ∙ ap (bit_and 0xff) (d p) ∙ byte_as mark new₂ old₂ e p)
    (λ (p : programs mark ≡ false).
    ⊎_elim
    (λ (e : erases mark ≡ true). sym (byte_as mark new₁ old₁ e p) ∙ byte_as mark new₂ old₂ e p)
    (λ (e : erases mark ≡ false).
    sym (byte_as mark new₁ old₁ e p) ∙ n (ap (λ (t : Bool). t || programs mark) e ∙ p) ∙ byte_as mark new₂ old₂ e p)
    (decided (erases mark)))
    (decided (programs mark))

-- the windows hold the same bytes in the blocks that are programmed, and the flashes the same outside the marked ones
pub record Alike (marks memory₁ memory₂ part₁ part₂ : List ℕ) : Type 0 where
  pub dirty : (x : ℕ) → programs (get_or marks (x / 4096) 0) ≡ true → get_or memory₁ x 0 ≡ get_or memory₂ x 0
  pub clean : (x : ℕ) → is_marked (get_or marks (x / 4096) 0) ≡ false → get_or part₁ x 0 ≡ get_or part₂ x 0

-- then both flushes end the same
pub flush_same : (n : ℕ) (marks : List ℕ) → marks_sound n marks ≡ true → (memory₁ memory₂ part₁ part₂ : List ℕ)
    → to_bytes n ≤ length memory₁ → to_bytes n ≤ length memory₂ → length part₁ ≡ to_bytes n → length part₂ ≡ to_bytes n
    → Alike marks memory₁ memory₂ part₁ part₂
    → perform_all memory₁ (flush_actions marks) part₁ ≡ perform_all memory₂ (flush_actions marks) part₂
flush_same n marks sound memory₁ memory₂ part₁ part₂ room₁ room₂ size₁ size₂ alike =
    let all = all_flush n marks sound in
    let long₁ = performed_length n memory₁ room₁ (flush_actions marks) all part₁ size₁ ∙ size₁ in
    let long₂ = performed_length n memory₂ room₂ (flush_actions marks) all part₂ size₂ ∙ size₂ in
    ext_get_or 0 (perform_all memory₁ (flush_actions marks) part₁) (perform_all memory₂ (flush_actions marks) part₂) (long₁ ∙ sym long₂)
    (λ x l.
    flush_byte n memory₁ room₁ marks sound part₁ size₁ x
    ∙ byte_same (get_or marks (x / 4096) 0) (get_or memory₁ x 0) (get_or memory₂ x 0) (get_or part₁ x 0) (get_or part₂ x 0) (alike.dirty x) (alike.clean x)
    ∙ sym (flush_byte n memory₂ room₂ marks sound part₂ size₂ x))

-- ---- a block without a mark has no action
own_pages : (b c p k : ℕ) → (c ≡ b → ⊥) → own b (pages_from c p k) ≡ []
own_pages b c p zero d = refl
own_pages b c p (suc k) d = rw (ne_eqb c b d) (own_pages b c (suc p) k d)

own_skip : (b : ℕ) (a : Action) (actions : List Action) → eqb (block_of a) b ≡ false → own b (a ∷ actions) ≡ own b actions
own_skip b a actions t = ap (λ (u : Bool). cond u (a ∷ own b actions) (own b actions)) t

own_other : (b c mark : ℕ) → (c ≡ b → ⊥) → own b (block_actions c mark) ≡ []
own_other b c mark d =
    by_asked (λ xs. own b xs ≡ []) c mark
    (λ e p. own_skip b (erase c) (pages_from c 0 16) (ne_eqb c b d) ∙ own_pages b c 0 16 d)
    (λ e p. own_skip b (erase c) [] (ne_eqb c b d)) (λ e p. own_pages b c 0 16 d) (λ e p. refl)

own_unmarked : (b c : ℕ) (marks : List ℕ) → c ≤ b → is_marked (get_or marks (b - c) 0) ≡ false → own b (actions_from c marks) ≡ []
unfolding actions_from
own_unmarked b c [] l t = refl
own_unmarked b c (m ∷ ms) l t =
    own_append b (block_actions c m) (actions_from (suc c) ms)
    ∙ ⊎_elim
    (λ (lt : c < b).
    let later : b - c ≡ suc (b - suc c) = omega arith in
    ap (λ (xs : List Action). xs ++ own b (actions_from (suc c) ms)) (own_other b c m (λ e. omega arith))
    ∙ own_unmarked b (suc c) ms lt (ap (λ (i : ℕ). is_marked (get_or (m ∷ ms) i 0)) (sym later) ∙ t))
    (λ (ge : b ≤ c).
    let here : b - c ≡ 0 = omega arith in
    ap (λ (xs : List Action). own b xs ++ own b (actions_from (suc c) ms)) (unmarked_none c m (ap (λ (i : ℕ). is_marked (get_or (m ∷ ms) i 0)) (sym here) ∙ t))
    ∙ above_none (suc c) b (actions_from (suc c) ms) (omega arith) (rising_from (suc c) ms))
    (below_or c b)

first_none : (xs ys : List Action) → xs ++ ys ≡ [] → xs ≡ []
first_none [] ys e = refl
first_none (x ∷ xs) ys e = let z : ◌≡◌ {A = ℕ} 0 1 = cc in absurd (omega arith)

own_cut : (b j : ℕ) (actions : List Action) → own b actions ≡ [] → own b (take j actions) ≡ []
own_cut b j actions e =
    first_none (own b (take j actions)) (own b (drop j actions))
    (sym (own_append b (take j actions) (drop j actions)) ∙ ap (own b) (take-append-drop j actions) ∙ e)

-- the first j actions of a flush leave what lies outside the marked blocks
pub cut_clean : (n : ℕ) (memory : List ℕ) → to_bytes n ≤ length memory → (marks : List ℕ) → marks_sound n marks ≡ true
    → (part : List ℕ) → length part ≡ to_bytes n → (j x : ℕ)
    → is_marked (get_or marks (x / 4096) 0) ≡ false
    → get_or (perform_all memory (take j (flush_actions marks)) part) x 0 ≡ get_or part x 0
unfolding flush_actions
cut_clean n memory room marks sound part size j x t =
    let actions = flush_actions marks in
    let all = all_take n j actions (all_flush n marks sound) in
    let place : x / 4096 - 0 ≡ x / 4096 = omega arith in
    performed_byte n memory room (take j actions) all part size x
    ∙ bytes_own memory n (take j actions) all x (get_or part x 0)
    ∙ ap (λ (xs : List Action). bytes_after memory xs x (get_or part x 0))
    (own_cut (x / 4096) j actions
    (own_unmarked (x / 4096) 0 marks (omega arith) (ap (λ (i : ℕ). is_marked (get_or marks i 0)) place ∙ t)))
