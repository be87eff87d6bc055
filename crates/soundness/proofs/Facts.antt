-- What a sound size and a sound session tell.
use mathlib.Core.Path.{◌≡◌, ◌∙◌}
use mathlib.Core.Bool.{true, false, ◌&&◌}
use mathlib.Core.Logic.{⊎_elim}
use lib.Dec.{leb}
use Prim.Native.Nat.{ℕ, ◌+◌, ◌≤◌, ◌<◌}
use native.Mathlib.Omega.{arith}
use borrow.Author.Tests.{leb-true, eqb-true, le-leb}
use Rattle.units.proofs.Cases.{decided, both}
use Rattle.units.specs.Units.{to_bytes, round_up, to_blocks}
use Rattle.session.specs.declared.Session.{Session}
use Rattle.session.specs.declared.Window.{Window}
use Rattle.session.specs.declared.Window.TheVariants.{Closed, Read, Write}
use Rattle.session.specs.Machine.{Setup}
use Rattle.session.specs.Marks.{counts_of}
use Rattle.soundness.proofs.Counting.{counts_same, same_counts_lem}
use Rattle.soundness.specs.Soundness.{size_sound, sizes_sound, access_sound, active_sound, window_sound, markable, marks_sound, session_sound, sound, sound_at}

-- a buffer of whole blocks
pub record Sized (most length : ℕ) : Type 0 where
  pub some : 1 ≤ round_up length
  pub few : round_up length ≤ most
  pub whole : to_bytes (round_up length) ≡ length

pub sized : (most length : ℕ) → size_sound most length ≡ true → Sized most length
unfolding size_sound
sized most length e =
    let p = both _ _ e in
    let q = both _ _ p.1 in
    record { some = leb-true _ _ p.0; few = leb-true _ _ q.0; whole = eqb-true _ _ q.1 }

-- its blocks are counted exactly
pub counted : (most length : ℕ) → most < 65536 → Sized most length → to_blocks length ≡ round_up length
counted most length h s = omega arith

pub sizes : (flash worn memory : ℕ) (s : Session) → sound flash worn memory s ≡ true
    → (size_sound 65535 flash ≡ true) × (size_sound 64 memory ≡ true) × (session_sound (round_up flash) (round_up memory) s ≡ true) × (worn ≡ round_up flash)
unfolding sound sizes_sound
sizes flash worn memory s e =
    let p = both _ _ e in
    let q = both _ _ p.0 in
    let r = both _ _ q.1 in
    (q.0, r.0, p.1, eqb-true worn (round_up flash) r.1)

-- what counts a buffer's blocks counts them exactly
pub block_count : (most length n : ℕ) → n ≡ to_blocks length → size_sound most length ≡ true → most < 65536 → n ≡ round_up length
block_count most length n e h few = e ∙ counted most length few (sized most length h)

pub sound_block_count : (flash worn memory n : ℕ) (s : Session) → sound flash worn memory s ≡ true → n ≡ to_blocks memory → n ≡ round_up memory
sound_block_count flash worn memory n s e h = block_count 64 memory n h (sizes flash worn memory s e).1 (omega arith)

active_within : (first size S C : ℕ) → active_sound first size S C ≡ true → (first + size ≤ S) × (size ≤ C)
active_within first size S C e =
    let p = both (leb 1 size) (leb size C && leb (first + size) S) e in
    let q = both (leb size C) (leb (first + size) S) p.1 in
    (leb-true (first + size) S q.1, leb-true size C q.0)

-- a sound window, active or not, lies in the flash and in the window memory
window_within : (w : Window) (first size S C : ℕ) → window_sound w first size S C ≡ true → (first + size ≤ S) × (size ≤ C)
window_within Closed first size S C e =
    let p = both _ _ e in
    let f = eqb-true first 0 p.0 in
    let z = eqb-true size 0 p.1 in
    (omega arith, omega arith)
window_within Read first size S C e = active_within first size S C e
window_within Write first size S C e = active_within first size S C e

-- what a sound session tells, in blocks
pub record Fitting (S C : ℕ) (s : Session) : Type 0 where
  pub known : s.version ≤ 2
  pub access : access_sound s.suspended s.events ≡ true
  pub in_flash : s.first + s.size ≤ S
  pub in_memory : s.size ≤ C
  pub window : window_sound s.window s.first s.size S C ≡ true
  pub marks : marks_sound (markable s.window s.size) s.marks ≡ true
  pub counts : s.counts ≡ counts_of s.marks

pub fitting : (S C : ℕ) (s : Session) → session_sound S C s ≡ true → Fitting S C s
unfolding session_sound
fitting S C s e =
    let p = both _ _ e in
    let a = both _ _ p.1 in
    let q = both _ _ a.1 in
    let m = both _ _ q.1 in
    let w = window_within s.window s.first s.size S C q.0 in
    record {
      known = leb-true _ _ p.0;
      access = a.0;
      in_flash = w.0;
      in_memory = w.1;
      window = q.0;
      marks = m.0;
      counts = counts_same s.counts (counts_of s.marks) m.1;
    }

-- the kept numbers are those of the marks
pub counts_right : (flash worn memory : ℕ) (s : Session) → sound flash worn memory s ≡ true → s.counts ≡ counts_of s.marks
counts_right flash worn memory s e = (fitting (round_up flash) (round_up memory) s (sizes flash worn memory s e).2).counts

-- where they are not, it is not sound
pub miscounted : (flash worn memory : ℕ) (s : Session) → (s.counts ≡ counts_of s.marks → ⊥) → sound flash worn memory s ≡ false
miscounted flash worn memory s apart =
    ⊎_elim (λ (e : sound flash worn memory s ≡ true). absurd (apart (counts_right flash worn memory s e))) (λ (e : sound flash worn memory s ≡ false). e)
    (decided (sound flash worn memory s))

-- and the other way: a session that fits the sizes of a sound one is sound
pub refitted : (flash worn memory : ℕ) (s t : Session) → sound flash worn memory s ≡ true → t.version ≤ 2
    → access_sound t.suspended t.events ≡ true → window_sound t.window t.first t.size (round_up flash) (round_up memory) ≡ true → marks_sound (markable t.window t.size) t.marks ≡ true
    → t.counts ≡ counts_of t.marks → sound flash worn memory t ≡ true
unfolding sound session_sound
refitted flash worn memory s t e v a w m n =
    rw ((both (sizes_sound flash worn memory) _ e).0, le-leb t.version 2 v, a, w, m) (same_counts_lem t.counts (counts_of t.marks) n)

-- and with B, which no session has a part in
pub sound_with : (setup : Setup) (flash worn memory : ℕ) (s t : Session) → sound_at setup flash worn memory s ≡ true → sound flash worn memory t ≡ true
    → sound_at setup flash worn memory t ≡ true
unfolding sound_at
sound_with setup flash worn memory s t e h = rw ((both (sound flash worn memory s) _ e).1, h)

pub refitted_at : (setup : Setup) (flash worn memory : ℕ) (s t : Session) → sound_at setup flash worn memory s ≡ true → t.version ≤ 2
    → access_sound t.suspended t.events ≡ true → window_sound t.window t.first t.size (round_up flash) (round_up memory) ≡ true → marks_sound (markable t.window t.size) t.marks ≡ true
    → t.counts ≡ counts_of t.marks → sound_at setup flash worn memory t ≡ true
unfolding sound_at
refitted_at setup flash worn memory s t e v a w m n =
    sound_with setup flash worn memory s t e (refitted flash worn memory s t (both (sound flash worn memory s) _ e).0 v a w m n)

-- and in bytes: the window's part lies in the flash, its blocks in the window memory, and its part of the map in the map
pub part_within : (flash worn memory : ℕ) (s : Session) → sound flash worn memory s ≡ true
    → (to_bytes s.first + to_bytes s.size ≤ flash) × (to_bytes s.size ≤ memory) × (s.first + s.size ≤ worn)
part_within flash worn memory s e =
    let t = sizes flash worn memory s e in
    let f = sized 65535 flash t.0 in
    let m = sized 64 memory t.1 in
    let w = fitting (round_up flash) (round_up memory) s t.2 in
    (omega (arith, f.whole, w.in_flash), omega (arith, m.whole, w.in_memory), omega (arith, w.in_flash, t.3))

-- what the first check of a command tells
pub record Measured (flash worn memory : ℕ) (s : Session) : Type 0 where
  pub sound : sound flash worn memory s ≡ true
  pub flash_sized : Sized 65535 flash
  pub memory_sized : Sized 64 memory
  pub map_sized : worn ≡ round_up flash
  pub fits : Fitting (round_up flash) (round_up memory) s

pub measured : (setup : Setup) (flash worn memory : ℕ) (s : Session) → sound_at setup flash worn memory s ≡ true → Measured flash worn memory s
unfolding sound_at
measured setup flash worn memory s e =
    let t = (both (sound flash worn memory s) _ e).0 in
    let z = sizes flash worn memory s t in
    record {
      sound = t;
      flash_sized = sized 65535 flash z.0;
      memory_sized = sized 64 memory z.1;
      map_sized = z.3;
      fits = fitting (round_up flash) (round_up memory) s z.2;
    }
