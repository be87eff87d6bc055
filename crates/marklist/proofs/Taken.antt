-- What a list tells whose pairs are looked at: the first five checks have passed.
use Rattle.std.proofs.Common.{◌≡◌, ℕ, suc, ◌≤◌, Bool, true, false, not, eqb, List, [], ◌∷◌, length, Err, refl, arith}
use Rattle.std.proofs.lemmas.Bool.{not-true, not-false, cond_both}
use Rattle.session.specs.declared.Session.{Session}
use Rattle.session.specs.Machine.{Setup, Machine}
use Rattle.session.specs.Record.{with_marks}
use Rattle.soundness.specs.Soundness.{sound_at, sound_in}
use Rattle.soundness.proofs.Facts.{measured}
use Rattle.refusals.specs.Refusals.{is_write}
use Rattle.marklist.specs.declared.ListError.TheVariants.{Unsound, OtherVersion, Suspended, Windowless, Malformed, Outside}
use Rattle.marklist.specs.MarkList.{Pair, ListAnswer, Marked, list_code, malformed, is_inside, pairs_of, first_outside, answer_for, mark_pairs, session_for, listed, listed_in}
use Rattle.marklist.proofs.InPairs.{inside_larger}

pub record Taken (sound : Bool) (list : List ℕ) (s : Session) : Type 0 where
  pub sounds : sound ≡ true
  pub is_two : eqb s.version 2 ≡ true
  pub awake : s.suspended ≡ false
  pub writes : is_write s.window ≡ true
  pub formed : malformed (length list) ≡ false

-- an answer that the pairs give, and none of the first five checks
abbrev pub of_pairs : ListAnswer → Bool
of_pairs Marked = true
of_pairs (Err Unsound) = false
of_pairs (Err OtherVersion) = false
of_pairs (Err Suspended) = false
of_pairs (Err Windowless) = false
of_pairs (Err Malformed) = false
of_pairs (Err (Outside place)) = true

-- what holds of each refusal where its check refuses, and of what the pairs give where none does, holds of the answer
pub each_check : (P : ListAnswer → Type 0) (sound : Bool) (list : List ℕ) (s : Session) → (sound ≡ false → P (Err Unsound))
    → (eqb s.version 2 ≡ false → P (Err OtherVersion)) → (s.suspended ≡ true → P (Err Suspended))
    → (s.suspended ≡ false → is_write s.window ≡ false → P (Err Windowless)) → (malformed (length list) ≡ true → P (Err Malformed))
    → (Taken sound list s → P (first_outside s.size 0 (pairs_of list))) → P (answer_for sound list s)
unfolding answer_for
each_check P sound list s unsound other suspended windowless odd pairs =
    cond_both (not sound) (Err Unsound) _ P (λ e. unsound (not-true sound e)) λ sounds.
    cond_both (not (eqb s.version 2)) (Err OtherVersion) _ P (λ e. other (not-true (eqb s.version 2) e)) λ two.
    cond_both s.suspended (Err Suspended) _ P suspended λ awake.
    cond_both (not (is_write s.window)) (Err Windowless) _ P (λ e. windowless awake (not-true (is_write s.window) e)) λ writes.
    cond_both (malformed (length list)) (Err Malformed) _ P odd λ formed.
    pairs
    (record {
      sounds = not-false sound sounds;
      is_two = not-false (eqb s.version 2) two;
      awake = awake;
      writes = not-false (is_write s.window) writes;
      formed = formed;
    })

pub taken : (sound : Bool) (list : List ℕ) (s : Session) (a : ListAnswer) → of_pairs a ≡ true → answer_for sound list s ≡ a
    → Taken sound list s × (first_outside s.size 0 (pairs_of list) ≡ a)
taken sound list s a o =
    each_check (λ (b : ListAnswer). b ≡ a → Taken sound list s × (first_outside s.size 0 (pairs_of list) ≡ a)) sound list s
    (λ _ e. absurd cc) (λ _ e. absurd cc) (λ _ e. absurd cc) (λ _ _ e. absurd cc) (λ _ e. absurd cc) (λ t e. (t, e))

-- and the other way round
pub answer_taken : (sound : Bool) (list : List ℕ) (s : Session) → Taken sound list s → answer_for sound list s ≡ first_outside s.size 0 (pairs_of list)
unfolding answer_for
answer_taken sound list s t = rw (t.sounds, t.is_two, t.awake, t.writes, t.formed)

-- the pairs of a list that is marked lie in the 64 marks
pub within_marks : (setup : Setup) (flash worn memory : ℕ) (list : List ℕ) (s : Session) → answer_for (sound_at setup flash worn memory s) list s ≡ Marked
    → first_outside 64 0 (pairs_of list) ≡ Marked
within_marks setup flash worn memory list s e =
    let t = taken (sound_at setup flash worn memory s) list s Marked refl e in
    let m = measured setup flash worn memory s t.0.sounds in
    let small : s.size ≤ 64 = omega (arith, m.fits.in_memory, m.memory_sized.few) in
    inside_larger s.size 64 0 (pairs_of list) small t.1

-- what the call leaves: the session as it was, or where it answers that it marked, marked
pub listed_left : (P : Session → Type 0) (setup : Setup) (flash worn memory : ℕ) (list : List ℕ) (s : Session) → P s
    → (answer_for (sound_at setup flash worn memory s) list s ≡ Marked → P (with_marks (mark_pairs (pairs_of list) s.marks) s))
    → P (listed setup flash worn memory list s).session
unfolding listed
listed_left P setup flash worn memory list s same marked = go (answer_for (sound_at setup flash worn memory s) list s) refl
  where
    go : (a : ListAnswer) → answer_for (sound_at setup flash worn memory s) list s ≡ a → P (session_for a list s)
    go Marked e = marked e
    go (Err Unsound) e = same
    go (Err OtherVersion) e = same
    go (Err Suspended) e = same
    go (Err Windowless) e = same
    go (Err Malformed) e = same
    go (Err (Outside place)) e = same

pub list_left : (P : Session → Type 0) (setup : Setup) (list : List ℕ) (m : Machine) → P m.session
    → (answer_for (sound_in setup m) list m.session ≡ Marked → P (with_marks (mark_pairs (pairs_of list) m.session.marks) m.session))
    → P (listed_in setup list m).session
list_left P setup list m = listed_left P setup (length m.flash) (length m.worn) (length m.memory) list m.session

-- its answer
pub listed_answer : (setup : Setup) (flash worn memory : ℕ) (list : List ℕ) (s : Session)
    → (listed setup flash worn memory list s).answer ≡ answer_for (sound_at setup flash worn memory s) list s
unfolding listed
listed_answer setup flash worn memory list s = refl

pub list_answer : (setup : Setup) (list : List ℕ) (m : Machine) → (listed_in setup list m).answer ≡ answer_for (sound_in setup m) list m.session
list_answer setup list m = listed_answer setup (length m.flash) (length m.worn) (length m.memory) list m.session

-- both, where the sizes, B or the session are not sound
pub listed_unsound : (setup : Setup) (flash worn memory : ℕ) (list : List ℕ) (s : Session) → sound_at setup flash worn memory s ≡ false
    → listed setup flash worn memory list s ≡ record { session = s; answer = (Err Unsound) }
unfolding listed answer_for
listed_unsound setup flash worn memory list s e = rw e

-- the code that the pairs give is 1 or 2
pub pairs_code : (P : ℕ → Type 0) → P 1 → P 2 → (size place : ℕ) (pairs : List Pair) → P (list_code (first_outside size place pairs))
pairs_code P one two size place [] = one
pairs_code P one two size place (pair ∷ pairs) =
    cond_both (not (is_inside size pair)) (Err (Outside place)) (first_outside size (suc place) pairs) (λ (a : ListAnswer). P (list_code a))
    (λ _. two)
    (λ _. pairs_code P one two size (suc place) pairs)
