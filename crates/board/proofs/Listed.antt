-- A list of marks over C's record: the claim stands in specs/Calls.antt.
use mathlib.Core.Path.{◌≡◌, refl, sym, ap, ◌∙◌}
use mathlib.Core.Bool.{true, false, false≢true}
use mathlib.Core.List.{List}
use mathlib.Core.Logic.{⊎_elim}
use Prim.Native.Nat.{ℕ}
use Rattle.std.specs.Prelude.{Option, Ok, Err}
use Rattle.units.proofs.Cases.{decided}
use Rattle.session.specs.declared.Session.{Session}
use Rattle.session.specs.Machine.{Setup}
use Rattle.marklist.specs.declared.ListError.{ListError}
use Rattle.marklist.specs.declared.ListError.TheVariants.{Unsound}
use Rattle.marklist.specs.MarkList.{list_code, left, listed}
use Rattle.marklist.proofs.Taken.{listed_left, listed_answer}
use Rattle.board.specs.declared.Record.{Record}
use Rattle.board.specs.Record.{yes_no, is_numbered, number_or, is_regular, session_of, record_of}
use Rattle.board.specs.Calls.{list_reply_of, marked_record, kept_list, listed_record, RecordListed}
use Rattle.board.proofs.Answers.{nothing_lost}

module _ (setup : Setup) (flash worn memory : ℕ) (list : List ℕ) (h : Record) where
  abbrev after : Session
  after = (listed setup flash worn memory list (session_of h)).session

  -- the session's previous number stays, and without success the session
  previous : after.previous ≡ (session_of h).previous
  previous = listed_left (λ (t : Session). t.previous ≡ (session_of h).previous) setup flash worn memory list (session_of h) refl (λ _. refl)

  stays : (list_code (listed setup flash worn memory list (session_of h)).answer ≡ 1 → ⊥) → after ≡ session_of h
  stays =
      listed_left (λ (t : Session). (list_code (listed setup flash worn memory list (session_of h)).answer ≡ 1 → ⊥) → t ≡ session_of h)
      setup flash worn memory list (session_of h) (λ _. refl)
      (λ a n. absurd (n (ap list_code (listed_answer setup flash worn memory list (session_of h) ∙ a))))

-- what is left where the record is not regular, where all pairs are marked, and where the list is refused
pub list_irregular : (setup : Setup) (flash worn memory : ℕ) (list : List ℕ) (h : Record) → is_regular h ≡ false
    → marked_record h (Err Unsound) ≡ listed_record setup flash worn memory list h
unfolding listed_record
list_irregular setup flash worn memory list h e = rw e refl

pub list_marked : (setup : Setup) (flash worn memory : ℕ) (list : List ℕ) (h : Record) (s : Session) → is_regular h ≡ true
    → left (session_of h) (Ok s) ≡ listed setup flash worn memory list (session_of h)
    → marked_record h (Ok (record_of h.previous s)) ≡ listed_record setup flash worn memory list h
unfolding listed_record
list_marked setup flash worn memory list h s e l = rw e (ap (kept_list h.previous) l)

pub list_refused : (setup : Setup) (flash worn memory : ℕ) (list : List ℕ) (h : Record) (refused : ListError) → is_regular h ≡ true
    → left (session_of h) (Err refused) ≡ listed setup flash worn memory list (session_of h)
    → marked_record h (Err refused) ≡ listed_record setup flash worn memory list h
unfolding listed_record
list_refused setup flash worn memory list h refused e l =
    rw e (ap (λ (r : Record). record { held = r; answer = list_reply_of (Err refused) }) (sym (nothing_lost.1 h e)) ∙ ap (kept_list h.previous) l)

pub record_listed : RecordListed
unfolding listed_record
record_listed setup flash worn memory list h =
    ⊎_elim
    (λ (e : is_regular h ≡ true).
    rw e (
      ap (λ (p : Option ℕ). yes_no (is_numbered p)) (previous setup flash worn memory list h) ∙ ap (λ (r : Record). r.numbered) (nothing_lost.1 h e),
      ap (number_or h.previous) (previous setup flash worn memory list h) ∙ ap (λ (r : Record). r.previous) (nothing_lost.1 h e),
      λ n. ap (record_of h.previous) (stays setup flash worn memory list h n) ∙ nothing_lost.1 h e,
      λ q. absurd (false≢true (sym q)),
      λ _. refl,
    ))
    (λ (e : is_regular h ≡ false). rw e (refl, refl, λ _. refl, λ _. refl, λ q. absurd (false≢true q)))
    (decided (is_regular h))
