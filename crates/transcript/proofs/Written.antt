-- Laws of the bytes that are written into a text.
use mathlib.Core.Path.{◌≡◌, refl, sym, ap, subst, ◌∙◌}
use mathlib.Core.List.{List, [], ◌∷◌, ◌++◌, append-nil, append_assoc}
use Prim.Native.Nat.{ℕ, suc, ◌+◌, ◌≤◌, ◌<◌}
use native.Mathlib.Omega.{arith}
use native.Mathlib.Numerals.{add-one}
use lib.ListN.{length, get_or, set, take, drop, drop_of_length-le, length-append, length-set}
use lib.Seq.{drop-cons, take-suc-set}
use Rattle.std.specs.Prelude.{Option, None}
use Rattle.transcript.specs.declared.printing.Printed.{Printed}
use Rattle.transcript.specs.Printing.{written, answer_text}
use Rattle.transcript.specs.Puts.{Puts}

-- the next byte of a part, and the bytes behind it
pub written_more : (at i : ℕ) (part text : List ℕ) → i < length part
    → written (at + i) (drop i part) text ≡ written (at + (i + 1)) (drop (i + 1) part) (set text (at + i) (get_or part i 0))
unfolding written
written_more at i part text h =
    ap (λ (t : List ℕ). written (at + i) t text) (drop-cons part i 0 h)
    ∙ ap (λ (n : ℕ). written n (drop (suc i) part) (set text (at + i) (get_or part i 0))) place
    ∙ ap (λ (n : ℕ). written (at + (i + 1)) (drop n part) (set text (at + i) (get_or part i 0))) (sym (add-one i))
  where
    place : at + i + 1 ≡ at + (i + 1)
    place = omega arith

-- no byte is left
pub written_none : (at i : ℕ) (part text : List ℕ) → length part ≤ i → written (at + i) (drop i part) text ≡ text
unfolding written
written_none at i part text h = ap (λ (t : List ℕ). written (at + i) t text) (drop_of_length-le part h)

-- none at all
pub written_empty : (at : ℕ) (text : List ℕ) → written at [] text ≡ text
unfolding written
written_empty at text = refl

-- one part behind another
pub written_append : (at : ℕ) (xs ys text : List ℕ) → written at (xs ++ ys) text ≡ written (at + length xs) ys (written at xs text)
unfolding written
written_append at [] ys text = ap (λ (n : ℕ). written n ys text) here
  where
    here : at ≡ at + 0
    here = omega arith
written_append at (x ∷ xs) ys text =
    written_append (at + 1) xs ys (set text at x)
    ∙ ap (λ (n : ℕ). written n ys (written (at + 1) xs (set text at x))) behind
  where
    behind : at + 1 + length xs ≡ at + suc (length xs)
    behind = omega arith

-- where there is room, the text has the bytes at their places
front_at : (at : ℕ) (xs text : List ℕ) → at + length xs ≤ length text → take (at + length xs) (written at xs text) ≡ take at text ++ xs
unfolding written
front_at at [] text h = ap (λ (n : ℕ). take n text) here ∙ sym (append-nil (take at text))
  where
    here : at + 0 ≡ at
    here = omega arith
front_at at (x ∷ xs) text h =
    ap (λ (n : ℕ). take n (written (at + 1) xs (set text at x))) behind
    ∙ front_at (at + 1) xs (set text at x) (rw length-set room)
    ∙ ap (λ (n : ℕ). take n (set text at x) ++ xs) (add-one at)
    ∙ ap (λ (t : List ℕ). t ++ xs) (take-suc-set text at x (omega arith))
    ∙ append_assoc (take at text) (x ∷ []) xs
  where
    behind : at + suc (length xs) ≡ at + 1 + length xs
    behind = omega arith

    room : at + 1 + length xs ≤ length text
    room = omega arith

pub written_front : (xs text : List ℕ) → length xs ≤ length text → take (length xs) (written 0 xs text) ≡ xs
written_front xs text h = ap (λ (n : ℕ). take n (written 0 xs text)) front ∙ front_at 0 xs text (omega arith)
  where
    front : length xs ≡ 0 + length xs
    front = omega arith

-- two calls, one behind the other
pub joined : {before between after : Printed} {xs ys : List ℕ} → Puts before xs between → Puts between ys after → Puts before (xs ++ ys) after
joined {before} {between} {after} {xs} {ys} p q = record {
  end = places (length xs) (length ys) (length (xs ++ ys)) before.end between.end after.end p.end q.end (length-append xs ys);
  text = q.text ∙ ap (written between.end ys) p.text ∙ ap (λ (n : ℕ). written n ys (written before.end xs before.text.now)) p.end ∙ sym (written_append before.end xs ys before.text.now);
  same_buffer = q.same_buffer ∙ p.same_buffer;
}
  where
    places : (a b n at middle end : ℕ) → middle ≡ at + a → end ≡ middle + b → n ≡ a + b → end ≡ at + n
    places a b n at middle end h k e = omega arith

-- the same bytes, told otherwise
pub puts_as : {before after : Printed} {xs ys : List ℕ} → xs ≡ ys → Puts before xs after → Puts before ys after
puts_as {before} {after} e p = subst (λ (t : List ℕ). Puts before t after) e p

-- none are put where no command was answered
pub puts_none : (answer : Option (List ℕ)) (p : Printed) → answer ≡ None → Puts p (answer_text answer) p
puts_none answer p e = rw e (record { end = omega arith; text = sym (written_empty p.end p.text.now); same_buffer = refl })

-- ---- what is left of a text, so that it ends as the whole text put at once
pub record Left (before : Printed) (whole : List ℕ) (now : Printed) (rest : List ℕ) : Type 0 where
  pub end : now.end + length rest ≡ before.end + length whole
  pub text : written now.end rest now.text.now ≡ written before.end whole before.text.now
  pub same_buffer : now.text.ghost_name ≡ before.text.ghost_name

module _ {before : Printed} {whole : List ℕ} where
  pub left_all_lem : Left before whole before whole
  left_all_lem = record { end = refl; text = refl; same_buffer = refl }

  -- the first part of it is put
  pub left_put : {now : Printed} {part rest : List ℕ} {next : Printed} → Left before whole now (part ++ rest) → Puts now part next → Left before whole next rest
  left_put {now} {part} {rest} {next} l p = record {
    end = places (length part) (length rest) (length (part ++ rest)) (before.end + length whole) now.end next.end p.end l.end (length-append part rest);
    text = ap (written next.end rest) p.text ∙ ap (λ (n : ℕ). written n rest (written now.end part now.text.now)) p.end ∙ sym (written_append now.end part rest now.text.now) ∙ l.text;
    same_buffer = p.same_buffer ∙ l.same_buffer;
  }
    where
      places : (a b n w end next : ℕ) → next ≡ end + a → end + n ≡ w → n ≡ a + b → next + b ≡ w
      places a b n w end next h k e = omega arith

  -- the same text, told otherwise
  pub left_as : {now : Printed} {rest rest' : List ℕ} → rest ≡ rest' → Left before whole now rest → Left before whole now rest'
  left_as {now} e l = subst (λ (t : List ℕ). Left before whole now t) e l

  -- nothing is left
  pub left_none : {now : Printed} → Left before whole now [] → Puts before whole now
  left_none {now} l = record {
    end = ends (before.end + length whole) now.end l.end;
    text = sym (written_empty now.end now.text.now) ∙ l.text;
    same_buffer = l.same_buffer;
  }
    where
      ends : (w end : ℕ) → end + 0 ≡ w → end ≡ w
      ends w end e = omega arith
