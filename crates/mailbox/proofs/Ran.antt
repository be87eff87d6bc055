-- A command's function: what its checks tell of the row of the table, and what it answers by them.
use Rattle.std.proofs.Common.{◌≡◌, ℕ, List, Bool, true, false, cond, not, ◌&&◌, Err, sym, ap, ◌∙◌, refl, subst, leb, length, arith, le-leb}
use Rattle.units.specs.Units.{round_up}
use Rattle.session.specs.declared.Session.{Session}
use Rattle.session.specs.Machine.{Machine, set_up, lent}
use Rattle.registers.specs.Registers.{sequence_of}
use Rattle.refusals.specs.declared.Reason.{Reason}
use Rattle.refusals.specs.declared.Reason.TheVariants.{System, Repeated, Unknown, Suspended, Windowless, Argument}
use Rattle.refusals.specs.declared.Needs.{Needs}
use Rattle.refusals.specs.declared.Needs.TheVariants.{NewNumber}
use Rattle.refusals.specs.Refusals.{Checked, Accepted, is_previous, is_write, needs_number, needs_access, needs_window, code_for, reason_for}
use Rattle.refusals.proofs.Accepting.{passed, never_system}
use Rattle.mailbox.specs.declared.call.Call.{Call}
use Rattle.mailbox.specs.Commands.{Outcome, numbered_in, refused}
use Rattle.mailbox.specs.Table.{Command, unknown}
use Rattle.mailbox.specs.Mediator.{reason_of, answer_to, obeyed}
use Rattle.mailbox.specs.Calls.{ran, obeyed_by}
use Rattle.mailbox.proofs.Mediating.{asked_as}

-- a command that is refused is not accepted
pub not_accepted : (r : Reason) → ◌≡◌ {A = Checked} (Err r) Accepted → ⊥
not_accepted r e = cc

-- every version knows what is known from 0 on
pub known_always : (version : ℕ) → leb 0 version ≡ true
known_always version = le-leb 0 version (omega arith)

-- ---- the argument rule is the last check
module _ (s : Session) (registers : List ℕ) (known : Bool) (needs : Needs) where
  pub argued_last : (broken : Bool) → reason_for true s registers known needs false ≡ Accepted
      → reason_for true s registers known needs broken ≡ cond broken (Err Argument) Accepted
  unfolding reason_for
  argued_last broken e = let p = passed true s registers known needs false e in rw (p.fresh, p.knows, p.awake, p.windowed) refl

  -- what holds of each check before it, holds of a refusal while no argument is looked at
  each_before : (P : Reason → Type 0) → P Repeated → P Unknown → P Suspended → P Windowless → (r : Reason)
      → reason_for true s registers known needs false ≡ Err r → P r
  unfolding reason_for
  each_before P p1 p2 p3 p4 r e =
      past (needs_number needs && is_previous s.previous (sequence_of registers)) p1
      (past (not known) p2
      (past (needs_access needs && s.suspended) p3
      (past (needs_window needs && not (is_write s.window)) p4 (λ (q : Accepted ≡ Err r). absurd (not_accepted r (sym q))))))
      e
    where
      inj : (q : Reason) → ◌≡◌ {A = Checked} (Err q) (Err r) → q ≡ r
      inj q e = cc

      past : (t : Bool) {q : Reason} {x : Checked} → P q → (x ≡ Err r → P r) → cond t (Err q) x ≡ Err r → P r
      past true {q} p f e = subst P (inj q e) p
      past false p f e = f e

  -- and it is the same whatever the argument rule says
  refused_before : (broken : Bool) (r : Reason) → reason_for true s registers known needs false ≡ Err r → reason_for true s registers known needs broken ≡ Err r
  unfolding reason_for
  refused_before broken r e =
      past (needs_number needs && is_previous s.previous (sequence_of registers)) (Err Repeated)
      (past (not known) (Err Unknown)
      (past (needs_access needs && s.suspended) (Err Suspended)
      (past (needs_window needs && not (is_write s.window)) (Err Windowless) (λ (q : Accepted ≡ Err r). absurd (not_accepted r (sym q))))))
      e
    where
      past : (t : Bool) (z : Checked) {x y : Checked} → (x ≡ Err r → y ≡ Err r) → cond t z x ≡ Err r → cond t z y ≡ Err r
      past true z f e = e
      past false z f e = f e

-- ---- what a call leaves, by the check that refuses it or that none does
module _ (c : Command) (call : Call) (flash worn memory : List ℕ) where
  -- what it leaves if no check refuses
  abbrev pub Left : Outcome
  Left = c.leaves (set_up call.board) call.registers (numbered_in call.registers (lent call.session flash worn memory))

  -- whether the argument rule is broken
  abbrev pub Broken : Bool
  Broken = c.broken call.session call.registers (round_up (length flash))

  by_reason : (r : Checked) → reason_of c true call.registers (lent call.session flash worn memory) ≡ r
      → answer_to r c (set_up call.board) call.registers (lent call.session flash worn memory) ≡ obeyed_by c call flash worn memory
  unfolding obeyed
  by_reason r e = sym (ap (λ (k : Checked). answer_to k c (set_up call.board) call.registers (lent call.session flash worn memory)) e)

  module _ {known : Bool} (k : known ≡ c.known call.session.version) where
    -- the argument rule looked at with the other checks
    module _ {broken : Bool} {r : Checked} (e : r ≡ reason_for true call.session call.registers known c.needs broken) (b : broken ≡ Broken) where
      pub served : r ≡ Accepted → Left ≡ obeyed_by c call flash worn memory
      unfolding answer_to
      served a = by_reason Accepted (sym (asked_as c call.registers (lent call.session flash worn memory) e k b) ∙ a)

      pub turned_down : c.when_broken ≡ refused → (q : Reason) → r ≡ Err q → ran (Err q) call flash worn memory ≡ obeyed_by c call flash worn memory
      unfolding answer_to
      turned_down w q a =
          as_refused q (λ s. never_system call.session call.registers known c.needs broken (sym e ∙ a ∙ ap Err s))
          ∙ by_reason (Err q) (sym (asked_as c call.registers (lent call.session flash worn memory) e k b) ∙ a)
        where
          as_refused : (q : Reason) → (q ≡ System → ⊥)
              → ran (Err q) call flash worn memory ≡ answer_to (Err q) c (set_up call.board) call.registers (lent call.session flash worn memory)
          as_refused System n = absurd (n refl)
          as_refused Repeated n = refl
          as_refused Unknown n = refl
          as_refused Suspended n = refl
          as_refused Windowless n = refl
          as_refused Argument n =
              ap (λ (f : ℕ → List ℕ → Machine → Outcome). f (code_for call.session.version (Err Argument)) call.registers (numbered_in call.registers (lent call.session flash worn memory)))
              (sym w)

    -- the argument rule looked at last
    module _ {r : Checked} (e : r ≡ reason_for true call.session call.registers known c.needs false) where
      pub refused_first : (q : Reason) → r ≡ Err q → ran (Err q) call flash worn memory ≡ obeyed_by c call flash worn memory
      unfolding answer_to
      refused_first q a =
          each_before call.session call.registers known c.needs
          (λ (q : Reason). ran (Err q) call flash worn memory ≡ answer_to (Err q) c (set_up call.board) call.registers (lent call.session flash worn memory))
          refl refl refl refl q (sym e ∙ a)
          ∙ by_reason (Err q) (ap (λ (t : Bool). reason_for true call.session call.registers t c.needs Broken) (sym k)
          ∙ refused_before call.session call.registers known c.needs Broken q (sym e ∙ a))

      module _ (a : r ≡ Accepted) where
        last : reason_of c true call.registers (lent call.session flash worn memory) ≡ cond Broken (Err Argument) Accepted
        last =
            ap (λ (t : Bool). reason_for true call.session call.registers t c.needs Broken) (sym k)
            ∙ argued_last call.session call.registers known c.needs Broken (sym e ∙ a)

        pub served_last : Broken ≡ false → Left ≡ obeyed_by c call flash worn memory
        unfolding answer_to
        served_last b = by_reason Accepted (last ∙ ap (λ (t : Bool). cond t (Err Argument) Accepted) b)

        pub broken_last : Broken ≡ true
            → c.when_broken (code_for call.session.version (Err Argument)) call.registers (numbered_in call.registers (lent call.session flash worn memory))
            ≡ obeyed_by c call flash worn memory
        unfolding answer_to
        broken_last b = by_reason (Err Argument) (last ∙ ap (λ (t : Bool). cond t (Err Argument) Accepted) b)

-- a code of no row: its number is looked at, and then no version knows it
module _ (call : Call) (flash worn memory : List ℕ) {r : Checked}
    (e : r ≡ reason_for true call.session call.registers (leb 0 call.session.version) NewNumber false) where
  pub unknown_checked : (q : Reason) → r ≡ Err q → ran (Err q) call flash worn memory ≡ obeyed_by unknown call flash worn memory
  unfolding reason_for
  unknown_checked q a =
      turned_down unknown call flash worn memory {known = false} refl {broken = false} {r = Err q} (by (is_previous call.session.previous (sequence_of call.registers)) (known_always call.session.version) (sym e ∙ a)) refl refl q refl
    where
      by : (t : Bool) → leb 0 call.session.version ≡ true → cond t (Err Repeated) (cond (not (leb 0 call.session.version)) (Err Unknown) Accepted) ≡ Err q → ◌≡◌ {A = Checked} (Err q) (cond t (Err Repeated) (Err Unknown))
      by true k e = sym e
      by false k e = let n : Accepted ≡ Err q = (rw k at e) in absurd (not_accepted q (sym n))

  pub unknown_passed : r ≡ Accepted → ran (Err Unknown) call flash worn memory ≡ obeyed_by unknown call flash worn memory
  unfolding reason_for
  unknown_passed a =
      turned_down unknown call flash worn memory {known = false} refl {broken = false} {r = Err Unknown}
      (let p = passed true call.session call.registers (leb 0 call.session.version) NewNumber false (sym e ∙ a) in rw p.fresh refl) refl refl Unknown refl
