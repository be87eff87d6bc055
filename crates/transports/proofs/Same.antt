-- The same command by mailbox and by message: the claim stands in specs/Same.antt.
use Rattle.std.proofs.Common.{◌≡◌, refl, sym, ap, subst, ◌∙◌, true, false, cond, List, [], ◌∷◌, ◌++◌, Option, None, Some, ⊎_elim, ℕ, ◌+◌, ◌<◌, arith, eqb, length, eqb-true, eq-eqb, ne_eqb}
use borrow.Author.Tests.{eqb-false}
use Rattle.units.proofs.Cases.{decided}
use Rattle.session.specs.Machine.{Setup, Machine}
use Rattle.registers.specs.Registers.{command_of, sequence_of}
use Rattle.registers.proofs.Fields.{elements, elements_of}
use Rattle.messages.specs.Parameters.{Parameter, y, q, u, Row, table, row_of, bytes_in}
use Rattle.messages.specs.Lengths.{told}
use Rattle.messages.specs.Messages.{Command, registers_of, headed, packed_from, values_of, status_of, completion_of, response_of}
use Rattle.messages.proofs.Rows.{◌&◌, each_row, packed_long}
use Rattle.mailbox.specs.Commands.{Outcome}
use Rattle.mailbox.specs.Mediator.{mediate}
use Rattle.ipmi.specs.Served.{Served, mediated}
use Rattle.ipmi.proofs.Serving.{served_as_lem}
use Rattle.transports.specs.Same.{message_of, completion_in, status_told, answers, Equal, Equals, Same, SameByMessage}
use Rattle.transports.proofs.Looking.{Seen, seen}
use Rattle.transports.proofs.Sent.{message_taken, message_alike}
use Rattle.transports.proofs.Statuses.{response_few}
use Rattle.ipmi.proofs.Told.{mediate_answers, answers_long}
use Rattle.transports.proofs.Whole.{Whole, success_whole}

-- ---- a response has nothing of registers 14 and 15
values_front : (o : Option Row) (registers : List ℕ) → length registers ≡ 16 → values_of o registers ≡ values_of o (elements 14 0 registers)
values_front None registers l = refl
values_front (Some r) registers l =
    subst (λ (t : List ℕ). packed_from r.response t ≡ packed_from r.response (elements 14 0 registers)) (elements_of 16 registers l) refl

response_front : (version : ℕ) (message registers : List ℕ) → length registers ≡ 16
    → response_of version message registers ≡ response_of version message (elements 14 0 registers)
unfolding response_of
response_front version message registers l =
    ap
    (λ (t : List ℕ). cond (eqb (status_of registers) 1)
    (headed message 0x00 ++ (command_of registers ∷ sequence_of registers ∷ t))
    (headed message (completion_of (status_of registers))))
    (values_front (row_of (command_of registers) version) registers l)

-- so what is served is the same where the mediator leaves the same
abbrev serves : List ℕ → Seen → Served
serves message w = record { machine = w.machine; response = response_of w.machine.session.version message w.front; actions = w.actions }

serves_seen : (message : List ℕ) (o : Outcome) → length o.registers ≡ 16 → mediated message o ≡ serves message (seen o)
serves_seen message o l =
    ap (λ (t : List ℕ). record { machine = o.machine; response = t; actions = o.actions })
    (response_front o.machine.session.version message o.registers l)

-- ---- the values of a response, behind two bytes and the completion code
module _ (a b : ℕ) (registers : List ℕ) (l : length registers ≡ 16) where
  abbrev Stands : List Parameter → List ℕ → Type 0
  Stands ps t = Equal ps (a ∷ b ∷ 0x00 ∷ command_of t ∷ sequence_of t ∷ packed_from ps t) t

  laid_q : Stands (q 0 0 ∷ []) registers
  laid_q = subst (Stands (q 0 0 ∷ [])) (elements_of 16 registers l) (refl, tt)

  laid_qq : Stands (q 0 0 ∷ q 2 2 ∷ []) registers
  laid_qq = subst (Stands (q 0 0 ∷ q 2 2 ∷ [])) (elements_of 16 registers l) (refl, (refl, tt))

  laid_uu : Stands (u 0 0 ∷ u 4 4 ∷ []) registers
  laid_uu = subst (Stands (u 0 0 ∷ u 4 4 ∷ [])) (elements_of 16 registers l) (refl, (refl, tt))

  laid_qqq : Stands (q 0 0 ∷ q 2 2 ∷ q 4 4 ∷ []) registers
  laid_qqq = subst (Stands (q 0 0 ∷ q 2 2 ∷ q 4 4 ∷ [])) (elements_of 16 registers l) (refl, (refl, (refl, tt)))

  laid_info1 : Stands (y 0 0 ∷ q 1 1 ∷ q 3 3 ∷ []) registers
  laid_info1 = subst (Stands (y 0 0 ∷ q 1 1 ∷ q 3 3 ∷ [])) (elements_of 16 registers l) (refl, (refl, (refl, tt)))

  laid_info2 : Stands (y 0 0 ∷ y 5 1 ∷ q 6 2 ∷ []) registers
  laid_info2 = subst (Stands (y 0 0 ∷ y 5 1 ∷ q 6 2 ∷ [])) (elements_of 16 registers l) (refl, (refl, (refl, tt)))

  laid_all : (command version : ℕ) → Stands (answers (row_of command version)) registers
  unfolding table
  laid_all =
      each_row (λ (command : ℕ) (version : ℕ) (o : Option Row). Stands (answers o) registers)
      (tt & tt & tt & tt & laid_info1 & laid_info2 & laid_uu & laid_qq & laid_q & laid_qqq & tt & tt & laid_q & laid_qqq & tt & tt & tt & tt & tt
      & tt & tt & tt & tt)
      (λ _ _. tt)

-- those of a row, or none
values_as : (o : Option Row) (registers : List ℕ) → values_of o registers ≡ packed_from (answers o) registers
values_as None registers = refl
values_as (Some r) registers = refl

told_as : (o : Option Row) → told o ≡ bytes_in (answers o)
told_as None = refl
told_as (Some r) = refl

-- ---- the completion code
completion_as : (s : ℕ) → s < 128 → completion_of s ≡ 0x80 + s
completion_as s h = omega arith

status_told_lem : (s : ℕ) → s ≡ status_told (0x80 + s)
status_told_lem s = rw (ne_eqb (0x80 + s) 0 (λ e. omega arith)) (omega arith)

-- ---- what is served of an outcome, beside it
module _ (message : List ℕ) (o : Outcome) (long : length o.registers ≡ 16) (few : status_of o.registers < 128)
    (whole : status_of o.registers ≡ 1 → Whole (command_of o.registers) o) where
  abbrev status : ℕ
  status = status_of o.registers

  abbrev row : Option Row
  row = row_of (command_of o.registers) o.machine.session.version

  abbrev response : List ℕ
  response = response_of o.machine.session.version message o.registers

  -- the response of a success
  abbrev full : List ℕ
  full = headed message 0x00 ++ (command_of o.registers ∷ sequence_of o.registers ∷ packed_from (answers row) o.registers)

  full_response : status ≡ 1 → full ≡ response
  unfolding response_of
  full_response e =
      rw (eq-eqb status 1 e)
      (ap (λ (t : List ℕ). headed message 0x00 ++ (command_of o.registers ∷ sequence_of o.registers ∷ t)) (sym (values_as row o.registers)))

  full_equals : status ≡ 1 → Equals (answers row) full o.registers
  full_equals e =
      let values = ap (λ (t : List ℕ). length t) (sym (values_as row o.registers))
      ∙ packed_long (command_of o.registers) o.machine.session.version o.registers long ∙ told_as row in
      record {
        completion = refl;
        long = omega (arith, values);
        command = refl;
        sequence = refl;
        values = laid_all _ _ o.registers long (command_of o.registers) o.machine.session.version;
        whole = whole e;
      }

  -- that of a refusal
  short_response : (status ≡ 1 → ⊥) → response ≡ headed message (0x80 + status)
  unfolding response_of
  short_response n = rw (ne_eqb status 1 n) (ap (headed message) (completion_as status few))

  status_same : status ≡ status_told (completion_in response)
  status_same =
      ⊎_elim
      (λ (e : eqb status 1 ≡ true).
      let s = eqb-true status 1 e in
      s ∙ ap (λ (t : List ℕ). status_told (completion_in t)) (full_response s))
      (λ (e : eqb status 1 ≡ false).
      status_told_lem status ∙ ap (λ (t : List ℕ). status_told (completion_in t)) (sym (short_response (eqb-false status 1 e))))
      (decided (eqb status 1))

  same_mediated : Same message o (mediated message o)
  same_mediated =
      record {
        machine = refl;
        actions = refl;
        status = status_same;
        success = λ e. subst (λ (t : List ℕ). Equals (answers row) t o.registers) (full_response e) (full_equals e);
        refused = short_response;
      }

-- the mediator's outcomes are such
mediate_same : (setup : Setup) (message registers : List ℕ) (m : Machine)
    → Same message (mediate setup registers m) (mediated message (mediate setup registers m))
mediate_same setup message registers m =
    let a = mediate_answers setup registers m in
    same_mediated message (mediate setup registers m) (answers_long registers (mediate setup registers m) a)
    (let few = response_few setup registers m in omega arith)
    (λ e. subst (λ (c : ℕ). Whole c (mediate setup registers m)) (sym (ap command_of a.are)) (success_whole setup registers m e))

pub same_by_message : SameByMessage
same_by_message setup pair lun registers m h l =
    let message = message_of pair lun m.session.version registers in
    let other = registers_of m.session.version message in
    let one-long = answers_long registers (mediate setup registers m) (mediate_answers setup registers m) in
    let other-long = answers_long other (mediate setup other m) (mediate_answers setup other m) in
    let path =
    serves_seen message (mediate setup registers m) one-long
    ∙ ap (serves message) (message_alike setup pair lun registers m l)
    ∙ sym (serves_seen message (mediate setup other m) other-long)
    ∙ served_as_lem setup pair message m Command (sym (message_taken pair lun m.session.version registers h l)) in
    subst (Same message (mediate setup registers m)) path (mediate_same setup message registers m)
