-- What a message gets is what the ticket says: the claim stands in specs/Answered.antt.
use Rattle.std.proofs.Common.{◌≡◌, refl, sym, ap, subst, ◌∙◌, Bool, true, false, not, ◌&&◌, List, [], ◌∷◌, ◌++◌, ⊎_elim, ℕ, zero, suc, ◌+◌, ◌-◌, ◌/◌, ◌≤◌, ◌<◌, arith, eqb, leb, length, get_or, drop, length-drop, lt-ltb, le-ltb, eq-eqb, ne_eqb, eqb-true, le-leb, Option, Err}
use mathlib.Core.Bool.{and-false}
use borrow.Author.Tests.{lt-leb}
use Rattle.units.proofs.Cases.{below_or, chosen, both}
use Rattle.session.specs.Machine.{Setup, Machine}
use Rattle.registers.specs.Registers.{command_of, sequence_of}
use Rattle.registers.proofs.Fields.{elements, elements_of}
use Rattle.messages.specs.declared.Pair.{Pair}
use Rattle.messages.specs.declared.Refusal.TheVariants.{Short, Foreign, Malformed}
use Rattle.messages.specs.Messages.{Command, is_own, wrong_length, taken_as, registers_of, headed, status_of, completion_of, values_of, response_of}
use Rattle.messages.specs.Parameters.{Row, table, row_of, is_row}
use Rattle.messages.proofs.Rows.{◌&◌, each_row, unpacked_as}
use Rattle.mailbox.specs.Commands.{Outcome}
use Rattle.mailbox.specs.Mediator.{mediate}
use Rattle.ipmi.specs.Served.{Served, untouched, mediated}
use Rattle.ipmi.proofs.Serving.{served_as_lem}
use Rattle.ipmi.proofs.Told.{mediate_answers, answers_long}
use Rattle.transports.specs.Answered.{parameter_bytes, said, known_at, Own, Heads, Refused, as_mailbox, Mediated, AnsweredAsSaid}
use Rattle.transports.proofs.Known.{by_code, none_of_them, known_as_said}
use Rattle.transports.proofs.Statuses.{response_few}

-- ---- the head of a response: what is said of byte 0 is arithmetic
headed_heads : (message rest : List ℕ) (completion : ℕ) → Heads message (headed message completion ++ rest)
headed_heads message rest completion = record { function = omega arith; odd = omega arith; lun = omega arith; command = refl }

-- every response that the mediator's registers give begins so
response_heads : (version : ℕ) (message registers : List ℕ) → Heads message (response_of version message registers)
unfolding response_of
response_heads version message registers =
    let code = command_of registers in
    let status = status_of registers in
    let rest = code ∷ sequence_of registers ∷ values_of (row_of code version) registers in
    chosen (Heads message) (eqb status 1) (headed message 0x00 ++ rest) (headed message (completion_of status))
    (λ _. headed_heads message rest 0x00) (λ _. headed_heads message [] (completion_of status))

-- ---- the parameters of a response

-- those of a command, at each of the three versions
abbrev Tells : List ℕ → ℕ → Type 0
Tells registers code =
    (values_of (row_of code 0) registers ≡ said 0 code registers)
    × (values_of (row_of code 1) registers ≡ said 1 code registers)
    × (values_of (row_of code 2) registers ≡ said 2 code registers)

-- a code past the table
past_table : (registers : List ℕ) (code : ℕ) → 11 ≤ code → Tells registers code
unfolding row_of table
past_table registers code past = (
  rw (off 1 refl, off 2 refl, off 9 refl),
  rw (off 1 refl, off 2 refl, off 3 refl, off 4 refl, off 5 refl, off 6 refl, off 7 refl, off 8 refl, off 9 refl),
  rw (off 1 refl, off 2 refl, off 3 refl, off 4 refl, off 5 refl, off 6 refl, off 7 refl, off 8 refl, off 9 refl, off 10 refl),
)
  where
    off : (k : ℕ) → leb k 10 ≡ true → eqb code k ≡ false
    off = none_of_them code past

each_code : (registers : List ℕ) (code : ℕ) → Tells (elements 16 0 registers) code
unfolding row_of table
each_code registers =
    by_code (Tells (elements 16 0 registers)) (refl, refl, refl) (refl, refl, refl) (refl, refl, refl) (refl, refl, refl) (refl, refl, refl)
    (refl, refl, refl) (refl, refl, refl) (refl, refl, refl) (refl, refl, refl) (refl, refl, refl) (refl, refl, refl)
    (past_table (elements 16 0 registers))

-- a version above 2 has none
from_three : (registers : List ℕ) (code version : ℕ) → 3 ≤ version → values_of (row_of code version) registers ≡ said version code registers
unfolding row_of table
from_three registers code version h =
    rw (ne_eqb version 0 (λ e. omega arith), ne_eqb version 1 (λ e. omega arith), ne_eqb version 2 (λ e. omega arith), and-false (eqb code 2))

values_said : (registers : List ℕ) → length registers ≡ 16 → (code version : ℕ) → values_of (row_of code version) registers ≡ said version code registers
values_said registers long code version = by version
  where
    tells : Tells registers code
    tells = subst (λ (t : List ℕ). Tells t code) (elements_of 16 registers long) (each_code registers code)

    by : (version : ℕ) → values_of (row_of code version) registers ≡ said version code registers
    by zero = tells.0
    by (suc zero) = tells.1
    by (suc (suc zero)) = tells.2
    by (suc (suc (suc v))) = from_three registers code (suc (suc (suc v))) (omega arith)

-- ---- a wrong length

-- the commands that the table has rows of
known_at_lem : (code version : ℕ) → is_row (row_of code version) ≡ known_at version code
known_at_lem code version =
    ⊎_elim
    (λ few. (known_as_said code version).0 (omega arith) ∙ sym (rw (le-leb version 2 (omega arith))))
    (λ many. (known_as_said code version).1 (omega arith) ∙ sym (rw (lt-leb version 2 (omega arith)))) (below_or version 3)

-- and the bytes that they ask for
wrong_row : (count code version : ℕ) → wrong_length (row_of code version) count ≡ (is_row (row_of code version) && not (eqb count (parameter_bytes version code)))
unfolding table
wrong_row count =
    each_row
    (λ (code : ℕ) (version : ℕ) (o : Option Row). wrong_length o count ≡ (is_row o && not (eqb count (parameter_bytes version code))))
    (refl & refl & refl & refl & refl & refl & refl & refl & refl & refl & refl & refl & refl & refl & refl & refl & refl & refl & refl & refl
    & refl & refl & tt)
    (λ _ _. refl)

wrong_at : (count code version : ℕ) → wrong_length (row_of code version) count ≡ (known_at version code && not (eqb count (parameter_bytes version code)))
wrong_at count code version =
    wrong_row count code version ∙ ap (λ (t : Bool). t && not (eqb count (parameter_bytes version code))) (known_at_lem code version)

is_wrong : (count code version : ℕ) → known_at version code ≡ true → (count ≡ parameter_bytes version code → ⊥) → wrong_length (row_of code version) count ≡ true
is_wrong count code version known other = wrong_at count code version ∙ rw (known, ne_eqb count (parameter_bytes version code) other)

is_right : (count code version : ℕ) → (known_at version code ≡ true → count ≡ parameter_bytes version code) → wrong_length (row_of code version) count ≡ false
is_right count code version right = wrong_at count code version ∙ by (known_at version code) refl
  where
    by : (t : Bool) → known_at version code ≡ t → (t && not (eqb count (parameter_bytes version code))) ≡ false
    by true known = rw (eq-eqb count (parameter_bytes version code) (right known))
    by false known = refl

-- ---- what becomes of a message

module _ (pair : Pair) (version : ℕ) (message : List ℕ) where
  own : Own pair message → is_own pair message ≡ true
  own o = rw (eq-eqb (get_or message 0 0 / 4) pair.netfn o.0, eq-eqb (get_or message 1 0) pair.command o.1)

  not_own : (Own pair message → ⊥) → is_own pair message ≡ false
  not_own other = by (is_own pair message) refl
    where
      by : (t : Bool) → is_own pair message ≡ t → t ≡ false
      by true e =
          let h = both (eqb (get_or message 0 0 / 4) pair.netfn) (eqb (get_or message 1 0) pair.command) e in
          absurd (other (eqb-true (get_or message 0 0 / 4) pair.netfn h.0, eqb-true (get_or message 1 0) pair.command h.1))
      by false e = refl

  short : length message < 2 → Err Short ≡ taken_as pair version message
  unfolding taken_as
  short h = rw (lt-ltb (length message) 2 h)

  foreign : 2 ≤ length message → (Own pair message → ⊥) → Err Foreign ≡ taken_as pair version message
  unfolding taken_as
  foreign h other = rw (le-ltb (length message) 2 h, not_own other)

  under_four : 2 ≤ length message → Own pair message → length message < 4 → Err Malformed ≡ taken_as pair version message
  unfolding taken_as
  under_four h o few = rw (le-ltb (length message) 2 h, own o, lt-ltb (length message) 4 few)

  wrong : 4 ≤ length message → Own pair message → wrong_length (row_of (get_or message 2 0) version) (length message - 4) ≡ true
      → Err Malformed ≡ taken_as pair version message
  unfolding taken_as
  wrong h o w = rw (le-ltb (length message) 2 (omega arith), own o, le-ltb (length message) 4 h, w)

  right : 4 ≤ length message → Own pair message → wrong_length (row_of (get_or message 2 0) version) (length message - 4) ≡ false
      → Command ≡ taken_as pair version message
  unfolding taken_as
  right h o w = rw (le-ltb (length message) 2 (omega arith), own o, le-ltb (length message) 4 h, w)

-- ---- what it leaves

refused_as : (completion : ℕ) (message : List ℕ) (m : Machine) (s : Served) → untouched (headed message completion) m ≡ s
    → Refused completion message m s
refused_as completion message m s e =
    subst (λ (s : Served). Refused completion message m s) e
    record { machine = refl; actions = refl; heads = headed_heads message [] completion; three = refl; completion = refl }

-- of an outcome whose registers begin with the message's command and number
module _ (message : List ℕ) (o : Outcome) (long : length o.registers ≡ 16) (few : status_of o.registers ≤ 8)
    (command : command_of o.registers ≡ get_or message 2 0) (number : sequence_of o.registers ≡ get_or message 3 0) where
  abbrev version : ℕ
  version = o.machine.session.version

  abbrev values : List ℕ
  values = said version (get_or message 2 0) o.registers

  abbrev response : List ℕ
  response = response_of version message o.registers

  full_response : status_of o.registers ≡ 1 → headed message 0x00 ++ (get_or message 2 0 ∷ get_or message 3 0 ∷ values) ≡ response
  unfolding response_of
  full_response e =
      rw (eq-eqb (status_of o.registers) 1 e, command, number)
      (ap (λ (t : List ℕ). headed message 0x00 ++ (get_or message 2 0 ∷ get_or message 3 0 ∷ t))
      (sym (values_said o.registers long (get_or message 2 0) version)))

  short_response : (status_of o.registers ≡ 1 → ⊥) → headed message (0x80 + status_of o.registers) ≡ response
  unfolding response_of
  short_response n = rw (ne_eqb (status_of o.registers) 1 n) (ap (headed message) (omega arith))

  outcome_mediated : Mediated message o (mediated message o)
  outcome_mediated =
      record {
        machine = refl;
        actions = refl;
        heads = response_heads version message o.registers;
        success = λ e.
            subst
            (λ (t : List ℕ). (get_or t 2 0 ≡ 0x00) × (get_or t 3 0 ≡ get_or message 2 0) × (get_or t 4 0 ≡ get_or message 3 0) × (drop 5 t ≡ values) × (5 ≤ length t))
            (full_response e) (refl, refl, refl, refl, omega arith);
        refused = λ n.
            subst (λ (t : List ℕ). (length t ≡ 3) × (get_or t 2 0 ≡ 0x80 + status_of o.registers)) (short_response n) (refl, refl);
      }

-- the mediator's outcomes are such
mediated_as : (setup : Setup) (message : List ℕ) (m : Machine) (s : Served) (registers : List ℕ) → as_mailbox message ≡ registers
    → mediated message (mediate setup registers m) ≡ s → Mediated message (mediate setup (as_mailbox message) m) s
mediated_as setup message m s registers r e =
    let o = mediate setup (as_mailbox message) m in
    let a = mediate_answers setup (as_mailbox message) m in
    subst (λ (s : Served). Mediated message o s) (ap (λ (t : List ℕ). mediated message (mediate setup t m)) r ∙ e)
    (outcome_mediated message o (answers_long (as_mailbox message) o a) (response_few setup (as_mailbox message) m) (ap command_of a.are)
    (ap sequence_of a.are))

-- the arguments are the parameter bytes
registers_as : (version : ℕ) (message : List ℕ) → wrong_length (row_of (get_or message 2 0) version) (length message - 4) ≡ false
    → as_mailbox message ≡ registers_of version message
registers_as version message w =
    let code = get_or message 2 0 in
    ap (λ (t : List ℕ). code ∷ get_or message 3 0 ∷ (t ++ (0 ∷ 0 ∷ 0 ∷ [])))
    (sym (unpacked_as code version (drop 4 message) (subst (λ (k : ℕ). wrong_length (row_of code version) k ≡ false) (sym (length-drop 4 message)) w)))

pub answered_as_said : AnsweredAsSaid
answered_as_said setup pair message m =
    let version = m.session.version in
    let code = get_or message 2 0 in (
      (λ h. sym (served_as_lem setup pair message m (Err Short) (short pair version message (omega arith)))),
      (λ h other. refused_as 0xc1 message m _ (served_as_lem setup pair message m (Err Foreign) (foreign pair version message (omega arith) other))),
      (λ h o few. refused_as 0xc7 message m _ (served_as_lem setup pair message m (Err Malformed) (under_four pair version message (omega arith) o (omega arith)))),
      (λ h o known other.
          let w = is_wrong (length message - 4) code version known (λ e. other (omega arith)) in
          refused_as 0xc7 message m _ (served_as_lem setup pair message m (Err Malformed) (wrong pair version message (omega arith) o w))),
      (λ h o long.
          let w = is_right (length message - 4) code version (λ known. let e = long known in omega arith) in
          mediated_as setup message m _ _ (registers_as version message w)
          (served_as_lem setup pair message m Command (right pair version message (omega arith) o w))),
    )
