-- A message through the KCS port: the claims stand in specs/Kcs.antt.
use Rattle.std.proofs.Common.{◌≡◌, refl, ap, subst, ◌∙◌, true, List, [], ◌∷◌, ◌++◌, ℕ, ◌≤◌, arith, eqb, leb, length, leb-true, ltb-true, Option}
use Rattle.units.proofs.Cases.{chosen}
use Rattle.session.specs.Machine.{Setup, Machine}
use Rattle.registers.specs.Registers.{command_of, sequence_of}
use Rattle.registers.proofs.Fields.{elements, elements_of}
use Rattle.kcshost.specs.Host.{begin, read_transfer}
use Rattle.kcshost.proofs.Reading.{published_exchange}
use Rattle.kcshost.proofs.Waiting.{read_goes_on}
use Rattle.messages.specs.declared.Pair.{Pair}
use Rattle.messages.specs.Messages.{Taken, headed, completion_of, values_of, status_of, taken_as, registers_of, response_of}
use Rattle.messages.specs.Parameters.{Row, table, row_of}
use Rattle.messages.proofs.Passing.{each_taken}
use Rattle.messages.proofs.Rows.{◌&◌, each_row}
use Rattle.mailbox.specs.Mediator.{mediate}
use Rattle.mailbox.specs.Runs.{called_all}
use Rattle.ipmi.specs.Served.{Served, served_as, served}
use Rattle.ipmi.proofs.Few.{few_bytes}
use Rattle.ipmi.proofs.Serving.{served_as_lem}
use Rattle.transports.specs.Same.{given_by, message_of}
use Rattle.transports.specs.Kcs.{written, answered_to, exchanged_all, send_all, SameAnswers, MessageByKcs, AnswerGoesOn, KcsAsMailbox}
use Rattle.transports.proofs.Same.{same_by_message}

-- ---- a response has one byte at least, if the message has two
some_responded : (version : ℕ) (message registers : List ℕ) → 1 ≤ length (response_of version message registers)
unfolding response_of
some_responded version message registers =
    let code = command_of registers in
    chosen (λ (t : List ℕ). 1 ≤ length t) (eqb (status_of registers) 1)
    (headed message 0x00 ++ (code ∷ sequence_of registers ∷ values_of (row_of code version) registers))
    (headed message (completion_of (status_of registers))) (λ _. omega arith) (λ _. omega arith)

some_served : (setup : Setup) (pair : Pair) (message : List ℕ) (m : Machine) → 2 ≤ length message → 1 ≤ length (served setup pair message m).response
some_served setup pair message m h =
    let version = m.session.version in
    subst (λ (s : Served). 1 ≤ length s.response) (served_as_lem setup pair message m (taken_as pair version message) refl)
    (each_taken (λ (t : Taken). 1 ≤ length (served_as t setup message m).response) pair version message
    (λ e. let short = ltb-true (length message) 2 e in omega arith) (λ _ _. omega arith) (λ _ _ _. omega arith)
    (λ _.
    let o = mediate setup (registers_of version message) m in
    some_responded o.machine.session.version message o.registers))

-- ---- one message
pub message_by_kcs : MessageByKcs
message_by_kcs setup pair message m turns p some few h =
    let short = few_bytes setup pair message m in
    published_exchange message (served setup pair message m).response turns p some few (omega arith) (omega arith)

pub answer_goes_on : AnswerGoesOn
answer_goes_on setup pair message m turns p two few =
    let short = few_bytes setup pair message m in
    let wrote = (message_by_kcs setup pair message m 17 p (omega arith) few (omega arith)).0 in
    read_goes_on (served setup pair message m).response turns (written message p) wrote.phase (some_served setup pair message m two) (omega arith)

-- ---- a list of commands

-- the message of a command has 4 to 15 bytes
few_given : (code version : ℕ) (registers : List ℕ) → length registers ≡ 16 → length (given_by (row_of code version) registers) ≤ 11
unfolding table
few_given code version registers l =
    leb-true (length (given_by (row_of code version) registers)) 11
    (subst (λ (t : List ℕ). leb (length (given_by (row_of code version) t)) 11 ≡ true) (elements_of 16 registers l) (explicit code version))
  where
    explicit : (code version : ℕ) → leb (length (given_by (row_of code version) (elements 16 0 registers))) 11 ≡ true
    explicit =
        each_row (λ (code : ℕ) (version : ℕ) (o : Option Row). leb (length (given_by o (elements 16 0 registers))) 11 ≡ true)
        (refl & refl & refl & refl & refl & refl & refl & refl & refl & refl & refl & refl & refl & refl & refl & refl & refl & refl & refl & refl
        & refl & refl & tt)
        (λ _ _. refl)

pub kcs_as_mailbox : KcsAsMailbox
kcs_as_mailbox setup pair lun turns [] p m l h a = (refl, tt)
kcs_as_mailbox setup pair lun turns (registers ∷ rest) p m l h a =
    let message = message_of pair lun m.session.version registers in
    let few = few_given (command_of registers) m.session.version registers a.0 in
    let same = same_by_message setup pair lun registers m l a.0 in
    let got = (message_by_kcs setup pair message m turns p (omega arith) (omega arith) h).1.got in
    let read = read_transfer turns (begin (answered_to setup pair message m p)) in
    let line = exchanged_all setup pair lun turns rest read.port (served setup pair message m).machine in
    let after = kcs_as_mailbox setup pair lun turns rest read.port (served setup pair message m).machine l h a.1 in (
      after.0 ∙ ap (λ (k : Machine). called_all setup (send_all rest) k) same.machine,
      (
        got,
        same,
        subst (λ (k : Machine). SameAnswers setup pair lun rest line.got k) same.machine after.1,
      ),
    )
