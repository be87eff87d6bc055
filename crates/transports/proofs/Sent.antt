-- The message made of a mailbox command is taken, and the mediator leaves of its registers what it leaves of the command's.
use Rattle.std.proofs.Common.{◌≡◌, refl, sym, subst, ◌∙◌, true, false, List, [], ◌∷◌, ◌++◌, ℕ, suc, ◌+◌, ◌-◌, ◌*◌, ◌/◌, ◌<◌, arith, ltb, length, eq-eqb, le-ltb, Option}
use Rattle.std.proofs.lemmas.Bool.{and_from, or_from}
use mathlib.Core.Bool.{false≢true}
use Rattle.session.specs.Machine.{Setup, Machine}
use Rattle.registers.specs.Registers.{command_of, sequence_of}
use Rattle.registers.proofs.Fields.{elements, elements_of}
use Rattle.messages.specs.declared.Pair.{Pair}
use Rattle.messages.specs.Parameters.{Row, table, row_of}
use Rattle.messages.specs.Messages.{Taken, Command, is_own, wrong_length, taken_as, arguments_of, registers_of}
use Rattle.messages.proofs.Passing.{each_taken}
use Rattle.messages.proofs.Rows.{◌&◌, each_row}
use Rattle.mailbox.specs.Mediator.{mediate}
use Rattle.transports.specs.Same.{given_by, message_of}
use Rattle.transports.proofs.Looking.{seen, each_alike}

-- ---- it has as many bytes as the row asks for
right_length : (command version : ℕ) (registers : List ℕ) → length registers ≡ 16
    → wrong_length (row_of command version) (length (given_by (row_of command version) registers)) ≡ false
unfolding table
right_length command version registers l =
    subst (λ (t : List ℕ). wrong_length (row_of command version) (length (given_by (row_of command version) t)) ≡ false) (elements_of 16 registers l)
    (written command version)
  where
    written : (command version : ℕ) → wrong_length (row_of command version) (length (given_by (row_of command version) (elements 16 0 registers))) ≡ false
    written =
        each_row (λ (command : ℕ) (version : ℕ) (o : Option Row). wrong_length o (length (given_by o (elements 16 0 registers))) ≡ false)
        (refl & refl & refl & refl & refl & refl & refl & refl & refl & refl & refl & refl & refl & refl & refl & refl & refl & refl & refl & refl
        & refl & refl & tt)
        (λ _ _. refl)

-- ---- it is for the board's pair, with any LUN
function_of : (netfn lun : ℕ) → lun < 4 → (netfn * 4 + lun) / 4 ≡ netfn
function_of netfn lun h = omega arith

own : (pair : Pair) (lun version : ℕ) (registers : List ℕ) → lun < 4 → is_own pair (message_of pair lun version registers) ≡ true
own pair lun version registers h =
    and_from _ _ (eq-eqb ((pair.netfn * 4 + lun) / 4) pair.netfn (function_of pair.netfn lun h)) (eq-eqb pair.command pair.command refl)

-- ---- so it is taken: it has four bytes before its parameters
behind_four : (n : ℕ)
    → (ltb (suc (suc (suc (suc n)))) 2 ≡ false)
    × (ltb (suc (suc (suc (suc n)))) 4 ≡ false)
    × (n ≡ suc (suc (suc (suc n))) - 4)
behind_four n = (le-ltb (suc (suc (suc (suc n)))) 2 (omega arith), le-ltb (suc (suc (suc (suc n)))) 4 (omega arith), omega arith)

pub message_taken : (pair : Pair) (lun version : ℕ) (registers : List ℕ) → lun < 4 → length registers ≡ 16
    → taken_as pair version (message_of pair lun version registers) ≡ Command
message_taken pair lun version registers h l =
    let message = message_of pair lun version registers in
    let o = row_of (command_of registers) version in
    let long = behind_four (length (given_by o registers)) in
    let right = subst (λ (k : ℕ). wrong_length o k ≡ false) long.2 (right_length (command_of registers) version registers l) in
    each_taken (λ (t : Taken). t ≡ Command) pair version message
    (λ e. absurd (false≢true (sym long.0 ∙ e)))
    (λ _ e. absurd (false≢true (sym e ∙ own pair lun version registers h)))
    (λ _ _ e. absurd (false≢true (sym (or_from _ _ long.1 right) ∙ e)))
    (λ _. refl)

-- ---- what the mediator leaves
pub message_alike : (setup : Setup) (pair : Pair) (lun : ℕ) (registers : List ℕ) (m : Machine) → length registers ≡ 16
    → seen (mediate setup registers m)
    ≡ seen (mediate setup (registers_of m.session.version (message_of pair lun m.session.version registers)) m)
message_alike setup pair lun registers m l =
    let o = row_of (command_of registers) m.session.version in
    subst
    (λ (t : List ℕ). seen (mediate setup t m)
    ≡ seen (mediate setup (command_of registers ∷ sequence_of registers ∷ (arguments_of o (given_by o t) ++ (0 ∷ 0 ∷ 0 ∷ []))) m))
    (elements_of 16 registers l) (each_alike (command_of registers) m.session.version setup registers m.session m.flash m.worn m.memory)
