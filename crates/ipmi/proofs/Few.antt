-- A response has 16 bytes at most: the claim stands in specs/Served.antt.
use mathlib.Core.Path.{◌≡◌, refl}
use mathlib.Core.Bool.{true}
use mathlib.Core.List.{List, ◌∷◌, ◌++◌}
use Prim.Native.Nat.{ℕ, ◌≤◌}
use native.Mathlib.Omega.{arith}
use lib.Dec.{eqb, leb}
use lib.ListN.{length}
use borrow.Author.Tests.{leb-true}
use Rattle.std.specs.Prelude.{Option, Err}
use Rattle.units.proofs.Cases.{chosen}
use Rattle.registers.specs.Registers.{command_of, sequence_of}
use Rattle.messages.specs.declared.Refusal.TheVariants.{Short, Foreign, Malformed}
use Rattle.messages.specs.Lengths.{told}
use Rattle.messages.specs.Messages.{Taken, Command, taken_as, registers_of, headed, completion_of, values_of, status_of, response_of}
use Rattle.messages.specs.Parameters.{Row, table, row_of}
use Rattle.messages.proofs.Rows.{◌&◌, each_row, packed_long}
use Rattle.mailbox.specs.Mediator.{mediate}
use Rattle.ipmi.specs.Served.{served_as, served, FewBytes}
use Rattle.ipmi.proofs.Told.{mediate_answers, answers_long}

-- the parameters of a row have 11 at most
few_told : (code version : ℕ) → leb (told (row_of code version)) 11 ≡ true
unfolding table
few_told =
    each_row (λ (code : ℕ) (version : ℕ) (o : Option Row). leb (told o) 11 ≡ true)
    (refl & refl & refl & refl & refl & refl & refl & refl & refl & refl & refl & refl & refl & refl & refl & refl & refl & refl & refl & refl
    & refl & refl & tt)
    (λ _ _. refl)

few_responded : (version : ℕ) (message registers : List ℕ) → length registers ≡ 16 → length (response_of version message registers) ≤ 16
unfolding response_of
few_responded version message registers l =
    let code = command_of registers in
    chosen (λ (t : List ℕ). length t ≤ 16) (eqb (status_of registers) 1)
    (headed message 0x00 ++ (code ∷ sequence_of registers ∷ values_of (row_of code version) registers))
    (headed message (completion_of (status_of registers)))
    (λ _. omega (arith, packed_long code version registers l, leb-true (told (row_of code version)) 11 (few_told code version)))
    (λ _. omega arith)

-- whatever becomes of the message
pub few_bytes : FewBytes
unfolding served
few_bytes setup pair message m = by (taken_as pair m.session.version message)
  where
    by : (t : Taken) → length (served_as t setup message m).response ≤ 16
    by (Err Short) = omega arith
    by (Err Foreign) = omega arith
    by (Err Malformed) = omega arith
    by Command =
        let registers = registers_of m.session.version message in
        let o = mediate setup registers m in
        few_responded o.machine.session.version message o.registers (answers_long registers o (mediate_answers setup registers m))
