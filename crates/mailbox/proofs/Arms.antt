-- The rows of the table that an arm of the decision is, as equations that the check uses at that arm.
use Rattle.std.proofs.Common.{◌∷◌, [], cond, eqb, inl, inr, ◌≡◌, ◌≤◌, ℕ, List, get_or, sym, ap, ◌∙◌, arith}
use types.Run.{OneOf}
use Rattle.session.specs.declared.Window.{Window}
use Rattle.mailbox.specs.Table.{Command, create, erase, unknown}
use Rattle.session.specs.declared.Window.TheVariants.{Read, Write}
use Rattle.registers.specs.Registers.{command_of}
use Rattle.mailbox.specs.declared.call.Call.{Call}
use Rattle.mailbox.specs.Mediator.{command_at, command_in}
use Rattle.mailbox.specs.Calls.{obeyed_by}
use Rattle.mailbox.proofs.Mediating.{past_table}

module _ (call : Call) (flash worn memory : List ℕ) where
  -- the row of a code is what the registers hold
  pub at_row : (n : ℕ) → get_or call.registers 0 0 ≡ n → obeyed_by (command_at n) call flash worn memory ≡ obeyed_by (command_in call.registers) call flash worn memory
  at_row n e = ap (λ (k : ℕ). obeyed_by (command_at k) call flash worn memory) (sym e)

  -- codes 4 and 6
  pub read_row : get_or call.registers 0 0 ≡ 4
      → obeyed_by (create (command_of call.registers) Read) call flash worn memory ≡ obeyed_by (command_in call.registers) call flash worn memory
  unfolding command_at
  read_row e = ap (λ (k : ℕ). obeyed_by (create k Read) call flash worn memory) e ∙ at_row 4 e

  pub write_row : get_or call.registers 0 0 ≡ 6
      → obeyed_by (create (command_of call.registers) Write) call flash worn memory ≡ obeyed_by (command_in call.registers) call flash worn memory
  unfolding command_at
  write_row e = ap (λ (k : ℕ). obeyed_by (create k Write) call flash worn memory) e ∙ at_row 6 e

  pub create_row : (w : Window) → OneOf (4 ∷ 6 ∷ []) (get_or call.registers 0 0) → w ≡ cond (eqb (get_or call.registers 0 0) 4) Read Write
      → obeyed_by (create (command_of call.registers) w) call flash worn memory ≡ obeyed_by (command_in call.registers) call flash worn memory
  create_row w o e = by o
    where
      opens : (n : ℕ) → get_or call.registers 0 0 ≡ n
          → obeyed_by (create (command_of call.registers) w) call flash worn memory
          ≡ obeyed_by (create (command_of call.registers) (cond (eqb n 4) Read Write)) call flash worn memory
      opens n h = ap (λ (v : Window). obeyed_by (create (command_of call.registers) v) call flash worn memory) (e ∙ ap (λ (k : ℕ). cond (eqb k 4) Read Write) h)

      by : OneOf (4 ∷ 6 ∷ []) (get_or call.registers 0 0)
          → obeyed_by (create (command_of call.registers) w) call flash worn memory ≡ obeyed_by (command_in call.registers) call flash worn memory
      by (inl h) = opens 4 h ∙ read_row h
      by (inr h) = opens 6 h ∙ write_row h

  -- code 10
  pub erase_row : get_or call.registers 0 0 ≡ 10 → obeyed_by erase call flash worn memory ≡ obeyed_by (command_in call.registers) call flash worn memory
  unfolding command_at
  erase_row e = at_row 10 e

  -- a code past the table
  pub past_row : 11 ≤ get_or call.registers 0 0 → obeyed_by unknown call flash worn memory ≡ obeyed_by (command_in call.registers) call flash worn memory
  past_row past =
      ap (λ (c : Command). obeyed_by c call flash worn memory)
      (sym (past_table (get_or call.registers 0 0) (λ e. omega arith) (λ e. omega arith) (λ e. omega arith) (λ e. omega arith) (λ e. omega arith)
      (λ e. omega arith) (λ e. omega arith) (λ e. omega arith) (λ e. omega arith) (λ e. omega arith)))
