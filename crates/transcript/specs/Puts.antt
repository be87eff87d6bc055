-- For private functions: what a method leaves that puts bytes behind what is printed.
use Rattle.std.specs.Prelude.{ℕ, ◌≡◌, ◌+◌, List, length}
use Rattle.transcript.specs.declared.printing.Printed.{Printed}
use Rattle.transcript.specs.Printing.{written}

-- they stand behind the text, as far as there is room, in the same buffer
pub record Puts (before : Printed) (part : List ℕ) (after : Printed) : Type 0 where
  pub end : after.end ≡ before.end + length part
  pub text : after.text.now ≡ written before.end part before.text.now
  pub same_buffer : after.text.ghost_name ≡ before.text.ghost_name
