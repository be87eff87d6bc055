-- What a call is given: what the board sets up, and what the call works on. The mediator and all that stands on it take these two records
-- whole, and the flush the second, so that a thing more that is lent is a field here.
use Rattle.std.specs.Prelude.{ℕ, List}
use Rattle.session.specs.declared.Board.{Board}
use Rattle.session.specs.declared.Session.{Session}

-- "B, the window's first LPC block", and "T, the suggested timeout in seconds"
pub record Setup : Type 0 where
  pub lpc : ℕ
  pub timeout : ℕ

-- as the code has them
abbrev pub set_up : Board → Setup
set_up board = record { lpc = board.lpc; timeout = board.timeout }

-- the session, the flash, its "map of worn blocks, one byte a block, 0 good" (02, Ticket 8), and the window memory, each byte of them
pub record Machine : Type 0 where
  pub session : Session
  pub flash : List ℕ
  pub worn : List ℕ
  pub memory : List ℕ

-- as they are lent
abbrev pub lent : Session → List ℕ → List ℕ → List ℕ → Machine
lent s flash worn memory = record { session = s; flash = flash; worn = worn; memory = memory }

-- the machine with another session
abbrev pub holding : Session → Machine → Machine
holding s m = lent s m.flash m.worn m.memory

-- the machine with another map
abbrev pub wearing : List ℕ → Machine → Machine
wearing worn m = lent m.session m.flash worn m.memory
