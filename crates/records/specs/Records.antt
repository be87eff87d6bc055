-- The records of the bench program's input: document 01, "Bench program".
use Rattle.std.specs.Prelude.{ℕ, zero, suc, ◌+◌, cond, List, leb, eqb, set, replicate, Option, Some, None, Result, Ok, Err}
use Rattle.leb128.specs.Groups.{read_at}
use Rattle.leb128.specs.declared.Number.{Number}
use Rattle.leb128.specs.declared.ReadError.{ReadError}
use Rattle.records.specs.declared.Item.{Item}
use Rattle.records.specs.declared.Record.{Record}
use Rattle.records.specs.declared.Record.TheVariants.{Command, Fill, Suspend, Resume, ResumeChanged}

-- a record, and the offset past it
abbrev pub plain : Record → ℕ → Option Item
plain body next = Some (record { body = body; next = next })

-- "A record that breaks these rules"
abbrev pub bad : Option Item
bad = None

-- a number and what follows it; "Only the shortest form, values below 2^32", and a record cut short is none
abbrev pub with_number : Result Number ReadError → (ℕ → ℕ → Option Item) → Option Item
with_number (Ok number) rest = rest number.value number.next
with_number (Err error) rest = bad

-- a number that is "up to" so much
unfoldable pub up_to : ℕ → (ℕ → ℕ → Option Item) → ℕ → ℕ → Option Item
up_to most rest value next = cond (leb value most) (rest value next) bad

-- "that many values up to 255 for registers 0 onward": so many are left, and the next is register i
abbrev pub values_at : List ℕ → ℕ → ℕ → List ℕ → ℕ → Option Item
values_at bytes zero i registers at = plain (Command registers) at
values_at bytes (suc left) i registers at =
    with_number (read_at bytes at) (up_to 255 (λ value next. values_at bytes left (i + 1) (set registers i value) next))

-- "a count up to 13, and that many values .. (others zero) is a command"
abbrev pub command_at : List ℕ → ℕ → Option Item
command_at bytes at = with_number (read_at bytes at) (up_to 13 (λ count next. values_at bytes count 0 (replicate 16 0) next))

-- "offset, count, value up to 255 is the host filling that range"
abbrev pub fill_at : List ℕ → ℕ → Option Item
fill_at bytes at =
    with_number (read_at bytes at) (λ offset then.
    with_number (read_at bytes then) (λ count last.
    with_number (read_at bytes last) (up_to 255 (λ value next. plain (Fill offset count value) next))))

-- "Records: 0, .. is a command; 1, .. is the host filling ..; 2 suspend; 3 resume; 4 resume with changed flash"
abbrev pub of_kind : List ℕ → ℕ → ℕ → Option Item
of_kind bytes kind at =
    cond (eqb kind 0) (command_at bytes at)
    (cond (eqb kind 1) (fill_at bytes at)
    (cond (eqb kind 2) (plain Suspend at)
    (cond (eqb kind 3) (plain Resume at)
    (cond (eqb kind 4) (plain ResumeChanged at) bad))))

-- the record whose first byte stands at an offset
unfoldable pub record_at : List ℕ → ℕ → Option Item
record_at bytes at = with_number (read_at bytes at) (of_kind bytes)

-- the offset past a record
abbrev pub next_of : Option Item → ℕ
next_of None = 0
next_of (Some item) = item.next
