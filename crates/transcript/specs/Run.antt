-- A whole run of the bench program: document 01, "Bench program".
use Rattle.std.specs.Prelude.{ℕ, zero, suc, cond, List, [], ◌++◌, ltb, length, replicate}
use Rattle.units.specs.Units.{to_bytes}
use Rattle.session.specs.Machine.{Setup, set_up, Machine, lent}
use Rattle.session.specs.Record.{fresh}
use Rattle.records.specs.Records.{next_of, record_at}
use Rattle.script.specs.Effects.{none_worn, Effect, effect_read}
use Rattle.transcript.specs.Printing.{answer_text, bad_line, too_long, flash_line}

-- what a run prints from some record on, and the flash that it leaves
pub record Ran : Type 0 where
  pub text : List ℕ
  pub flash : List ℕ

abbrev pub ended : List ℕ → List ℕ → Ran
ended text flash = record { text = text; flash = flash }

abbrev pub after : List ℕ → Ran → Ran
after text rest = ended (text ++ rest.text) rest.flash

-- a record, and the rest of the run: "A record that breaks these rules prints `bad input at N`, N the offset of its first byte, .., and ends
-- the run"
abbrev pub turned : (Machine → Ran) → ℕ → Effect → Ran
turned rest at e =
    cond e.good
    (after (answer_text e.answer) (rest e.machine))
    (ended (bad_line at) e.machine.flash)

-- the records from an offset on, at most so many
unfoldable pub run_from : ℕ → Setup → List ℕ → ℕ → Machine → Ran
run_from zero setup input at m = ended [] m.flash
run_from (suc turns) setup input at m =
    cond (ltb at (length input))
    (turned (run_from turns setup input (next_of (record_at input at))) at (effect_read setup (record_at input at) m))
    (ended [] m.flash)

-- "It has S = 4, flash all FF, C = 2, B = 16, T = 8, a fresh session"
abbrev pub bench : Setup
bench = set_up (record { lpc = 16; timeout = 8 })

unfoldable pub blank : ℕ → List ℕ
blank blocks = replicate (to_bytes blocks) 0xff

-- all records: each has a byte at least, so there are no more than bytes. The window memory begins as FF, which nothing shows: a create
-- copies over what a window has
abbrev pub ran : List ℕ → Ran
ran input = run_from (length input) bench input 0 (lent fresh (blank 4) none_worn (blank 2))

-- "Standard input, at most 16,384 bytes"; "Longer input prints only `too long`"
unfoldable pub transcript : List ℕ → List ℕ
transcript input = cond (ltb 16384 (length input)) too_long ((ran input).text ++ flash_line 4 (ran input).flash)
