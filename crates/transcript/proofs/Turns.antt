-- A run under way: what is left of it ends as the whole run does.
use mathlib.Core.Path.{◌≡◌, refl, sym, ap, ◌∙◌}
use mathlib.Core.List.{List, [], ◌++◌, append-nil}
use Prim.Native.Nat.{ℕ, ◌≤◌, ◌<◌}
use lib.ListN.{length}
use Rattle.session.specs.declared.Session.{Session}
use Rattle.session.specs.Machine.{Machine, lent}
use Rattle.session.specs.Record.{fresh}
use Rattle.std.specs.Prelude.{Some, None}
use Rattle.records.specs.Records.{record_at}
use Rattle.script.specs.declared.Served.{Served}
use Rattle.script.specs.Effects.{none_worn, Effect, effected}
use Rattle.script.proofs.Progress.{moves_on}
use Rattle.transcript.specs.Printing.{answer_text, bad_line}
use Rattle.transcript.specs.Run.{Ran, ended, after, bench, run_from}
use Rattle.transcript.specs.declared.printing.Printed.{Printed}
use Rattle.transcript.specs.Puts.{Puts}
use Rattle.transcript.proofs.Written.{Left, left_all_lem, left_put, left_as, left_none}
use Rattle.transcript.proofs.Runs.{at_record, past_record, rest_from, rest_none, rest_all, rest_good, rest_bad}

module _ (input flash₀ memory₀ : List ℕ) (before : Printed) where
  -- the whole run
  abbrev pub total : Ran
  total = run_from (length input) bench input 0 (lent fresh flash₀ none_worn memory₀)

  -- the run from an offset on, with what is printed so far
  abbrev pub Going : ℕ → Machine → Printed → Type 0
  Going at m now = ((rest_from bench input at m).flash ≡ total.flash) × Left before total.text now (rest_from bench input at m).text

  -- its end
  abbrev pub Gone : List ℕ → Printed → Type 0
  Gone flash now = Puts before total.text now × (flash ≡ total.flash)

  pub begun : (s : Session) → s ≡ fresh → Going 0 (lent s flash₀ none_worn memory₀) before
  begun s e =
      let all = ap (λ (t : Session). rest_from bench input 0 (lent t flash₀ none_worn memory₀)) e ∙ rest_all bench input (lent fresh flash₀ none_worn memory₀) in
      (ap (λ (r : Ran). r.flash) all, left_as (sym (ap (λ (r : Ran). r.text) all)) left_all_lem)

  -- no record is left
  pub over_none : (at : ℕ) (m : Machine) (now : Printed) → length input ≤ at → Going at m now → Gone m.flash now
  over_none at m now h g =
      let e = rest_none bench input at m h in
      (left_none (left_as (ap (λ (r : Ran). r.text) e) g.1), sym (ap (λ (r : Ran). r.flash) e) ∙ g.0)

  -- one record
  module _ (at : ℕ) (m : Machine) (now : Printed) (going : Going at m now) (here : at < length input) (flash' memory' : List ℕ) where
    -- it breaks the rules
    pub over_bad : (after : Printed) → effected m.session None flash' memory' ≡ at_record bench input at m → Puts now (bad_line at) after → Gone flash' after
    over_bad after p put =
        let e : rest_from bench input at m ≡ ended (bad_line at ++ []) flash' =
        rest_bad bench input at m here (sym (ap (λ (e : Effect). e.good) p))
        ∙ sym (ap (λ (e : Effect). ended (bad_line at) e.machine.flash) p)
        ∙ ap (λ (t : List ℕ). ended t flash') (sym (append-nil (bad_line at))) in (
          left_none (left_put (left_as (ap (λ (r : Ran). r.text) e) going.1) put),
          sym (ap (λ (r : Ran). r.flash) e) ∙ going.0,
        )

    -- it keeps them, and ends past its first byte
    module _ (served : Served) (p : effected m.session (Some served) flash' memory' ≡ at_record bench input at m) (next : ℕ) (e : next ≡ past_record bench input at) where
      pub moved_on : at < next
      moved_on = rw e (moves_on input at (record_at input at) refl bench m (sym (ap (λ (e : Effect). e.good) p)))

      pub goes_on : (then : Printed) → Puts now (answer_text served.answer) then → Going next (lent served.session flash' none_worn memory') then
      goes_on then put =
          let r : rest_from bench input at m ≡ after (answer_text served.answer) (rest_from bench input next (lent served.session flash' none_worn memory')) =
          rest_good bench input at m here (sym (ap (λ (e : Effect). e.good) p))
          ∙ sym (ap (λ (e : Effect). after (answer_text e.answer) (rest_from bench input (past_record bench input at) e.machine)) p)
          ∙ sym (ap (λ (n : ℕ). after (answer_text served.answer) (rest_from bench input n (lent served.session flash' none_worn memory'))) e) in (
            sym (ap (λ (t : Ran). t.flash) r) ∙ going.0,
            left_put (left_as (ap (λ (t : Ran). t.text) r) going.1) put,
          )
