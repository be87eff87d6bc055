-- Laws of a run, record by record: what is left of it from an offset on.
use mathlib.Core.Path.{◌≡◌, refl, sym, ap, ◌∙◌}
use mathlib.Core.Bool.{Bool, true, false, cond}
use mathlib.Core.List.{List, []}
use mathlib.Core.Logic.{⊎_elim}
use Prim.Native.Nat.{ℕ, zero, suc, ◌+◌, ◌-◌, ◌≤◌, ◌<◌}
use native.Mathlib.Omega.{arith}
use lib.Dec.{ltb}
use lib.ListN.{length}
use borrow.Author.Tests.{lt-ltb, le-ltb, ltb-true, ltb-false}
use Rattle.units.proofs.Cases.{decided}
use Rattle.session.specs.Machine.{Setup, Machine}
use Rattle.records.specs.Records.{next_of, record_at}
use Rattle.script.specs.Effects.{Effect, effect_read}
use Rattle.script.proofs.Progress.{moves_on}
use Rattle.transcript.specs.Printing.{answer_text, bad_line}
use Rattle.transcript.specs.Run.{Ran, ended, after, turned, run_from}

module _ (setup : Setup) (input : List ℕ) where
  -- a run at the end of its input
  run_none : (turns at : ℕ) (m : Machine) → length input ≤ at → run_from turns setup input at m ≡ ended [] m.flash
  unfolding run_from
  run_none zero at m h = refl
  run_none (suc turns) at m h = rw (le-ltb at (length input) h)

  -- what the record at an offset does, and the offset past it
  abbrev pub at_record : ℕ → Machine → Effect
  at_record at m = effect_read setup (record_at input at) m

  abbrev pub past_record : ℕ → ℕ
  past_record at = next_of (record_at input at)

  -- a record, and the rest
  module _ (turns at : ℕ) (m : Machine) (here : at < length input) where
    abbrev e : Effect
    e = at_record at m

    abbrev goes : Ran
    goes = after (answer_text e.answer) (run_from turns setup input (past_record at) e.machine)

    run_turn : run_from (suc turns) setup input at m ≡ cond e.good goes (ended (bad_line at) e.machine.flash)
    unfolding run_from
    run_turn = ap (λ (b : Bool). cond b (turned (run_from turns setup input (past_record at)) at e) (ended [] m.flash)) (lt-ltb at (length input) here)

    run_good : e.good ≡ true → run_from (suc turns) setup input at m ≡ goes
    run_good good = run_turn ∙ ap (λ (b : Bool). cond b goes (ended (bad_line at) e.machine.flash)) good

    run_bad : e.good ≡ false → run_from (suc turns) setup input at m ≡ ended (bad_line at) e.machine.flash
    run_bad bad = run_turn ∙ ap (λ (b : Bool). cond b goes (ended (bad_line at) e.machine.flash)) bad

  -- a turn more, where the rest is the same
  turn_alike : (k n at : ℕ) (m : Machine) → at < length input
      → ((next : ℕ) (m : Machine) → at < next → run_from k setup input next m ≡ run_from n setup input next m)
      → run_from (suc k) setup input at m ≡ run_from (suc n) setup input at m
  turn_alike k n at m h same =
      ⊎_elim
      (λ (g : e.good ≡ true).
      run_good k at m h g
      ∙ ap (after (answer_text e.answer)) (same (past_record at) e.machine (moves_on input at (record_at input at) refl setup m g))
      ∙ sym (run_good n at m h g))
      (λ (g : e.good ≡ false). run_bad k at m h g ∙ sym (run_bad n at m h g))
      (decided e.good)
    where
      e : Effect
      e = at_record at m

  -- a record has a byte at least, so that as many turns as bytes are enough
  enough : (k n at : ℕ) (m : Machine) → length input ≤ at + k → length input ≤ at + n
      → run_from k setup input at m ≡ run_from n setup input at m
  enough zero n at m p q = run_none zero at m (omega arith) ∙ sym (run_none n at m (omega arith))
  enough (suc k) zero at m p q =
      run_none (suc k) at m (omega arith) ∙ sym (run_none zero at m (omega arith))
  enough (suc k) (suc n) at m p q =
      ⊎_elim
      (λ (t : ltb at (length input) ≡ true).
      turn_alike k n at m (ltb-true at (length input) t)
      (λ next m' past. enough k n next m' (omega (arith, past)) (omega (arith, past))))
      (λ (t : ltb at (length input) ≡ false).
      run_none (suc k) at m (ltb-false at (length input) t) ∙ sym (run_none (suc n) at m (ltb-false at (length input) t)))
      (decided (ltb at (length input)))

  -- what is left of a run
  abbrev pub rest_from : ℕ → Machine → Ran
  rest_from at m = run_from (length input - at) setup input at m

  pub rest_none : (at : ℕ) (m : Machine) → length input ≤ at → rest_from at m ≡ ended [] m.flash
  rest_none at m h = run_none (length input - at) at m h

  pub rest_all : (m : Machine) → rest_from 0 m ≡ run_from (length input) setup input 0 m
  rest_all m = enough (length input - 0) (length input) 0 m (omega arith) (omega arith)

  one_turn : (at : ℕ) → at < length input → length input - at ≡ suc (length input - (at + 1))
  one_turn at h = omega arith

  pub rest_good : (at : ℕ) (m : Machine) → at < length input → (at_record at m).good ≡ true
      → rest_from at m ≡ after (answer_text (at_record at m).answer) (rest_from (past_record at) (at_record at m).machine)
  rest_good at m h g =
      let past = moves_on input at (record_at input at) refl setup m g in
      ap (λ (n : ℕ). run_from n setup input at m) (one_turn at h)
      ∙ run_good (length input - (at + 1)) at m h g
      ∙ ap (after (answer_text (at_record at m).answer)) (enough (length input - (at + 1)) (length input - past_record at) (past_record at) (at_record at m).machine (omega (arith, past)) (omega (arith, past)))

  pub rest_bad : (at : ℕ) (m : Machine) → at < length input → (at_record at m).good ≡ false
      → rest_from at m ≡ ended (bad_line at) (at_record at m).machine.flash
  rest_bad at m h g =
      ap (λ (n : ℕ). run_from n setup input at m) (one_turn at h) ∙ run_bad (length input - (at + 1)) at m h g
