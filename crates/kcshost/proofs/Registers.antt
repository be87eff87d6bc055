-- The status register after each access, and what changes nothing.
use mathlib.Core.Path.{◌≡◌, refl, sym, ap, ◌∙◌}
use mathlib.Core.Bool.{Bool, true, false, cond, not, ◌&&◌}
use mathlib.Core.List.{List}
use mathlib.Core.Logic.{⊎_elim}
use Prim.Native.Nat.{ℕ, ◌+◌, ◌<◌}
use native.Mathlib.Omega.{arith}
use lib.Dec.{eqb, leb}
use lib.ListN.{length}
use borrow.Author.Tests.{eqb-true, ne_eqb, lt-leb, not-false}
use Rattle.units.proofs.Cases.{chosen}
use Rattle.kcs.specs.Port.{Control, Port, awaiting, phase_of, is_set, fresh}
use Rattle.kcs.specs.Effects.{Effect, Opens, Closes, Aborts, Keeps, Completes, Tells, Continues, Finishes, WrongCode, TooLong, on_end, on_command, data_effect, left, is_last, with_command}
use Rattle.kcs.specs.Accesses.{data_read, command_written, next_byte, data_written, answers, answered}
use Rattle.kcs.proofs.Phases.{each_phase}
use Rattle.kcshost.specs.Rows.{ClearRead, RefusedAnswer, StatusBits, CommandBit, FullBit, WritesShow, ReadAsSaid}
use Rattle.kcshost.proofs.Boxes.{state_seen_lem, command_seen, obf_seen_lem, others_seen}

-- ---- what an effect leaves

command_kept : (e : Effect) (given : ℕ) (c : Control) → (left e given c).command ≡ c.command
command_kept Opens given c = refl
command_kept Closes given c = refl
command_kept Aborts given c = refl
command_kept Keeps given c = refl
command_kept Completes given c = refl
command_kept Tells given c = refl
command_kept Continues given c = refl
command_kept Finishes given c = refl
command_kept WrongCode given c = refl
command_kept TooLong given c = refl

full_after : (e : Effect) (given : ℕ) (c : Control) → is_set (left e given c).full ≡ not (is_last e)
full_after Opens given c = refl
full_after Closes given c = refl
full_after Aborts given c = refl
full_after Keeps given c = refl
full_after Completes given c = refl
full_after Tells given c = refl
full_after Continues given c = refl
full_after Finishes given c = refl
full_after WrongCode given c = refl
full_after TooLong given c = refl

-- no command completes a message
not_last : (phase : ℕ) (code : ℕ) → is_last (on_command (phase_of phase) code) ≡ false
not_last phase code =
    chosen (λ e. is_last e ≡ false) (eqb code 0x60) _ _ (λ _. refl) (λ _.
    chosen (λ e. is_last e ≡ false) (eqb code 0x61) _ _ (λ _. refl) (λ _.
    chosen (λ e. is_last e ≡ false) (eqb code 0x62) _ _
    (λ _. each_phase (λ q. is_last (on_end q) ≡ false) phase (λ _. refl) (λ _. refl) (λ _. refl) (λ _. refl) (λ _. refl) (λ _. refl) refl)
    (λ _. refl)))

told_as : (last : Bool) (n : ℕ) → not last ≡ eqb (cond last (n + 1) 0) 0
told_as true n = sym (ne_eqb (n + 1) 0 (λ e. omega (arith, e)))
told_as false n = refl

-- ---- C/D# and OBF

module _ (p : Port) where
  answer_keeps : (response : List ℕ) → (answered response p).control.command ≡ p.control.command
  answer_keeps response =
      chosen
      (λ (q : Port). q.control.command ≡ p.control.command)
      (answers response p)
      _
      _
      (λ _. chosen (λ (c : Control). c.command ≡ p.control.command) (eqb (length response) 0) _ _ (λ _. refl) (λ _. refl))
      (λ _. refl)

  command_bit : CommandBit p
  command_bit =
      record {
        command =
            λ code.
            command_seen (command_written code p)
            ∙ ap (λ (n : ℕ). cond (is_set n) 1 0) (command_kept (on_command (phase_of p.control.phase) code) 0x00 (with_command 1 p.control));
        datum =
            λ byte.
            command_seen (data_written byte p)
            ∙ ap (λ (n : ℕ). cond (is_set n) 1 0) (command_kept (data_effect byte p.control) (next_byte p) (with_command 0 p.control));
        read = command_seen (data_read p) ∙ sym (command_seen p);
        answer = λ response. command_seen (answered response p) ∙ ap (λ (n : ℕ). cond (is_set n) 1 0) (answer_keeps response) ∙ sym (command_seen p);
      }

  full_bit : FullBit p
  full_bit =
      record {
        command =
            λ code.
            obf_seen_lem (command_written code p)
            ∙ full_after (on_command (phase_of p.control.phase) code) 0x00 (with_command 1 p.control)
            ∙ ap not (not_last p.control.phase code);
        datum =
            λ byte.
            obf_seen_lem (data_written byte p)
            ∙ full_after (data_effect byte p.control) (next_byte p) (with_command 0 p.control)
            ∙ told_as (is_last (data_effect byte p.control)) p.control.length;
      }

pub writes_show : WritesShow
writes_show p = (command_bit p, full_bit p)

pub status_bits : StatusBits
unfolding fresh
status_bits = (refl, others_seen)

-- ---- what changes nothing

unset : (n : ℕ) → is_set n ≡ false → n ≡ 0
unset n e = eqb-true n 0 (not-false (eqb n 0) e)

pub clear_read : ClearRead
clear_read p clear =
    let none : is_set p.control.full ≡ false = sym (obf_seen_lem p) ∙ clear in (
      rw none,
      λ i.
          record {
            control =
                record {
                  phase = p.control.phase;
                  command = p.control.command;
                  full = sym (unset p.control.full none) i;
                  output = p.control.output;
                  fault = p.control.fault;
                  length = p.control.length;
                  next = p.control.next;
                  end = p.control.end;
                };
            request = p.request;
            response = p.response;
          },
    )

pub untaken : (response : List ℕ) (p : Port) → answers response p ≡ false → (answers response p ≡ false) × (answered response p ≡ p)
untaken response p refused = (refused, rw refused)

pub both_fail : (a b : Bool) → b ≡ false → (a && b) ≡ false
both_fail true b e = e
both_fail false b e = refl

pub refused_answer : RefusedAnswer
refused_answer response p why =
    untaken response p
    (⊎_elim
    (λ (long : 64 < length response). ap (λ (t : Bool). t && eqb p.control.phase 3) (lt-leb (length response) 64 long))
    (λ (other : phase_of p.control.phase ≡ awaiting → ⊥).
    both_fail (leb (length response) 64) (eqb p.control.phase 3) (ne_eqb p.control.phase 3 (λ three. other (ap phase_of three))))
    why)

pub read_as_said : ReadAsSaid
read_as_said p =
    record {
      clear = obf_seen_lem (data_read p);
      state = state_seen_lem (data_read p) ∙ sym (state_seen_lem p);
      phase = refl;
      command = refl;
      fault = refl;
      length = refl;
      next = refl;
      end = refl;
      request = refl;
      response = refl;
    }
