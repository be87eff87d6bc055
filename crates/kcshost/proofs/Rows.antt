-- The table by the papers' numbers: what is seen after each write and each answer.
use mathlib.Core.Path.{◌≡◌, refl, sym, ap, subst, ◌∙◌}
use mathlib.Core.Bool.{Bool, true, false, cond, not}
use mathlib.Core.Logic.{⊎_elim}
use mathlib.Core.List.{List, [], ◌∷◌}
use Prim.Native.Nat.{◌<◌, ℕ, ◌≤◌}
use native.Mathlib.Omega.{arith}
use lib.Dec.{ltb}
use lib.ListN.{length, get_or}
use borrow.Author.Tests.{lt-ltb, le-ltb, le-leb, eq-eqb, ne_eqb}
use Rattle.kcs.specs.Port.{Control, Port, Phase, idle, writing, ending, awaiting, reading, aborting, failed, phase_of, state_bits}
use Rattle.kcs.specs.Effects.{Effect, Closes, Keeps, Completes, Tells, Continues, Finishes, WrongCode, TooLong, on_end, on_command, on_data, has_room, has_next, left, with_command}
use Rattle.kcs.specs.Accesses.{with_control, command_written, data_written, answers}
use Rattle.kcs.proofs.Phases.{no_end}
use Rattle.kcshost.specs.Rows.{Shows, CommandsTaken, DataTaken, AnswerTaken, TakenAsSaid, OtherNumbers}
use Rattle.kcshost.proofs.Boxes.{state_seen_lem, command_seen, obf_seen_lem}
use Rattle.kcshost.proofs.Messages.{by}
use Rattle.kcshost.proofs.Registers.{both_fail}
use Rattle.kcshost.proofs.Reading.{quiet, shown, answered_is, answered_some, awaited}

-- ---- commands

module _ (p : Port) where
  abbrev after : Effect → Port
  after e = with_control (left e 0x00 (with_command 1 p.control)) p

  wrong : (e : Effect) → e ≡ WrongCode → Shows 3 0x02 0x00 (after e)
  wrong e is = subst (λ (f : Effect). Shows 3 0x02 0x00 (after f)) (sym is) (state_seen_lem (after WrongCode), refl, refl)

  commands_taken : CommandsTaken p
  commands_taken =
      let n = p.control.phase in
      record {
        sixty = (state_seen_lem (command_written 0x60 p), refl, refl);
        sixty_one = (state_seen_lem (command_written 0x61 p), refl, refl);
        sixty_two =
            λ writes.
            subst
            (λ (q : Phase). Shows 2 p.control.fault 0x00 (after (on_end q)))
            (sym writes)
            (state_seen_lem (after Closes), refl, refl);
        sixty_two_elsewhere = λ other. wrong (on_end (phase_of n)) (no_end n (λ one. other (ap phase_of one)));
        others =
            λ code no₀ no₁ no₂.
            let is : on_command (phase_of n) code ≡ WrongCode = rw (ne_eqb code 0x60 no₀, ne_eqb code 0x61 no₁, ne_eqb code 0x62 no₂) in
            wrong (on_command (phase_of n) code) is;
      }

-- ---- data

module _ (byte : ℕ) (p : Port) where
  abbrev c : Control
  c = p.control

  -- in this phase, with this effect
  in_phase
      : (q : Phase) (e : Effect) (state fault shown : ℕ) → phase_of c.phase ≡ q → on_data q (has_room c) (has_next c) byte ≡ e
      → Shows state fault shown (by p byte e) → Shows state fault shown (data_written byte p)
  in_phase q e state fault shown is row shows =
      subst
      (λ (f : Effect). Shows state fault shown (by p byte f))
      (sym (ap (λ (r : Phase). on_data r (has_room c) (has_next c) byte) is ∙ row))
      shows

  shows_wrong : Shows 3 0x02 0x00 (by p byte WrongCode)
  shows_wrong = (state_seen_lem (by p byte WrongCode), refl, refl)

  shows_long : Shows 3 0x06 0x00 (by p byte TooLong)
  shows_long = (state_seen_lem (by p byte TooLong), refl, refl)

  pub data_taken : DataTaken byte p
  data_taken =
      record {
        kept = λ is few. in_phase writing Keeps 2 c.fault 0x00 is (ap (λ (t : Bool). cond t Keeps TooLong) (lt-ltb c.length 64 few)) (state_seen_lem (by p byte Keeps), refl, refl);
        long = λ is many. in_phase writing TooLong 3 0x06 0x00 is (ap (λ (t : Bool). cond t Keeps TooLong) (le-ltb c.length 64 many)) shows_long;
        last = λ is few. in_phase ending Completes 1 c.fault 0x00 is (ap (λ (t : Bool). cond t Completes TooLong) (lt-ltb c.length 64 few)) (state_seen_lem (by p byte Completes), refl, refl);
        last_long = λ is many. in_phase ending TooLong 3 0x06 0x00 is (ap (λ (t : Bool). cond t Completes TooLong) (le-ltb c.length 64 many)) shows_long;
        asked = λ is zero. in_phase aborting Tells 1 c.fault c.fault is (ap (λ (t : Bool). cond t Tells WrongCode) (eq-eqb byte 0x00 zero)) (state_seen_lem (by p byte Tells), refl, refl);
        not_asked = λ is other. in_phase aborting WrongCode 3 0x02 0x00 is (ap (λ (t : Bool). cond t Tells WrongCode) (ne_eqb byte 0x00 other)) shows_wrong;
        next =
            λ is read below inside.
            let more : has_next c ≡ true = rw (lt-ltb c.next c.end below, lt-ltb c.next 64 inside) in
            in_phase reading Continues 1 c.fault (get_or p.response c.next 0) is
            (rw (eq-eqb byte 0x68 read, more))
            (state_seen_lem (by p byte Continues), refl, ap (λ (t : Bool). cond t (get_or p.response c.next 0) 0x00) more);
        finished =
            λ is read none.
            let no_more : has_next c ≡ false = ⊎_elim (λ (e : c.end ≤ c.next). rw (le-ltb c.next c.end e)) (λ (e : 64 ≤ c.next). both_fail (ltb c.next c.end) (ltb c.next 64) (le-ltb c.next 64 e)) none in
            in_phase reading Finishes 0 0x00 0x00 is (rw (eq-eqb byte 0x68 read, no_more)) (state_seen_lem (by p byte Finishes), refl, refl);
        not_read = λ is other. in_phase reading WrongCode 3 0x02 0x00 is (rw (ne_eqb byte 0x68 other)) shows_wrong;
        in_idle = λ is. in_phase idle WrongCode 3 0x02 0x00 is refl shows_wrong;
        in_awaiting = λ is. in_phase awaiting WrongCode 3 0x02 0x00 is refl shows_wrong;
        in_error = λ is. in_phase failed WrongCode 3 0x02 0x00 is refl shows_wrong;
      }

-- ---- answers

module _ (p : Port) (waits : phase_of p.control.phase ≡ awaiting) where
  taken : (response : List ℕ) → length response ≤ 64 → answers response p ≡ true
  taken response fits = rw (le-leb (length response) 64 fits, awaited p.control.phase waits)

  answer_taken : AnswerTaken p
  answer_taken =
      record {
        empty = (
          taken [] (omega arith),
          subst (λ (q : Port). Shows 0 0x00 0x00 q) (sym (answered_is [] p waits (omega arith))) (state_seen_lem (quiet p), refl, refl),
        );
        some =
            λ byte rest fits. (
              taken (byte ∷ rest) fits,
              subst
                  (λ (q : Port). Shows 1 p.control.fault byte q)
                  (sym (answered_some byte rest p waits fits))
                  (state_seen_lem (shown p byte rest), refl, refl),
            );
      }

pub taken_as_said : TakenAsSaid
taken_as_said p = (commands_taken p, (λ byte. data_taken byte p), answer_taken p)

-- ---- numbers that no access leaves

above_five : (n : ℕ) → 5 < n → phase_of n ≡ failed
above_five n above =
    rw
    (ne_eqb n 0 (λ e. omega (arith, above, e)), ne_eqb n 1 (λ e. omega (arith, above, e)), ne_eqb n 2 (λ e. omega (arith, above, e)), ne_eqb n 3 (λ e. omega (arith, above, e)), ne_eqb n 4 (λ e. omega (arith, above, e)), ne_eqb n 5 (λ e. omega (arith, above, e)))

pub other_numbers : OtherNumbers
other_numbers p = (
  λ above. (above_five p.control.phase above, state_seen_lem p ∙ ap state_bits (above_five p.control.phase above)),
  λ set. command_seen p ∙ ap (λ (t : Bool). cond (not t) 1 0) (ne_eqb p.control.command 0 set),
  λ set. obf_seen_lem p ∙ ap not (ne_eqb p.control.full 0 set),
)
