-- The messages that any steps hand over are those that the steps alone tell.
use mathlib.Core.Path.{◌≡◌, refl, sym, ap, subst, ◌∙◌}
use mathlib.Core.Bool.{Bool, true, false, cond, ◌&&◌, false≢true}
use mathlib.Core.List.{List, [], ◌∷◌, ◌++◌}
use mathlib.Core.Logic.{⊎_elim}
use Prim.Native.Nat.{ℕ, ◌+◌}
use native.Mathlib.Omega.{arith}
use lib.Dec.{eqb, ltb, leb}
use lib.ListN.{length, take, drop}
use lib.Seq.{take_at}
use borrow.Author.Tests.{eqb-true, eq-eqb, ne_eqb}
use Rattle.units.proofs.Cases.{chosen, decided}
use Rattle.units.proofs.Keys.{has}
use Rattle.buffers.specs.Ranges.{replace}
use Rattle.kcs.specs.Port.{Control, Port, Phase, writing, ending, phase_of}
use Rattle.kcs.specs.Effects.{Effect, Aborts, Keeps, Completes, Tells, Continues, Finishes, TooLong, WrongCode, on_end, on_data, has_room, has_next, data_effect, left, is_kept, told_length, with_command}
use Rattle.kcs.specs.Accesses.{with_control, command_written, data_written, next_byte, message, answered}
use Rattle.kcs.proofs.Phases.{each_phase, no_end}
use Rattle.kcshost.specs.Runs.{read_status, read_data, write_command, write_data, handed, Step, access, answer, stepped, stepped_all, handed_by, handed_in}
use Rattle.kcshost.specs.History.{Request, none, opened, closing, awaited, closed, added, replied, request_after, completed, message_of, messages_of, requests_after, is_awaited, Outside, MessagesExact, AnswersExact}
use Rattle.kcshost.proofs.Registers.{both_fail, untaken}
use Rattle.kcshost.proofs.Sending.{put_behind, one_more}

-- ---- a port and how far a message has come agree

-- the bytes stand at the front of the request
record Holds (phase : ℕ) (bytes : List ℕ) (p : Port) : Type 0 where
  number : p.control.phase ≡ phase
  long : p.control.length ≡ length bytes
  tail : List ℕ
  request : p.request ≡ bytes ++ tail

record Apart (p : Port) : Type 0 where
  not_writing : p.control.phase ≡ 1 → ⊥
  not_ending : p.control.phase ≡ 2 → ⊥
  not_awaiting : p.control.phase ≡ 3 → ⊥

Agrees : Request → Port → Type 0
Agrees none p = Apart p
Agrees (opened bytes) p = Holds 1 bytes p
Agrees (closing bytes) p = Holds 2 bytes p
Agrees awaited p = p.control.phase ≡ 3

-- a phase that is none of the three
apart : (p : Port) (n : ℕ) → p.control.phase ≡ n → has n (1 ∷ 2 ∷ 3 ∷ []) ≡ false → Apart p
apart p n is other =
    record {
      not_writing = λ e. absurd (false≢true (sym other ∙ ap (λ (k : ℕ). has k (1 ∷ 2 ∷ 3 ∷ [])) (sym is ∙ e)));
      not_ending = λ e. absurd (false≢true (sym other ∙ ap (λ (k : ℕ). has k (1 ∷ 2 ∷ 3 ∷ [])) (sym is ∙ e)));
      not_awaiting = λ e. absurd (false≢true (sym other ∙ ap (λ (k : ℕ). has k (1 ∷ 2 ∷ 3 ∷ [])) (sym is ∙ e)));
    }

-- ---- a command

module _ (p : Port) where
  abbrev c : Control
  c = with_command 1 p.control

  sixty_two_lem : (r : Request) → Agrees r p → Agrees (closed r) (command_written 0x62 p)
  unfolding Agrees
  sixty_two_lem none a =
      apart (command_written 0x62 p) 6 (ap (λ (e : Effect). (left e 0x00 c).phase) (no_end p.control.phase a.not_writing)) refl
  sixty_two_lem (opened bytes) a =
      let closes = ap (λ (n : ℕ). left (on_end (phase_of n)) 0x00 c) a.number in
      record { number = ap (λ (d : Control). d.phase) closes; long = ap (λ (d : Control). d.length) closes ∙ a.long; tail = a.tail; request = a.request }
  sixty_two_lem (closing bytes) a =
      apart (command_written 0x62 p) 6 (ap (λ (n : ℕ). (left (on_end (phase_of n)) 0x00 c).phase) a.number) refl
  sixty_two_lem awaited a = apart (command_written 0x62 p) 6 (ap (λ (n : ℕ). (left (on_end (phase_of n)) 0x00 c).phase) a) refl

  commanded : (code : ℕ) (r : Request) → Agrees r p → Agrees (request_after (access (write_command code)) r) (command_written code p)
  unfolding Agrees
  commanded code r a =
      ⊎_elim
      (λ (start : eqb code 0x61 ≡ true).
      let is : code ≡ 0x61 = eqb-true code 0x61 start in
      rw is (record { number = refl; long = refl; tail = p.request; request = refl }))
      (λ (other : eqb code 0x61 ≡ false).
      rw other
      (⊎_elim
      (λ (end : eqb code 0x62 ≡ true). let is : code ≡ 0x62 = eqb-true code 0x62 end in rw is (sixty_two_lem r a))
      (λ (neither : eqb code 0x62 ≡ false).
      rw neither
      (chosen
      (λ (e : Effect). Apart (with_control (left e 0x00 c) p))
      (eqb code 0x60)
      _
      _
      (λ _. apart (with_control (left Aborts 0x00 c) p) 5 refl refl)
      (λ _. apart (with_control (left WrongCode 0x00 c) p) 6 refl refl)))
      (decided (eqb code 0x62))))
      (decided (eqb code 0x61))

-- ---- a data byte

module _ (p : Port) (byte : ℕ) where
  abbrev d : Control
  d = p.control

  -- what is left of the port, and handed over, by the byte's effect
  abbrev pub by : Effect → Port
  by e =
      record {
        control = left e (next_byte p) (with_command 0 d);
        request = cond (is_kept e) (replace d.length (byte ∷ []) p.request) p.request;
        response = p.response;
      }

  abbrev handed_by_lem : Effect → List (List ℕ)
  handed_by_lem e = cond (eqb (told_length e d) 0) [] (message (told_length e d) (by e) ∷ [])

  -- outside a write phase: of the four effects that there are none is the last, and none opens one
  abbrev Fine : Effect → Type 0
  Fine e = (handed_by_lem e ≡ []) × Apart (by e)

  fine : (e : Effect) (n : ℕ) → handed_by_lem e ≡ [] → (by e).control.phase ≡ n → has n (1 ∷ 2 ∷ 3 ∷ []) ≡ false → Fine e
  fine e n nothing is other = (nothing, apart (by e) n is other)

  elsewhere : Apart p → Fine (data_effect byte d)
  elsewhere a =
      let wrong : Fine WrongCode = fine WrongCode 6 refl refl refl in
      let tells : Fine Tells = fine Tells 4 refl refl refl in
      let goes_on : Fine Continues = fine Continues 4 refl refl refl in
      let finishes : Fine Finishes = fine Finishes 0 refl refl refl in
      each_phase
      (λ q. Fine (on_data q (has_room d) (has_next d) byte))
      d.phase
      (λ _. wrong)
      (λ one. absurd (a.not_writing one))
      (λ two. absurd (a.not_ending two))
      (λ _. wrong)
      (λ _. chosen Fine (eqb byte 0x68) _ _ (λ _. chosen Fine (has_next d) _ _ (λ _. goes_on) (λ _. finishes)) (λ _. wrong))
      (λ _. chosen Fine (eqb byte 0x00) _ _ (λ _. tells) (λ _. wrong))
      wrong

  in_phase
      : (q : Phase) (phase : ℕ) (bytes : List ℕ) (kept : Effect) → Holds phase bytes p → phase_of phase ≡ q
      → ((room : Bool) → on_data q room (has_next d) byte ≡ cond room kept TooLong) → (room : Bool) → ltb (length bytes) 64 ≡ room
      → data_effect byte d ≡ cond room kept TooLong
  in_phase q phase bytes kept h is table room e =
      ap (λ (n : ℕ). on_data (phase_of n) (has_room d) (has_next d) byte) h.number
      ∙ ap (λ (r : Phase). on_data r (has_room d) (has_next d) byte) is
      ∙ table (has_room d)
      ∙ ap (λ (t : Bool). cond t kept TooLong) (ap (λ (n : ℕ). ltb n 64) h.long ∙ e)

  longer : (phase : ℕ) (bytes : List ℕ) → Holds phase bytes p → d.length + 1 ≡ length (bytes ++ (byte ∷ []))
  longer phase bytes h = ap (λ (n : ℕ). n + 1) h.long ∙ one_more bytes byte

  stored
      : (phase : ℕ) (bytes : List ℕ) (h : Holds phase bytes p)
      → replace d.length (byte ∷ []) p.request ≡ (bytes ++ (byte ∷ [])) ++ drop 1 h.tail
  stored phase bytes h =
      ap (λ (n : ℕ). replace n (byte ∷ []) p.request) h.long
      ∙ ap (λ (xs : List ℕ). replace (length bytes) (byte ∷ []) xs) h.request
      ∙ put_behind bytes h.tail byte

  -- a request that is too long is forgotten
  refused : (e : Effect) → e ≡ TooLong → (handed_by_lem e ≡ []) × Apart (by e)
  refused e is =
      (ap handed_by_lem is, apart (by e) 6 (ap (λ (f : Effect). (by f).control.phase) is) refl)

  kept_open : (bytes : List ℕ) → Holds 1 bytes p → (room : Bool) → ltb (length bytes) 64 ≡ room → (handed_by_lem (data_effect byte d) ≡ []) × Agrees (cond room (opened (bytes ++ (byte ∷ []))) none) (by (data_effect byte d))
  unfolding Agrees
  kept_open bytes h true e =
      let is = in_phase writing 1 bytes Keeps h refl (λ t. refl) true e in (
        ap handed_by_lem is,
        record {
          number = ap (λ (f : Effect). (by f).control.phase) is;
          long = ap (λ (f : Effect). (by f).control.length) is ∙ longer 1 bytes h;
          tail = drop 1 h.tail;
          request = ap (λ (f : Effect). (by f).request) is ∙ stored 1 bytes h;
        },
      )
  kept_open bytes h false e = refused (data_effect byte d) (in_phase writing 1 bytes Keeps h refl (λ t. refl) false e)

  kept_last : (bytes : List ℕ) → Holds 2 bytes p → (room : Bool) → ltb (length bytes) 64 ≡ room → (handed_by_lem (data_effect byte d) ≡ cond room ((bytes ++ (byte ∷ [])) ∷ []) []) × Agrees (cond room awaited none) (by (data_effect byte d))
  unfolding Agrees
  kept_last bytes h true e =
      let is = in_phase ending 2 bytes Completes h refl (λ t. refl) true e in
      let some : eqb (d.length + 1) 0 ≡ false = ne_eqb (d.length + 1) 0 (λ f. omega (arith, f)) in (
        ap handed_by_lem is
            ∙ ap (λ (t : Bool). cond t [] (message (d.length + 1) (by Completes) ∷ [])) some
            ∙ ap (λ (xs : List ℕ). take (d.length + 1) xs ∷ []) (stored 2 bytes h)
            ∙ ap (λ (xs : List ℕ). xs ∷ []) (take_at (bytes ++ (byte ∷ [])) (drop 1 h.tail) (d.length + 1) (sym (longer 2 bytes h))),
        ap (λ (f : Effect). (by f).control.phase) is,
      )
  kept_last bytes h false e = refused (data_effect byte d) (in_phase ending 2 bytes Completes h refl (λ t. refl) false e)

  datum : (r : Request) → Agrees r p → (handed (write_data byte) p ≡ completed byte r) × Agrees (added byte r) (data_written byte p)
  unfolding Agrees
  datum none a = elsewhere a
  datum (opened bytes) a = kept_open bytes a (ltb (length bytes) 64) refl
  datum (closing bytes) a = kept_last bytes a (ltb (length bytes) 64) refl
  datum awaited a =
      let wrong = ap (λ (n : ℕ). on_data (phase_of n) (has_room d) (has_next d) byte) a in
      (ap handed_by_lem wrong, apart (by (data_effect byte d)) 6 (ap (λ (f : Effect). (by f).control.phase) wrong) refl)

-- ---- an answer

-- none is taken in any other phase
unanswered : (response : List ℕ) (p : Port) → eqb p.control.phase 3 ≡ false → answered response p ≡ p
unanswered response p other = (untaken response p (both_fail (leb (length response) 64) (eqb p.control.phase 3) other)).1

after_answer_lem : (response : List ℕ) (r : Request) (p : Port) → Agrees r p → Agrees (replied response r) (answered response p)
unfolding Agrees
after_answer_lem response none p a = subst Apart (sym (unanswered response p (ne_eqb p.control.phase 3 a.not_awaiting))) a
after_answer_lem response (opened bytes) p a = subst (Holds 1 bytes) (sym (unanswered response p (ap (λ (n : ℕ). eqb n 3) a.number))) a
after_answer_lem response (closing bytes) p a = subst (Holds 2 bytes) (sym (unanswered response p (ap (λ (n : ℕ). eqb n 3) a.number))) a
after_answer_lem response awaited p a = by_length (leb (length response) 64) refl
  where
    three : eqb p.control.phase 3 ≡ true
    three = eq-eqb p.control.phase 3 a

    by_length : (short : Bool) → leb (length response) 64 ≡ short → Agrees (cond short none awaited) (answered response p)
    by_length true short =
        rw (short, three)
        (chosen
        (λ (k : Control). Apart record { control = k; request = p.request; response = replace 0 response p.response })
        (eqb (length response) 0)
        _
        _
        (λ _. apart _ 0 refl refl)
        (λ _. apart _ 4 refl refl))
    by_length false short = rw short a

-- ---- a step, and any list of them

step_agrees : (step : Step) (r : Request) (p : Port) → Agrees r p → (handed_by step p ≡ message_of step r) × Agrees (request_after step r) (stepped step p)
unfolding Agrees
step_agrees (access read_status) r p a = (refl, a)
step_agrees (access read_data) none p a =
    (refl, record { not_writing = a.not_writing; not_ending = a.not_ending; not_awaiting = a.not_awaiting })
step_agrees (access read_data) awaited p a = (refl, a)
step_agrees (access read_data) (opened bytes) p a = (refl, record { number = a.number; long = a.long; tail = a.tail; request = a.request })
step_agrees (access read_data) (closing bytes) p a = (refl, record { number = a.number; long = a.long; tail = a.tail; request = a.request })
step_agrees (access (write_command code)) r p a = (refl, commanded p code r a)
step_agrees (access (write_data byte)) r p a = datum p byte r a
step_agrees (answer response) r p a = (refl, after_answer_lem response r p a)

all_agree : (steps : List Step) (r : Request) (p : Port) → Agrees r p → handed_in steps p ≡ messages_of steps r
all_agree [] r p a = refl
all_agree (step ∷ rest) r p a =
    let now = step_agrees step r p a in
    ap (λ (first : List (List ℕ)). first ++ handed_in rest (stepped step p)) now.0
    ∙ ap (λ (more : List (List ℕ)). message_of step r ++ more) (all_agree rest (request_after step r) (stepped step p) now.1)

outside : (p : Port) → Outside p → Agrees none p
unfolding Agrees
outside p o =
    record {
      not_writing = λ e. o.not_writing (ap phase_of e);
      not_ending = λ e. o.not_ending (ap phase_of e);
      not_awaiting = λ e. o.not_awaiting (ap phase_of e);
    }

pub messages_exact : MessagesExact
messages_exact steps p o = all_agree steps none p (outside p o)

-- ---- whether an answer is awaited

still_agree : (steps : List Step) (r : Request) (p : Port) → Agrees r p → Agrees (requests_after steps r) (stepped_all steps p)
still_agree [] r p a = a
still_agree (step ∷ rest) r p a = still_agree rest (request_after step r) (stepped step p) (step_agrees step r p a).1

awaits : (r : Request) (q : Port) → Agrees r q → eqb q.control.phase 3 ≡ is_awaited r
unfolding Agrees
awaits none q a = ne_eqb q.control.phase 3 a.not_awaiting
awaits (opened bytes) q a = ap (λ (n : ℕ). eqb n 3) a.number
awaits (closing bytes) q a = ap (λ (n : ℕ). eqb n 3) a.number
awaits awaited q a = eq-eqb q.control.phase 3 a

exchanged : (a b : Bool) → (a && b) ≡ (b && a)
exchanged true true = refl
exchanged true false = refl
exchanged false true = refl
exchanged false false = refl

pub answers_exact : AnswersExact
answers_exact steps response p o =
    let q = stepped_all steps p in
    exchanged (leb (length response) 64) (eqb q.control.phase 3)
    ∙ ap (λ (t : Bool). t && leb (length response) 64) (awaits (requests_after steps none) q (still_agree steps none p (outside p o)))
