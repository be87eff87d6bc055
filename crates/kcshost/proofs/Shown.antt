-- A response is shown byte by byte, whether the host reads each byte or not.
use mathlib.Core.Path.{◌≡◌, refl, sym, ap, subst, ◌∙◌}
use mathlib.Core.Bool.{Bool, true, cond, false≢true}
use mathlib.Core.List.{List, [], ◌∷◌}
use mathlib.Core.Logic.{⊎_elim, inl}
use Prim.Native.Nat.{ℕ, suc, ◌+◌, ◌≤◌, ◌<◌}
use native.Mathlib.Omega.{arith}
use lib.Dec.{eqb, ltb}
use lib.ListN.{length, get_or, drop, get_or-append, get_or-eq_default}
use borrow.Author.Tests.{eqb-true, lt-ltb, le-ltb}
use Rattle.units.proofs.Cases.{both, below_or}
use Rattle.buffers.specs.Ranges.{replace}
use Rattle.kcs.specs.Port.{Port, phase_of}
use Rattle.kcs.specs.Effects.{Effect, Continues, Finishes, on_data, has_room, has_next}
use Rattle.kcs.specs.Accesses.{status_read, byte_read, data_read, data_written, answered}
use Rattle.kcshost.specs.Runs.{Access, read_status, read_data, write_command, write_data, accessed_all}
use Rattle.kcshost.specs.Host.{state_seen}
use Rattle.kcshost.specs.History.{only_reads, reads_of, ShownInOrder}
use Rattle.kcshost.proofs.Messages.{by}
use Rattle.kcshost.proofs.Reading.{answered_some}
use Rattle.kcshost.proofs.Rows.{data_taken}

module _ (response old : List ℕ) (fits : length response ≤ 64) where
  -- byte k was put out last
  record Showing (k : ℕ) (q : Port) : Type 0 where
    phase : q.control.phase ≡ 4
    next : q.control.next ≡ suc k
    end : q.control.end ≡ length response
    stored : q.response ≡ replace 0 response old

  read_on_lem : (k : ℕ) (q : Port) → Showing k q → Showing k (data_read q)
  read_on_lem k q s = record { phase = s.phase; next = s.next; end = s.end; stored = s.stored }

  -- READ, before the last byte
  asked : (k : ℕ) (q : Port) → Showing k q → suc k < length response → Showing (suc k) (data_written 0x68 q)
  asked k q s more =
      let c = q.control in
      let has : has_next c ≡ true = rw (lt-ltb c.next c.end (omega (arith, s.next, s.end, more)), lt-ltb c.next 64 (omega (arith, s.next, more, fits))) in
      let row
      : on_data (phase_of c.phase) (has_room c) (has_next c) 0x68 ≡ Continues =
      ap (λ (n : ℕ). on_data (phase_of n) (has_room c) (has_next c) 0x68) s.phase ∙ ap (λ (t : Bool). cond t Continues Finishes) has in
      let next : c.next + 1 ≡ suc (suc k) = omega (arith, s.next) in
      record {
        phase = ap (λ (e : Effect). (by q 0x68 e).control.phase) row;
        next = ap (λ (e : Effect). (by q 0x68 e).control.next) row ∙ next;
        end = ap (λ (e : Effect). (by q 0x68 e).control.end) row ∙ s.end;
        stored = s.stored;
      }

  all_shown
      : (accesses : List Access) (k : ℕ) (q : Port) → Showing k q → only_reads accesses ≡ true → k + reads_of accesses < length response
      → Showing (k + reads_of accesses) (accessed_all accesses q)
  all_shown [] k q s only below =
      let here : k ≡ k + 0 = omega arith in
      subst (λ (n : ℕ). Showing n q) here s
  all_shown (read_status ∷ rest) k q s only below = all_shown rest k q s only below
  all_shown (read_data ∷ rest) k q s only below = all_shown rest k (data_read q) (read_on_lem k q s) only below
  all_shown (write_command code ∷ rest) k q s only below = absurd (false≢true only)
  all_shown (write_data byte ∷ rest) k q s only below =
      let reads = both (eqb byte 0x68) (only_reads rest) only in
      let is : byte ≡ 0x68 = eqb-true byte 0x68 reads.0 in
      let further : suc k + reads_of rest ≡ k + suc (reads_of rest) = omega arith in
      subst
      (λ (n : ℕ). Showing n (accessed_all rest (data_written byte q)))
      further
      (all_shown rest (suc k) (data_written byte q)
      (subst (λ (b : ℕ). Showing (suc k) (data_written b q)) (sym is) (asked k q s (omega (arith, below))))
      reads.1
      (omega (arith, below)))

  one_more
      : (k : ℕ) (q : Port) → Showing k q → k < length response
      → (byte_read (data_written 0x68 q) ≡ get_or response (suc k) 0x00) × (state_seen (status_read (data_written 0x68 q)) ≡ cond (ltb (suc k) (length response)) 1 0)
  one_more k q s below =
      let c = q.control in
      let table = data_taken 0x68 q in
      ⊎_elim
      (λ (more : suc k < length response).
      let shows = table.next (ap phase_of s.phase) refl (omega (arith, s.next, s.end, more)) (omega (arith, s.next, more, fits)) in
      let place : get_or q.response c.next 0 ≡ get_or (replace 0 response old) (suc k) 0 = rw (s.stored, s.next) in (
        shows.2 ∙ place ∙ get_or-append response (drop (0 + length response) old) 0 (suc k) more,
        shows.0 ∙ sym (ap (λ (t : Bool). cond t 1 0) (lt-ltb (suc k) (length response) more)),
      ))
      (λ (none : length response ≤ suc k).
      let shows = table.finished (ap phase_of s.phase) refl (inl (omega (arith, s.next, s.end, none))) in (
        shows.2 ∙ sym (get_or-eq_default response 0 none),
        shows.0 ∙ sym (ap (λ (t : Bool). cond t 1 0) (le-ltb (suc k) (length response) none)),
      ))
      (below_or (suc k) (length response))

pub shown_in_order : ShownInOrder
shown_in_order [] accesses p waits fits only below = absurd (omega (arith, below))
shown_in_order (byte ∷ rest) accesses p waits fits only below =
    let response = byte ∷ rest in
    let start
    : Showing response p.response fits 0 (answered response p) =
    subst
    (λ (q : Port). Showing response p.response fits 0 q)
    (sym (answered_some byte rest p waits fits))
    (record { phase = refl; next = refl; end = refl; stored = refl }) in
    let zero_first : 0 + reads_of accesses ≡ reads_of accesses = omega arith in
    let now = all_shown response p.response fits accesses 0 (answered response p) start only (omega (arith, below)) in
    one_more response p.response fits (reads_of accesses) (accessed_all accesses (answered response p))
    (subst (λ (n : ℕ). Showing response p.response fits n (accessed_all accesses (answered response p))) zero_first now)
    below
