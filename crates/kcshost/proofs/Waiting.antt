-- A host that waits for the answer: until it comes, and when it does.
use mathlib.Core.Path.{◌≡◌, refl, sym, ap, ◌∙◌}
use mathlib.Core.Bool.{true, false}
use mathlib.Core.List.{[], ◌∷◌}
use Prim.Native.Nat.{ℕ, zero, suc, ◌/◌}
use native.Mathlib.Omega.{arith}
use lib.Dec.{eqb}
use Rattle.kcs.specs.Port.{Port, phase_of, state_bits, is_set}
use Rattle.kcs.specs.Accesses.{data_read, answered}
use Rattle.buffers.specs.Ranges.{replace}
use Rattle.kcshost.specs.Runs.{read_data, write_data}
use Rattle.kcshost.specs.Host.{obf_seen, ends, error_exit, waits, Chart, Transfer, begin, leaves, receive, does, put, wait_obf, if_reading, conclude, read_transfer, read_on}
use Rattle.kcshost.specs.Transfers.{ReadWaits, ReadGoesOn, EmptyRaces}
use Rattle.kcshost.proofs.Boxes.{state_seen_lem, obf_seen_lem, no_wait, no_longer_waits, still_waits, reads, reads_no_more, unexpected}
use Rattle.kcshost.proofs.Sending.{at}
use Rattle.kcshost.proofs.Reading.{quiet, answered_is, answered_some}
use Rattle.kcshost.proofs.Receiving.{giving}

-- a byte of the response, and READ for the next
abbrev byte_read_lem : ℕ → Chart
byte_read_lem turns = receive (put (write_data 0x68) (λ u. read_transfer turns u))

pub read_waits : ReadWaits
read_waits zero p status some = absurd (omega (arith, some))
read_waits (suc turns) p status some =
    let state : eqb (state_bits (phase_of p.control.phase)) 1 ≡ true = ap (λ (n : ℕ). eqb n 1) (sym (state_seen_lem p)) ∙ ap (λ (s : ℕ). eqb (s / 64) 1) status in
    let clear : is_set p.control.full ≡ false = sym (obf_seen_lem p) ∙ ap obf_seen status in
    let stays
    : read_transfer (suc turns) (begin p) ≡ leaves waits (begin p) =
    no_wait (if_reading (wait_obf (byte_read_lem turns)) conclude) (begin p)
    ∙ reads (wait_obf (byte_read_lem turns)) conclude (begin p) state
    ∙ still_waits (byte_read_lem turns) (begin p) clear in
    (ap (λ (t : Transfer). t.met) stays, ap (λ (t : Transfer). t.made) stays)

pub read_goes_on : ReadGoesOn
read_goes_on [] turns p awaits some fits = absurd (omega (arith, some))
read_goes_on (byte ∷ rest) turns p awaits some fits =
    let q = answered (byte ∷ rest) p in
    let reading
    : eqb (state_bits (phase_of q.control.phase)) 1 ≡ true =
    ap (λ (r : Port). eqb (state_bits (phase_of r.control.phase)) 1) (answered_some byte rest p awaits fits) in
    sym (no_wait (if_reading (wait_obf (byte_read_lem turns)) conclude) (begin q) ∙ reads (wait_obf (byte_read_lem turns)) conclude (begin q) reading)

pub empty_races : EmptyRaces
empty_races turns p awaits =
    let c = p.control in
    let broken = giving 6 0 0 2 c.length c.next c.end p.request (replace 0 [] p.response) in
    let t = at broken (read_data ∷ write_data 0x68 ∷ []) (0 ∷ []) in
    let exits
    : read_on (suc turns) (begin (answered [] p)) ≡ leaves error_exit t =
    ap (λ (q : Port). read_on (suc turns) (begin q)) (answered_is [] p awaits (omega arith))
    ∙ no_longer_waits (receive (put (write_data 0x68) (read_transfer (suc turns)))) (begin (quiet p)) refl
    ∙ no_wait (does (write_data 0x68) (read_transfer (suc turns))) (at (data_read (quiet p)) (read_data ∷ []) (0 ∷ []))
    ∙ no_wait (if_reading (wait_obf (byte_read_lem turns)) conclude) t
    ∙ reads_no_more (wait_obf (byte_read_lem turns)) conclude t refl
    ∙ unexpected (wait_obf (does read_data (leaves ends))) t 0 refl in
    record {
      chart = ap (λ (u : Transfer). u.met) exits;
      got = ap (λ (u : Transfer). u.got) exits;
      fault = ap (λ (u : Transfer). u.port.control.fault) exits;
    }
