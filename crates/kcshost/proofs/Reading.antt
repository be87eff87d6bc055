-- The published read of an answer, whole; the exchange; and where an answer meets a host that waits for it.
use mathlib.Core.Path.{◌≡◌, refl, sym, ap, subst, ◌∙◌}
use mathlib.Core.Bool.{Bool, true, false, false≢true}
use mathlib.Core.List.{List, [], ◌∷◌, ◌++◌}
use Prim.Native.Nat.{ℕ, zero, suc, ◌+◌, ◌≤◌, ◌<◌}
use native.Mathlib.Omega.{arith}
use lib.Dec.{eqb}
use lib.ListN.{length, get_or, drop, get_or-append}
use borrow.Author.Tests.{le-leb, eq-eqb, ne_eqb}
use Rattle.buffers.specs.Ranges.{replace}
use Rattle.kcs.specs.Port.{Port, Phase, idle, writing, ending, awaiting, reading, aborting, failed, phase_of, state_bits, is_set}
use Rattle.kcs.specs.Accesses.{status_read, after_answer, answered}
use Rattle.kcs.proofs.Phases.{each_phase}
use Rattle.kcshost.specs.Runs.{Access, read_data, accessed_all, out_of_all}
use Rattle.kcshost.specs.Host.{state_seen, obf_seen, ends, Transfer, begin, write_transfer, read_transfer}
use Rattle.kcshost.specs.Transfers.{Read, PublishedRead, PublishedExchange}
use Rattle.kcshost.proofs.Looks.{made_leaves, made_reads}
use Rattle.kcshost.proofs.Boxes.{state_seen_lem, obf_seen_lem}
use Rattle.kcshost.proofs.Writing.{published_write}
use Rattle.kcshost.proofs.Receiving.{giving, receiving, Left, read_bytes, read_leaves, read_gets, concluded}

-- ---- the answer is taken

is_awaiting : Phase → Bool
is_awaiting idle = false
is_awaiting writing = false
is_awaiting ending = false
is_awaiting awaiting = true
is_awaiting reading = false
is_awaiting aborting = false
is_awaiting failed = false

pub awaited : (n : ℕ) → phase_of n ≡ awaiting → eqb n 3 ≡ true
unfolding is_awaiting
awaited n e =
    each_phase
    (λ q. is_awaiting q ≡ true → eqb n 3 ≡ true)
    n
    (λ _ f. absurd (false≢true f))
    (λ _ f. absurd (false≢true f))
    (λ _ f. absurd (false≢true f))
    (λ three _. eq-eqb n 3 three)
    (λ _ f. absurd (false≢true f))
    (λ _ f. absurd (false≢true f))
    (λ f. absurd (false≢true f))
    (ap is_awaiting e)

module _ (response : List ℕ) (p : Port) (waits : phase_of p.control.phase ≡ awaiting) (fits : length response ≤ 64) where
  pub answered_is
      : answered response p
      ≡ record {
        control = after_answer (length response) (get_or response 0 0) p.control;
        request = p.request;
        response = replace 0 response p.response;
      }
  answered_is = rw (le-leb (length response) 64 fits, awaited p.control.phase waits)

-- ---- the chart

-- what there is to say of it, from the accesses that it makes
module _
    (response : List ℕ)
    (turns : ℕ)
    (q : Port)
    (made : List Access)
    (done : read_transfer turns (begin q) ≡ record { port = accessed_all made q; made = made; got = response; met = ends })
    (rests : (state_bits (phase_of (accessed_all made q).control.phase) ≡ 0) × (is_set (accessed_all made q).control.full ≡ false))
    (gets : out_of_all made q ≡ response ++ (0x00 ∷ []))
  where
    read_of : Read response turns q
    read_of =
        let t = read_transfer turns (begin q) in
        let port : t.port ≡ accessed_all made q = ap (λ (u : Transfer). u.port) done in
        let all : t.made ≡ made = ap (λ (u : Transfer). u.made) done in
        record {
          chart = ap (λ (u : Transfer). u.met) done;
          got = ap (λ (u : Transfer). u.got) done;
          state = ap (λ (r : Port). state_seen (status_read r)) port ∙ state_seen_lem (accessed_all made q) ∙ rests.0;
          clear = ap (λ (r : Port). obf_seen (status_read r)) port ∙ obf_seen_lem (accessed_all made q) ∙ rests.1;
          bytes = λ accesses makes. made_reads accesses made q (response ++ (0x00 ∷ [])) (makes ∙ all) gets;
          leaves = λ accesses makes. made_leaves accesses made q t.port (makes ∙ all) (sym port);
        }

module _ (p : Port) where
  -- an empty response
  abbrev pub quiet : Port
  quiet = giving 0 p.control.command 0 0 p.control.length p.control.next p.control.end p.request (replace 0 [] p.response)

  empty : (turns : ℕ) → Read [] (suc turns) quiet
  empty turns =
      read_of
      []
      (suc turns)
      quiet
      (read_data ∷ [])
      (concluded p.control.length p.request (replace 0 [] p.response) p.control.command 0 p.control.next p.control.end [] [] turns)
      (refl, refl)
      refl

  -- a response of one byte or more
  abbrev pub shown : ℕ → List ℕ → Port
  shown byte rest =
      giving 4 p.control.command byte p.control.fault p.control.length 1 (length (byte ∷ rest)) p.request (replace 0 (byte ∷ rest) p.response)

  behind : (byte : ℕ) (rest : List ℕ) → Left p.control.length p.request (replace 0 (byte ∷ rest) p.response) rest 1 (length (byte ∷ rest))
  behind byte rest = (
    omega arith,
    λ j below.
        let place : 1 + j ≡ suc j = omega arith in
        ap (λ (n : ℕ). get_or (replace 0 (byte ∷ rest) p.response) n 0) place
        ∙ get_or-append rest (drop (0 + length (byte ∷ rest)) p.response) 0 j below,
  )

  some : (byte : ℕ) (rest : List ℕ) (turns : ℕ) → length (byte ∷ rest) ≤ 64 → length (byte ∷ rest) < turns → Read (byte ∷ rest) turns (shown byte rest)
  some byte rest turns fits enough =
      let c = p.control in
      let stored = replace 0 (byte ∷ rest) p.response in
      let left = behind byte rest in
      let rests = (read_leaves c.length p.request stored rest c.command byte c.fault 1 (length (byte ∷ rest)) left fits).1 in
      read_of
      (byte ∷ rest)
      turns
      (shown byte rest)
      (receiving rest)
      (read_bytes c.length p.request stored rest c.command byte c.fault 1 (length (byte ∷ rest)) [] [] turns left fits (omega (arith, enough))) (
        ap (λ (r : Port). state_bits (phase_of r.control.phase)) rests,
        ap (λ (r : Port). is_set r.control.full) rests,
      )
      (read_gets c.length p.request stored rest c.command byte c.fault 1 (length (byte ∷ rest)) left fits)

pub answered_some
    : (byte : ℕ) (rest : List ℕ) (p : Port) → phase_of p.control.phase ≡ awaiting → length (byte ∷ rest) ≤ 64 → answered (byte ∷ rest) p ≡ shown p byte rest
answered_some byte rest p waits fits =
    let has : eqb (length (byte ∷ rest)) 0 ≡ false = ne_eqb (length (byte ∷ rest)) 0 (λ e. omega (arith, e)) in
    answered_is (byte ∷ rest) p waits fits ∙ rw has

pub published_read : PublishedRead
published_read response zero p waits fits enough = absurd (omega (arith, enough))
published_read [] (suc turns) p waits fits enough = subst (λ (q : Port). Read [] (suc turns) q) (sym (answered_is [] p waits fits)) (empty p turns)
published_read (byte ∷ rest) (suc turns) p waits fits enough =
    subst (λ (q : Port). Read (byte ∷ rest) (suc turns) q) (sym (answered_some byte rest p waits fits)) (some p byte rest (suc turns) fits enough)

-- ---- the exchange

pub published_exchange : PublishedExchange
published_exchange bytes response turns p one most fits enough =
    let w = published_write bytes p one most in
    (w, published_read response turns (write_transfer bytes (begin p)).port w.phase fits enough)
