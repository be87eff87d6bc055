-- The published recovery, from every port.
use mathlib.Core.Path.{◌≡◌, refl, sym, ap, ◌∙◌}
use mathlib.Core.List.{List, [], ◌∷◌}
use Prim.Native.Nat.{ℕ}
use native.Mathlib.Omega.{arith}
use Rattle.kcs.specs.Port.{Port, fresh}
use Rattle.kcs.specs.Accesses.{status_read, data_read, data_written}
use Rattle.kcshost.specs.Runs.{Access, read_data, write_command, write_data, accessed_all, out_of_all, stepped_all}
use Rattle.kcshost.specs.Host.{ends, Transfer, begin, leaves, does, put, wait_ibf, wait_obf, clear_obf, expect, receive, conclude, receive_status, request_status, recovery}
use Rattle.kcshost.specs.Transfers.{Recovered, PublishedRecovery, RecoveryNamed}
use Rattle.kcshost.proofs.Boxes.{no_wait, as_expected, cleared, no_longer_waits}
use Rattle.kcshost.proofs.Looks.{made_leaves, made_reads}
use Rattle.kcshost.proofs.Naming.{status_named}
use Rattle.kcshost.proofs.Sending.{at}
use Rattle.kcshost.proofs.Receiving.{giving, finishes}

module _ (p : Port) where
  abbrev with_phase : (phase command output next end : ℕ) → Port
  with_phase phase command output next end = giving phase command output p.control.fault p.control.length next end p.request p.response

  -- after 60; after 00; and after READ
  abbrev aborted : Port
  aborted = with_phase 5 1 0 p.control.next p.control.end

  abbrev told : Port
  told = with_phase 4 0 p.control.fault p.control.next 0

  abbrev rested : Port
  rested = giving 0 0 0 0 p.control.length p.control.next 0 p.request p.response

  abbrev six : List Access
  six = write_command 0x60 ∷ read_data ∷ write_data 0x00 ∷ read_data ∷ write_data 0x68 ∷ read_data ∷ []

  finished : data_written 0x68 (data_read told) ≡ rested
  finished = finishes p.control.length p.request p.response 0 p.control.fault p.control.fault p.control.next 0 (omega arith)

  left : accessed_all six p ≡ data_read rested
  left = ap data_read finished

  gets : out_of_all six p ≡ 0x00 ∷ p.control.fault ∷ 0x00 ∷ []
  gets = ap (λ (q : Port). 0x00 ∷ p.control.fault ∷ out_of_all (read_data ∷ []) q) finished

  charted : recovery (begin p) ≡ record { port = accessed_all six p; made = six; got = p.control.fault ∷ []; met = ends }
  charted =
      let one = at aborted (write_command 0x60 ∷ []) [] in
      let two = at told (write_command 0x60 ∷ read_data ∷ write_data 0x00 ∷ []) [] in
      let five = write_command 0x60 ∷ read_data ∷ write_data 0x00 ∷ read_data ∷ write_data 0x68 ∷ [] in
      let three = at rested five (p.control.fault ∷ []) in
      let read = receive (put (write_data 0x68) (wait_ibf conclude)) in
      no_wait (does (write_command 0x60) request_status) (begin p)
      ∙ no_wait (expect 2 (clear_obf (put (write_data 0x00) receive_status))) one
      ∙ as_expected (clear_obf (put (write_data 0x00) receive_status)) one 2 refl
      ∙ cleared (put (write_data 0x00) receive_status) one refl
      ∙ no_wait (does (write_data 0x00) receive_status) (at (data_read aborted) (write_command 0x60 ∷ read_data ∷ []) [])
      ∙ no_wait (expect 1 (wait_obf read)) two
      ∙ as_expected (wait_obf read) two 1 refl
      ∙ no_longer_waits read two refl
      ∙ no_wait (does (write_data 0x68) (wait_ibf conclude)) (at (data_read told) (write_command 0x60 ∷ read_data ∷ write_data 0x00 ∷ read_data ∷ []) (p.control.fault ∷ []))
      ∙ ap (λ (q : Port). wait_ibf conclude (at q five (p.control.fault ∷ []))) finished
      ∙ no_wait conclude three
      ∙ as_expected (wait_obf (does read_data (leaves ends))) three 0 refl
      ∙ no_longer_waits (does read_data (leaves ends)) three refl
      ∙ ap (λ (q : Port). record { port = q; made = six; got = p.control.fault ∷ []; met = ends }) (sym left)

  recovered : Recovered p
  recovered =
      let t = recovery (begin p) in
      let port : t.port ≡ accessed_all six p = ap (λ (u : Transfer). u.port) charted in
      let made : t.made ≡ six = ap (λ (u : Transfer). u.made) charted in
      record {
        chart = ap (λ (u : Transfer). u.met) charted;
        six = rw made (omega arith);
        status = ap status_read (port ∙ left);
        got = ap (λ (u : Transfer). u.got) charted;
        bytes = λ accesses makes. made_reads accesses six p (0x00 ∷ p.control.fault ∷ 0x00 ∷ []) (makes ∙ made) gets;
        leaves = λ accesses makes. made_leaves accesses six p t.port (makes ∙ made) (sym port);
      }

pub published_recovery : PublishedRecovery
published_recovery = recovered

pub recovery_named : RecoveryNamed
unfolding fresh
recovery_named steps = (recovered (stepped_all steps fresh)).got ∙ ap (λ (s : ℕ). s ∷ []) (status_named steps fresh)
