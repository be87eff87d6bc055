-- The published write, whole and from every port.
use mathlib.Core.Path.{◌≡◌, refl, sym, ap, ◌∙◌}
use mathlib.Core.Bool.{Bool, true, false, cond}
use mathlib.Core.List.{List, [], ◌∷◌}
use mathlib.Core.Logic.{⊎_elim}
use Prim.Native.Nat.{ℕ, ◌≤◌}
use native.Mathlib.Omega.{arith}
use lib.ListN.{length}
use Rattle.units.proofs.Cases.{decided}
use Rattle.kcs.specs.Port.{Port, phase_of, is_set}
use Rattle.kcs.specs.Accesses.{status_read, data_read}
use Rattle.kcshost.specs.Runs.{Access, read_data, write_command, accessed_all, counted_all}
use Rattle.kcshost.specs.Host.{Transfer, begin, clear_obf, does, put, write_bytes, write_transfer}
use Rattle.kcshost.specs.Transfers.{Written, PublishedWrite}
use Rattle.kcshost.proofs.Boxes.{no_wait, cleared, is_clear}
use Rattle.kcshost.proofs.Looks.{counted_hands, counted_append, made_leaves}
use Rattle.kcshost.proofs.Sending.{sending, after, at, port, Hands, hands_later, write_bytes_lem, sent_all, sending_hands}

module _ (byte : ℕ) (bytes : List ℕ) (p : Port) (fits : length (byte ∷ bytes) ≤ 64) where
  -- OBF is cleared first where it is set
  opening : Bool → List Access
  opening full = cond full (read_data ∷ write_command 0x61 ∷ sending (byte ∷ bytes)) (write_command 0x61 ∷ sending (byte ∷ bytes))

  starts : put (write_command 0x61) (write_bytes (byte ∷ bytes)) (begin p) ≡ after (opening false) (begin p)
  unfolding opening
  starts =
      no_wait (does (write_command 0x61) (write_bytes (byte ∷ bytes))) (begin p)
      ∙ write_bytes_lem p.control.next p.control.end p.response [] byte bytes 1 [] p.request (write_command 0x61 ∷ []) (omega (arith, fits))

  clears : does read_data (put (write_command 0x61) (write_bytes (byte ∷ bytes))) (begin p) ≡ after (opening true) (begin p)
  unfolding opening
  clears =
      no_wait (does (write_command 0x61) (write_bytes (byte ∷ bytes))) (at (data_read p) (read_data ∷ []) [])
      ∙ write_bytes_lem p.control.next p.control.end p.response [] byte bytes 1 [] p.request (read_data ∷ write_command 0x61 ∷ []) (omega (arith, fits))

  made : write_transfer (byte ∷ bytes) (begin p) ≡ after (opening (is_set p.control.full)) (begin p)
  made =
      let start = put (write_command 0x61) (write_bytes (byte ∷ bytes)) in
      no_wait (clear_obf start) (begin p)
      ∙ ⊎_elim
      (λ (set : is_set p.control.full ≡ true).
      cleared start (begin p) set ∙ clears ∙ ap (λ (t : Bool). after (opening t) (begin p)) (sym set))
      (λ (clear : is_set p.control.full ≡ false).
      is_clear start (begin p) clear ∙ starts ∙ ap (λ (t : Bool). after (opening t) (begin p)) (sym clear))
      (decided (is_set p.control.full))

  hands : (full : Bool) → Hands (byte ∷ bytes) (opening full) p
  unfolding opening
  hands true =
      hands_later (byte ∷ bytes) read_data (write_command 0x61 ∷ sending (byte ∷ bytes)) p refl
      (hands_later (byte ∷ bytes) (write_command 0x61) (sending (byte ∷ bytes)) (data_read p) refl
      (sending_hands p.control.next p.control.end p.response byte bytes 1 [] p.request (omega (arith, fits))))
  hands false =
      hands_later (byte ∷ bytes) (write_command 0x61) (sending (byte ∷ bytes)) p refl
      (sending_hands p.control.next p.control.end p.response byte bytes 1 [] p.request (omega (arith, fits)))

  left : (full : Bool) → (rest : List ℕ) × (accessed_all (opening full) p ≡ port 3 0 0 (byte ∷ bytes) rest p.control.next p.control.end p.response)
  unfolding opening
  left true = sent_all p.control.next p.control.end p.response byte bytes 1 [] p.request (omega (arith, fits))
  left false = sent_all p.control.next p.control.end p.response byte bytes 1 [] p.request (omega (arith, fits))

  -- the port that it leaves
  pub written_port
      : (rest : List ℕ) × ((write_transfer (byte ∷ bytes) (begin p)).port ≡ port 3 0 0 (byte ∷ bytes) rest p.control.next p.control.end p.response)
  written_port =
      let l = left (is_set p.control.full) in
      (l.0, ap (λ (t : Transfer). t.port) made ∙ l.1)

  pub written : Written (byte ∷ bytes) p
  written =
      record {
        chart = ap (λ (t : Transfer). t.met) made;
        status = ap (λ (q : Port). status_read q) written_port.1;
        phase = ap (λ (q : Port). phase_of q.control.phase) written_port.1;
        message =
            λ accesses makes front back cut.
            sym (counted_hands front p)
            ∙ hands (is_set p.control.full) (counted_all front) (counted_all back)
            (sym (counted_append front back) ∙ ap counted_all cut ∙ makes ∙ ap (λ (t : Transfer). t.made) made);
        leaves =
            λ accesses makes.
            made_leaves accesses (opening (is_set p.control.full)) p (write_transfer (byte ∷ bytes) (begin p)).port
            (makes ∙ ap (λ (t : Transfer). t.made) made)
            (sym (ap (λ (t : Transfer). t.port) made));
      }

pub published_write : PublishedWrite
published_write [] p some fits = absurd (omega (arith, some))
published_write (byte ∷ bytes) p some fits = written byte bytes p fits
