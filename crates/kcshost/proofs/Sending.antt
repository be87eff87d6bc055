-- The published write: the port in the write phase, byte by byte, and the message that its last access hands over.
use mathlib.Core.Path.{◌≡◌, refl, sym, ap, subst, ◌∙◌}
use mathlib.Core.Bool.{Bool, false, cond, true≢false}
use mathlib.Core.List.{List, [], ◌∷◌, ◌++◌, append_assoc}
use Prim.Native.Nat.{ℕ, ◌+◌, ◌≤◌, ◌<◌}
use native.Mathlib.Omega.{arith}
use lib.Dec.{eqb}
use lib.ListN.{length, drop, length-append}
use lib.Seq.{take_at, drop-append-add}
use borrow.Author.Tests.{lt-ltb, ne_eqb}
use Rattle.buffers.specs.Ranges.{replace}
use Rattle.kcs.specs.Port.{Port}
use Rattle.kcs.specs.Accesses.{data_read, data_written, length_told, message}
use Rattle.kcshost.specs.Runs.{Access, read_data, write_command, write_data, accessed, accessed_all, handed, handed_all, is_none}
use Rattle.kcshost.specs.Host.{goes, ends, Transfer, leaves, does, put, wait_ibf, clear_obf, expect, write_bytes}
use Rattle.kcshost.proofs.Boxes.{no_wait, as_expected, cleared}

-- ---- the port in the write phase, with the bytes that were sent at the front of the request

-- a port in this phase, with OBF set on 00 or clear
abbrev pub port : (phase command full : ℕ) (sent tail : List ℕ) (next end : ℕ) → List ℕ → Port
port phase command full sent tail next end response =
    record {
      control =
          record { phase = phase; command = command; full = full; output = 0; fault = 1; length = length sent; next = next; end = end };
      request = sent ++ tail;
      response = response;
    }

-- one byte more
pub one_more : (sent : List ℕ) (byte : ℕ) → length sent + 1 ≡ length (sent ++ (byte ∷ []))
one_more sent byte = sym (length-append sent (byte ∷ []))

pub put_behind : (sent tail : List ℕ) (byte : ℕ) → replace (length sent) (byte ∷ []) (sent ++ tail) ≡ (sent ++ (byte ∷ [])) ++ drop 1 tail
put_behind sent tail byte =
    ap (λ (front : List ℕ). front ++ ((byte ∷ []) ++ drop (length sent + 1) (sent ++ tail))) (take_at sent tail (length sent) refl)
    ∙ ap (λ (back : List ℕ). sent ++ ((byte ∷ []) ++ back)) (drop-append-add sent tail 1)
    ∙ sym (append_assoc sent (byte ∷ []) (drop 1 tail))

module _ (command : ℕ) (sent tail : List ℕ) (next end : ℕ) (response : List ℕ) (byte : ℕ) (room : length sent < 64) where
  kept : data_written byte (data_read (port 1 command 1 sent tail next end response)) ≡ port 1 0 1 (sent ++ (byte ∷ [])) (drop 1 tail) next end response
  kept =
      rw (lt-ltb (length sent) 64 room)
      (λ i.
      record {
        control =
            record { phase = 1; command = 0; full = 1; output = 0; fault = 1; length = one_more sent byte i; next = next; end = end };
        request = put_behind sent tail byte i;
        response = response;
      })

  none_handed : handed (write_data byte) (data_read (port 1 command 1 sent tail next end response)) ≡ []
  none_handed = rw (lt-ltb (length sent) 64 room)

  completed : data_written byte (data_read (port 2 command 1 sent tail next end response)) ≡ port 3 0 0 (sent ++ (byte ∷ [])) (drop 1 tail) next end response
  completed =
      rw (lt-ltb (length sent) 64 room)
      (λ i.
      record {
        control =
            record { phase = 3; command = 0; full = 0; output = 0; fault = 1; length = one_more sent byte i; next = next; end = end };
        request = put_behind sent tail byte i;
        response = response;
      })

  told : length_told byte (data_read (port 2 command 1 sent tail next end response)) ≡ length (sent ++ (byte ∷ []))
  told = rw (lt-ltb (length sent) 64 room) (one_more sent byte)

  one_handed : handed (write_data byte) (data_read (port 2 command 1 sent tail next end response)) ≡ (sent ++ (byte ∷ [])) ∷ []
  one_handed =
      let some : eqb (length (sent ++ (byte ∷ []))) 0 ≡ false = ne_eqb (length (sent ++ (byte ∷ []))) 0 (λ e. omega (arith, e, one_more sent byte)) in
      ap
      (λ (n : ℕ). cond (eqb n 0) [] (message n (data_written byte (data_read (port 2 command 1 sent tail next end response))) ∷ []))
      told
      ∙ ap
      (λ (t : Bool). cond t [] (message (length (sent ++ (byte ∷ []))) (data_written byte (data_read (port 2 command 1 sent tail next end response))) ∷ []))
      some
      ∙ ap (λ (p : Port). message (length (sent ++ (byte ∷ []))) p ∷ []) completed
      ∙ ap (λ (bytes : List ℕ). bytes ∷ []) (take_at (sent ++ (byte ∷ [])) (drop 1 tail) (length (sent ++ (byte ∷ []))) refl)

-- ---- what the host does after WRITE_START, and the port that it leaves

abbrev pub sending : List ℕ → List Access
sending [] = []
sending (last ∷ []) = read_data ∷ write_command 0x62 ∷ read_data ∷ write_data last ∷ []
sending (byte ∷ more ∷ rest) = read_data ∷ write_data byte ∷ sending (more ∷ rest)

-- at the chart's end, after these accesses
abbrev pub after : List Access → Transfer → Transfer
after accesses t = record { port = accessed_all accesses t.port; made = t.made ++ accesses; got = t.got; met = ends }

-- the chart of a host that has made some accesses already
abbrev pub at : Port → List Access → List ℕ → Transfer
at p made got = record { port = p; made = made; got = got; met = goes }

pub snoc : (made : List Access) (first second : Access) (rest : List Access) → ((made ++ (first ∷ [])) ++ (second ∷ [])) ++ rest ≡ made ++ (first ∷ second ∷ rest)
snoc made first second rest = append_assoc (made ++ (first ∷ [])) (second ∷ []) rest ∙ append_assoc made (first ∷ []) (second ∷ rest)

module _ (next end : ℕ) (response : List ℕ) (got : List ℕ) where
  pub write_bytes_lem
      : (byte : ℕ) (bytes : List ℕ) (command : ℕ) (sent tail : List ℕ) (made : List Access) → length sent + length (byte ∷ bytes) ≤ 64
      → write_bytes (byte ∷ bytes) (at (port 1 command 1 sent tail next end response) made got)
      ≡ after (sending (byte ∷ bytes)) (at (port 1 command 1 sent tail next end response) made got)
  write_bytes_lem last [] command sent tail made fits =
      let t = at (port 1 command 1 sent tail next end response) made got in
      let before = at (data_read (port 1 command 1 sent tail next end response)) (made ++ (read_data ∷ [])) got in
      let tell = clear_obf (put (write_data last) (leaves ends)) in
      let close = wait_ibf (expect 2 tell) in
      let u = at (port 2 1 1 sent tail next end response) ((made ++ (read_data ∷ [])) ++ (write_command 0x62 ∷ [])) got in
      let last-before = at (data_read (port 2 1 1 sent tail next end response)) (((made ++ (read_data ∷ [])) ++ (write_command 0x62 ∷ [])) ++ (read_data ∷ [])) got in
      no_wait (expect 2 (clear_obf (put (write_command 0x62) close))) t
      ∙ as_expected (clear_obf (put (write_command 0x62) close)) t 2 refl
      ∙ cleared (put (write_command 0x62) close) t refl
      ∙ no_wait (does (write_command 0x62) close) before
      ∙ no_wait (expect 2 tell) u
      ∙ as_expected tell u 2 refl
      ∙ cleared (put (write_data last) (leaves ends)) u refl
      ∙ no_wait (does (write_data last) (leaves ends)) last-before
      ∙ ap
      (λ (all : List Access).
      record {
        port = data_written last (data_read (port 2 1 1 sent tail next end response));
        made = all;
        got = got;
        met = ends;
      })
      (append_assoc ((made ++ (read_data ∷ [])) ++ (write_command 0x62 ∷ [])) (read_data ∷ []) (write_data last ∷ [])
      ∙ snoc made read_data (write_command 0x62) (read_data ∷ write_data last ∷ []))
  write_bytes_lem byte (more ∷ rest) command sent tail made fits =
      let p = port 1 command 1 sent tail next end response in
      let q = port 1 0 1 (sent ++ (byte ∷ [])) (drop 1 tail) next end response in
      let goes_on = put (write_data byte) (λ u. write_bytes (more ∷ rest) u) in
      let now = (made ++ (read_data ∷ [])) ++ (write_data byte ∷ []) in
      let same : data_written byte (data_read p) ≡ q = kept command sent tail next end response byte (omega (arith, fits)) in
      no_wait (expect 2 (clear_obf goes_on)) (at p made got)
      ∙ as_expected (clear_obf goes_on) (at p made got) 2 refl
      ∙ cleared goes_on (at p made got) refl
      ∙ no_wait (does (write_data byte) (λ u. write_bytes (more ∷ rest) u)) (at (data_read p) (made ++ (read_data ∷ [])) got)
      ∙ ap (λ (r : Port). write_bytes (more ∷ rest) (at r now got)) same
      ∙ write_bytes_lem more rest 0 (sent ++ (byte ∷ [])) (drop 1 tail) now (omega (arith, fits, one_more sent byte))
      ∙ (λ i. record {
        port = accessed_all (sending (more ∷ rest)) (sym same i);
        made = snoc made read_data (write_data byte) (sending (more ∷ rest)) i;
        got = got;
        met = ends;
      })

module _ (next end : ℕ) (response : List ℕ) where
  pub sent_all
      : (byte : ℕ) (bytes : List ℕ) (command : ℕ) (sent tail : List ℕ) → length sent + length (byte ∷ bytes) ≤ 64
      → (rest : List ℕ)
      × (accessed_all (sending (byte ∷ bytes)) (port 1 command 1 sent tail next end response) ≡ port 3 0 0 (sent ++ (byte ∷ bytes)) rest next end response)
  sent_all last [] command sent tail fits = (drop 1 tail, completed 1 sent tail next end response last (omega (arith, fits)))
  sent_all byte (more ∷ rest) command sent tail fits =
      let same = kept command sent tail next end response byte (omega (arith, fits)) in
      let later = sent_all more rest 0 (sent ++ (byte ∷ [])) (drop 1 tail) (omega (arith, fits, one_more sent byte)) in (
        later.0,
        ap (λ (r : Port). accessed_all (sending (more ∷ rest)) r) same
            ∙ later.1
            ∙ ap (λ (all : List ℕ). port 3 0 0 all later.0 next end response) (append_assoc sent (byte ∷ []) (more ∷ rest)),
      )

-- ---- what is handed over: cut the accesses anywhere

-- nothing while one is to come, and then this message
abbrev pub Hands : List ℕ → List Access → Port → Type 0
Hands bytes accesses p = (front back : List Access) → front ++ back ≡ accesses → handed_all front p ≡ cond (is_none back) (bytes ∷ []) []

first_of : List Access → Access
first_of [] = read_data
first_of (access ∷ rest) = access

rest_of : List Access → List Access
rest_of [] = []
rest_of (access ∷ rest) = rest

pub hands_later
    : (bytes : List ℕ) (access : Access) (accesses : List Access) (p : Port)
    → handed access p ≡ [] → Hands bytes accesses (accessed access p) → Hands bytes (access ∷ accesses) p
unfolding first_of rest_of
hands_later bytes access accesses p none later [] back e = sym (ap (λ (l : List Access). cond (is_none l) (bytes ∷ []) []) e)
hands_later bytes access accesses p none later (first ∷ front) back e =
    ap (λ (a : Access). handed a p ++ handed_all front (accessed a p)) (ap first_of e)
    ∙ ap (λ (l : List (List ℕ)). l ++ handed_all front (accessed access p)) none
    ∙ later front back (ap rest_of e)

pub hands_now : (bytes : List ℕ) (access : Access) (p : Port) → handed access p ≡ bytes ∷ [] → Hands bytes (access ∷ []) p
unfolding first_of rest_of
hands_now bytes access p one [] back e = sym (ap (λ (l : List Access). cond (is_none l) (bytes ∷ []) []) e)
hands_now bytes access p one (first ∷ []) back e =
    ap (λ (a : Access). handed a p ++ []) (ap first_of e)
    ∙ ap (λ (l : List (List ℕ)). l ++ []) one
    ∙ sym (ap (λ (l : List Access). cond (is_none l) (bytes ∷ []) []) (ap rest_of e))
hands_now bytes access p one (first ∷ second ∷ front) back e = absurd (true≢false (sym (ap is_none (ap rest_of e))))

module _ (next end : ℕ) (response : List ℕ) where
  pub sending_hands
      : (byte : ℕ) (bytes : List ℕ) (command : ℕ) (sent tail : List ℕ) → length sent + length (byte ∷ bytes) ≤ 64
      → Hands (sent ++ (byte ∷ bytes)) (sending (byte ∷ bytes)) (port 1 command 1 sent tail next end response)
  sending_hands last [] command sent tail fits =
      let all = sent ++ (last ∷ []) in
      let p = port 1 command 1 sent tail next end response in
      hands_later all read_data (write_command 0x62 ∷ read_data ∷ write_data last ∷ []) p refl
      (hands_later all (write_command 0x62) (read_data ∷ write_data last ∷ []) (data_read p) refl
      (hands_later all read_data (write_data last ∷ []) (port 2 1 1 sent tail next end response) refl
      (hands_now all (write_data last) (data_read (port 2 1 1 sent tail next end response)) (one_handed 1 sent tail next end response last (omega (arith, fits))))))
  sending_hands byte (more ∷ rest) command sent tail fits =
      let all = sent ++ (byte ∷ more ∷ rest) in
      let p = port 1 command 1 sent tail next end response in
      let room : length sent < 64 = omega (arith, fits) in
      let now = sending (more ∷ rest) in
      let whole : (sent ++ (byte ∷ [])) ++ (more ∷ rest) ≡ all = append_assoc sent (byte ∷ []) (more ∷ rest) in
      let later = sending_hands more rest 0 (sent ++ (byte ∷ [])) (drop 1 tail) (omega (arith, fits, one_more sent byte)) in
      hands_later all read_data (write_data byte ∷ now) p refl
      (hands_later all (write_data byte) now (data_read p) (none_handed command sent tail next end response byte room)
      (subst (λ (q : Port). Hands all now q) (sym (kept command sent tail next end response byte room))
      (subst (λ (bytes : List ℕ). Hands bytes now (port 1 0 1 (sent ++ (byte ∷ [])) (drop 1 tail) next end response)) whole later)))
