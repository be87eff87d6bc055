-- The parts of a port's bytes: what other controls, a byte of the request or a response leave of each.
use mathlib.Core.Path.{◌≡◌, refl, sym, ap, ◌∙◌}
use mathlib.Core.List.{List, [], ◌∷◌, ◌++◌}
use Prim.Native.Nat.{ℕ, zero, suc, ◌+◌, ◌≤◌, ◌<◌}
use native.Mathlib.Omega.{arith}
use native.Mathlib.Numerals.{unary_clauses}
use lib.ListN.{length, get_or, set, take, drop, length-drop, length-set}
use lib.Seq.{length-take-le, take_all, drop-drop, take-add, drop_at, drop-append-le, drop-set-add, set-append_left, get_or-set_other}
use Rattle.buffers.specs.Ranges.{range, replace}
use Rattle.buffers.proofs.Replace.{range_length, replace_length}
use Rattle.kcs.specs.Port.{Control, Port}
use Rattle.kcs.specs.Effects.{with_length}
use Rattle.kcs.specs.Accesses.{with_control, after_read, data_read}
use Rattle.kcs.specs.Bytes.{control_of, control_bytes, port_of, bytes_of}
use Rattle.kcs.proofs.RoundTrip.{two_ranges, controls_first, port_back}

-- ---- stores at the places of controls, each of which computes where the first eight bytes are written out

-- such stores leave the port with other controls
pub changed
    : (stores : List ℕ → List ℕ) (change : Control → Control)
    → ((c : Control) (t : List ℕ) → stores (control_bytes c ++ t) ≡ control_bytes (change c) ++ t)
    → (xs : List ℕ) → length xs ≡ 136 → port_of (stores xs) ≡ with_control (change (control_of xs)) (port_of xs)
changed stores change e xs long =
    let first = controls_first xs (omega (arith, long)) in
    ap (λ (ys : List ℕ). port_of (stores ys)) (sym first)
    ∙ ap port_of (e (control_of xs) (drop 8 xs))
    ∙ ap (λ (ys : List ℕ). with_control (change (control_of xs)) (port_of ys)) first

-- the bytes themselves
pub stored
    : (stores : List ℕ → List ℕ) (change : Control → Control)
    → ((c : Control) (t : List ℕ) → stores (control_bytes c ++ t) ≡ control_bytes (change c) ++ t)
    → (xs : List ℕ) → length xs ≡ 136 → stores xs ≡ bytes_of (with_control (change (control_of xs)) (port_of xs))
stored stores change e xs long =
    let first = controls_first xs (omega (arith, long)) in
    ap stores (sym first)
    ∙ e (control_of xs) (drop 8 xs)
    ∙ ap (λ (t : List ℕ). control_bytes (change (control_of xs)) ++ t) (two_ranges 8 64 64 xs long)

-- a read of Data_Out
pub read_left : (xs : List ℕ) → length xs ≡ 136 → set xs 2 0 ≡ bytes_of (data_read (port_of xs))
read_left = stored (λ (ys : List ℕ). set ys 2 0) after_read (λ c t. refl)

-- and what is made of the port then
pub after
    : (change : Control → Control) (stores : List ℕ → List ℕ) (first : Control → Control)
    → ((c : Control) (t : List ℕ) → stores (control_bytes c ++ t) ≡ control_bytes (first c) ++ t)
    → (xs : List ℕ) → length xs ≡ 136
    → bytes_of (with_control (change (control_of (stores xs))) (port_of (stores xs))) ≡ bytes_of (with_control (change (first (control_of xs))) (port_of xs))
after change stores first e xs long = ap (λ (p : Port). bytes_of (with_control (change p.control) p)) (changed stores first e xs long)

-- ---- a byte of the request

-- bytes stand for a port where the controls and the buffers are its own
from_bytes
    : (p : Port) (ys : List ℕ) → control_of ys ≡ p.control → drop 8 ys ≡ p.request ++ p.response → length ys ≡ 136
    → length p.request ≡ 64 → length p.response ≡ 64 → port_of ys ≡ p
from_bytes p ys controls buffers size request response =
    ap port_of (sym (controls_first ys (omega (arith, size))) ∙ (λ i. control_bytes (controls i) ++ buffers i))
    ∙ port_back p request response

set_replaces : (xs : List ℕ) (at byte : ℕ) → at < length xs → set xs at byte ≡ replace at (byte ∷ []) xs
set_replaces [] at byte inside = absurd (omega (arith, inside))
set_replaces (x ∷ xs) zero byte inside = refl
set_replaces (x ∷ xs) (suc at) byte inside =
    simp unary_clauses (simp unary_clauses at (ap (λ (ys : List ℕ). x ∷ ys) (set_replaces xs at byte (omega (arith, inside)))))

-- a byte that is stored in the first of two ranges
byte_put
    : (a n m at byte : ℕ) (xs : List ℕ) → length xs ≡ a + n + m → at < n
    → drop a (set xs (a + at) byte) ≡ replace at (byte ∷ []) (range a n xs) ++ range (a + n) m xs
byte_put a n m at byte xs long inside =
    let room : at < length (range a n xs) = rw (range_length a n xs (omega arith)) inside in
    drop-set-add a xs at byte
    ∙ ap (λ (t : List ℕ). set t at byte) (two_ranges a n m xs long)
    ∙ set-append_left (range a n xs) (range (a + n) m xs) at byte room
    ∙ ap (λ (t : List ℕ). t ++ range (a + n) m xs) (set_replaces (range a n xs) at byte room)

-- the port's bytes with a byte more of the request
byte_kept
    : (at byte : ℕ) (xs : List ℕ) → length xs ≡ 136 → at < 64
    → port_of (set xs (8 + at) byte) ≡ record { control = control_of xs; request = replace at (byte ∷ []) (range 8 64 xs); response = range 72 64 xs }
byte_kept at byte xs long inside =
    let ys = set xs (8 + at) byte in
    let p : Port = record { control = control_of xs; request = replace at (byte ∷ []) (range 8 64 xs); response = range 72 64 xs } in
    let same : (i : ℕ) → i < 8 → get_or ys i 0 ≡ get_or xs i 0 = λ i few. get_or-set_other xs (8 + at) i byte 0 (λ e. omega (arith, few, e)) in
    let controls : control_of ys ≡ control_of xs =
    λ i. record {
      phase = same 0 (omega arith) i;
      command = same 1 (omega arith) i;
      full = same 2 (omega arith) i;
      output = same 3 (omega arith) i;
      fault = same 4 (omega arith) i;
      length = same 5 (omega arith) i;
      next = same 6 (omega arith) i;
      end = same 7 (omega arith) i;
    } in
    let size : length ys ≡ 136 = length-set xs (8 + at) byte ∙ long in
    let request : length (range 8 64 xs) ≡ 64 = range_length 8 64 xs (omega (arith, long)) in
    let longer : length p.request ≡ 64 =
    sym (ap length (set_replaces (range 8 64 xs) at byte (omega (arith, request, inside)))) ∙ length-set (range 8 64 xs) at byte ∙ request in
    from_bytes p ys controls (byte_put 8 64 64 at byte xs long inside) size longer (range_length 72 64 xs (omega (arith, long)))

-- and with its new length
pub kept_port
    : (at n byte : ℕ) (xs : List ℕ) → length xs ≡ 136 → at < 64
    → port_of (set (set xs (8 + at) byte) 5 n)
    ≡ record { control = with_length n (control_of xs); request = replace at (byte ∷ []) (range 8 64 xs); response = range 72 64 xs }
kept_port at n byte xs long inside =
    changed (λ (ys : List ℕ). set ys 5 n) (with_length n) (λ c t. refl) (set xs (8 + at) byte) (length-set xs (8 + at) byte ∙ long)
    ∙ ap (λ (p : Port). with_control (with_length n p.control) p) (byte_kept at byte xs long inside)

pub kept_size : (xs : List ℕ) (at n byte : ℕ) → length (set (set xs at byte) 5 n) ≡ length xs
kept_size xs at n byte = length-set (set xs at byte) 5 n ∙ length-set xs at byte

-- ---- a response

-- bytes that are put to the front of the second range
bytes_put
    : (a n m : ℕ) (ys xs : List ℕ) → length xs ≡ a + n + m → length ys ≤ m
    → drop a (replace (a + n) ys xs) ≡ range a n xs ++ replace 0 ys (range (a + n) m xs)
bytes_put a n m ys xs long fits =
    let k = length ys in
    let front : length (take (a + n) xs) ≡ a + n = length-take-le (a + n) xs (omega arith) in
    let head : length (take a xs) ≡ a = length-take-le a xs (omega arith) in
    let rest : length (drop (a + n) xs) ≤ m = rw length-drop (omega arith) in
    let whole : range (a + n) m xs ≡ drop (a + n) xs = take_all m (drop (a + n) xs) rest in
    let zero_on : k ≡ 0 + k = omega arith in
    let behind : drop (a + n + k) xs ≡ drop (0 + k) (range (a + n) m xs) =
    sym (drop-drop k (a + n) xs) ∙ ap (λ (t : List ℕ). drop k t) (sym whole) ∙ ap (λ (j : ℕ). drop j (range (a + n) m xs)) zero_on in
    drop-append-le a (take (a + n) xs) (ys ++ drop (a + n + k) xs) (omega (arith, front))
    ∙ ap (λ (t : List ℕ). t ++ (ys ++ drop (a + n + k) xs)) (ap (drop a) (take-add a n xs) ∙ drop_at (take a xs) (range a n xs) a head)
    ∙ ap (λ (t : List ℕ). range a n xs ++ (ys ++ t)) behind

-- the port's bytes with another response
pub response_put
    : (ys xs : List ℕ) → length xs ≡ 136 → length ys ≤ 64
    → port_of (replace 72 ys xs) ≡ record { control = control_of xs; request = range 8 64 xs; response = replace 0 ys (range 72 64 xs) }
response_put ys xs long fits =
    let p : Port = record { control = control_of xs; request = range 8 64 xs; response = replace 0 ys (range 72 64 xs) } in
    let first = controls_first xs (omega (arith, long)) in
    let controls : control_of (replace 72 ys xs) ≡ control_of xs = ap (λ (zs : List ℕ). control_of (replace 72 ys zs)) (sym first) in
    let response : length (range 72 64 xs) ≡ 64 = range_length 72 64 xs (omega (arith, long)) in
    let size : length (replace 72 ys xs) ≡ 136 = replace_length 72 ys xs (omega (arith, long, fits)) ∙ long in
    let same : length p.response ≡ 64 = replace_length 0 ys (range 72 64 xs) (omega (arith, response, fits)) ∙ response in
    from_bytes p (replace 72 ys xs) controls (bytes_put 8 64 64 ys xs long fits) size (range_length 8 64 xs (omega (arith, long))) same
