-- C's calls follow the port that the record stands for.
use mathlib.Core.Path.{◌≡◌, refl, ap, ◌∙◌}
use mathlib.Core.List.{List, [], ◌∷◌, ◌++◌}
use Prim.Native.Nat.{ℕ}
use native.Mathlib.Omega.{arith}
use lib.ListN.{length, drop, length-append}
use lib.Seq.{take-take}
use Rattle.buffers.proofs.Replace.{range_length}
use Rattle.kcs.specs.Port.{Port, fresh}
use Rattle.kcshost.specs.Runs.{stepped, stepped_all}
use Rattle.kcshost.specs.Rows.{Long}
use Rattle.kcshost.proofs.Lengths.{stays_long}
use Rattle.kcs.specs.Bytes.{control_bytes, port_of, bytes_of}
use Rattle.kcsboard.specs.Follows.{called, Follows, FreshFollows, MessageBytes}
use Rattle.kcsboard.proofs.RoundTrip.{round_trip}

bytes_long : (p : Port) → Long p → length (bytes_of p) ≡ 136
bytes_long p l =
    let both : length (p.request ++ p.response) ≡ 128 = length-append p.request p.response ∙ rw (l.0, l.1) in
    length-append (control_bytes p.control) (p.request ++ p.response) ∙ omega (arith, both)

port_long : (bytes : List ℕ) → length bytes ≡ 136 → Long (port_of bytes)
port_long bytes e = (range_length 8 64 bytes (omega (arith, e)), range_length 72 64 bytes (omega (arith, e)))

pub follows : Follows
follows [] bytes e = (refl, e)
follows (step ∷ rest) bytes e =
    let long = stays_long (step ∷ []) (port_of bytes) (port_long bytes e) in
    let same = round_trip.1 (stepped step (port_of bytes)) long.0 long.1 in
    let later = follows rest (called step bytes) (bytes_long (stepped step (port_of bytes)) long) in
    (later.0 ∙ ap (stepped_all rest) same, later.1)

pub fresh_follows : FreshFollows
unfolding fresh
fresh_follows = refl

pub message_bytes : MessageBytes
message_bytes n bytes few = take-take n 64 (drop 8 bytes) few
