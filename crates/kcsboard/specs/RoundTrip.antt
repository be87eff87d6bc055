-- C's bytes and the port that they stand for tell the same. Proved in proofs/RoundTrip.antt.
use Rattle.std.specs.Prelude.{◌≡◌, List, ℕ, length}
use Rattle.kcs.specs.Port.{Port}
use Rattle.kcs.specs.Bytes.{port_of, bytes_of}

-- the 136 bytes of a record are those of the port that they stand for, and a port with 64 bytes in each buffer is the one that its bytes stand for
abbrev pub RoundTrip : Type 0
RoundTrip =
    ((bytes : List ℕ) → length bytes ≡ 136 → bytes_of (port_of bytes) ≡ bytes)
    × ((p : Port) → length p.request ≡ 64 → length p.response ≡ 64 → port_of (bytes_of p) ≡ p)
