-- C's bytes and the port that they stand for tell the same: laws of crates/kcs.
use Rattle.kcs.proofs.RoundTrip.{bytes_back, port_back}
use Rattle.kcsboard.specs.RoundTrip.{RoundTrip}

pub round_trip : RoundTrip
round_trip = (bytes_back, port_back)
