-- A KCS port as its 136 bytes: eight controls, then 64 bytes of request and 64 of response (include/kcs.h).
use Rattle.std.specs.Prelude.{ℕ, List, [], ◌∷◌, ◌++◌, get_or}
use Rattle.buffers.specs.Ranges.{range}
use Rattle.kcs.specs.Port.{Control, Port}

-- the controls that the first eight bytes stand for
abbrev pub control_of : List ℕ → Control
control_of bytes =
    record {
      phase = get_or bytes 0 0;
      command = get_or bytes 1 0;
      full = get_or bytes 2 0;
      output = get_or bytes 3 0;
      fault = get_or bytes 4 0;
      length = get_or bytes 5 0;
      next = get_or bytes 6 0;
      end = get_or bytes 7 0;
    }

-- the port that the bytes stand for
abbrev pub port_of : List ℕ → Port
port_of bytes = record { control = control_of bytes; request = range 8 64 bytes; response = range 72 64 bytes }

-- the bytes of controls
abbrev pub control_bytes : Control → List ℕ
control_bytes c = c.phase ∷ c.command ∷ c.full ∷ c.output ∷ c.fault ∷ c.length ∷ c.next ∷ c.end ∷ []

-- the bytes of a port
abbrev pub bytes_of : Port → List ℕ
bytes_of p = control_bytes p.control ++ (p.request ++ p.response)
