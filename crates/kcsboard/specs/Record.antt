-- A port as C's record (include/kcs.h).
use Rattle.kcs.specs.Port.{Port}
use Rattle.kcsboard.specs.declared.Record.{Record}

-- a port as C's record
abbrev pub record_of : Port → Record
record_of p =
    record {
      phase = p.control.phase;
      command = p.control.command;
      full = p.control.full;
      output = p.control.output;
      fault = p.control.fault;
      length = p.control.length;
      next = p.control.next;
      end = p.control.end;
      request = p.request;
      response = p.response;
    }
