use Rattle.transcript.proofs.Written.{joined}
use Rattle.transcript.proofs.printing.Printed.put_bad.Goals as goal

pub returns-clause-puts : goal.returns-clause-puts
returns-clause-puts c = joined c.put.ensures (joined c.put_decimal.ensures.puts c.put-2.ensures)
