use Rattle.std.proofs.Common.{ℕ, List, sym, ap, arith, rules}
use Rattle.transcript.specs.Printing.{flash_line}
use Rattle.transcript.proofs.Written.{joined, puts_as}
use Rattle.transcript.proofs.Wholes.{transcript_long, transcript_run, whole_text}
use Rattle.transcript.proofs.run.Goals as goal

pub returns-then-input-gt-MOST_INPUT : goal.returns-then-input-gt-MOST_INPUT
returns-then-input-gt-MOST_INPUT c =
    let input = c.args.input.now in
    let new = c.new-printed.ensures in
    let whole = whole_text (puts_as (sym (transcript_long input c.if-input-gt-MOST_INPUT.true)) c.put.ensures) new.nothing new.text in
    record { length = whole.0; text = search rules; bound = omega (arith, new.nothing, c.put.ensures.end) }

pub returns : goal.returns
returns c =
    let input = c.args.input.now in
    let new = c.new-printed.ensures in
    let run = c.run_records.ensures in
    let all = joined run.puts (puts_as (ap (λ (f : List ℕ). flash_line 4 f) run.flash) c.put_flash.ensures.puts) in
    let whole = whole_text (puts_as (sym (transcript_run input c.if-input-gt-MOST_INPUT.false)) all) new.nothing new.text in
    record { length = whole.0; text = search rules; bound = omega (arith, run.bound, c.put_flash.ensures.bound) }
