-- `mailbox::marks::flush`: refused, or flushed with the marks that it makes itself.
use Rattle.std.proofs.Common.{◌≡◌, refl, ap, cond, leb, Option, None, Some, Bool, true, false, List, ℕ, replicate, sym, ◌∙◌, rules}
use Rattle.std.specs.Result.{result_ok}
use Rattle.buffers.specs.Ranges.{replace}
use Rattle.session.specs.declared.Session.{Session}
use Rattle.session.specs.Machine.{lent}
use Rattle.session.specs.Marks.{dirty}
use Rattle.session.specs.Record.{with_marks}
use Rattle.refusals.specs.declared.BlockRange.{BlockRange}
use Rattle.refusals.specs.declared.Needs.TheVariants.{WriteWindow}
use Rattle.refusals.specs.Refusals.{Accepted, range_of, blocks_named, flush_marks}
use Rattle.refusals.proofs.Accepting.{passed}
use Rattle.mailbox.specs.declared.call.Call.{Call}
use Rattle.mailbox.specs.Commands.{numbered, flushing, flushed_all}
use Rattle.mailbox.specs.Table.{flush}
use Rattle.mailbox.proofs.Marking.{flushing_as}
use Rattle.mailbox.proofs.Ran.{turned_down, served}
use Rattle.mailbox.proofs.marks.flush.Goals as goal
use Rattle.mailbox.proofs.marks.flush.Goals.{then-flush_marks, else-flush_marks, in-Some, in-None}

-- a range is not none
some_none : (r : BlockRange) → ◌≡◌ {A = Option BlockRange} (Some r) None → ⊥
some_none r e = let z : ◌≡◌ {A = Bool} true false = cc in cc

-- the marks of one range are those of the other
same_range : (s t : Session) (q r : BlockRange) → ◌≡◌ {A = Option BlockRange} (Some q) (Some r)
    → with_marks (replace q.start (replicate q.count dirty) s.marks) t ≡ with_marks (replace r.start (replicate r.count dirty) s.marks) t
same_range s t q r e =
    let same : q ≡ r = cc in
    ap (λ (n : BlockRange). with_marks (replace n.start (replicate n.count dirty) s.marks) t) same

pub returns-in_err-check : goal.returns-in_err-check
returns-in_err-check c =
    let a = c.args in
    let f = turned_down flush a.call a.flash.now a.worn.now a.memory.now refl c.check.ensures c.flush_outside.ensures refl in search rules

pub returns : goal.returns
returns c =
    let a = c.args in
    let s = a.call.session in
    let r = a.call.registers in
    let e : c.check.result ≡ Accepted = search rules in
    let outside = sym c.flush_outside.ensures ∙ (passed true s r (leb 1 s.version) WriteWindow c.flush_outside.result (sym c.check.ensures ∙ e)).argued in
    let either : Bool → Option BlockRange = λ b. cond b (result_ok (range_of (blocks_named s r))) None in
    let named : c.if-flush_marks.named ≡ either (flush_marks s r) =
    elim c.if-flush_marks.branch [
      | then-flush_marks w ↦ w.named-is ∙ w.ok-named.ensures.value ∙ ap result_ok w.blocks_named.ensures ∙ ap either (sym w.if-flush_marks.true ∙ c.flush_marks.ensures)
      | else-flush_marks w ↦ w.named-is ∙ ap either (sym w.if-flush_marks.false ∙ c.flush_marks.ensures)
    ] in
    let session : c.match-named.flushing.session ≡ flushing (numbered s r) r =
    elim c.match-named.branch [
      | in-Some w ↦
          flushing_as s r c.if-flush_marks.named c.match-named.flushing.session named outside
          (λ n. absurd (some_none w.in-Some.named (sym w.in-Some.is ∙ n)))
          (λ range n.
          ap (λ (t : Call). t.session) w.flushing-is
          ∙ w.marked-flushing.ensures.session
          ∙ ap (λ (t : Session). with_marks (replace w.in-Some.named.start (replicate w.in-Some.named.count dirty) t.marks) t) w.numbered.ensures.session
          ∙ same_range s (numbered s r) w.in-Some.named range (sym w.in-Some.is ∙ n))
      | in-None w ↦
          flushing_as s r c.if-flush_marks.named c.match-named.flushing.session named outside
          (λ n. ap (λ (t : Call). t.session) w.flushing-is ∙ w.numbered-flushing.ensures.session)
          (λ range n. absurd (some_none range (sym n ∙ w.in-None.is)))
    ] in
    let registers : c.match-named.flushing.registers ≡ r =
    elim c.match-named.branch [
      | in-Some w ↦ ap (λ (t : Call). t.registers) w.flushing-is ∙ w.marked-flushing.ensures.registers ∙ w.numbered.ensures.registers
      | in-None w ↦ ap (λ (t : Call). t.registers) w.flushing-is ∙ w.numbered-flushing.ensures.registers
    ] in
    c.flush_all.ensures
    ∙ ap (λ (t : List ℕ). flushed_all t (lent c.match-named.flushing.session a.flash.now a.worn.now a.memory.now)) registers
    ∙ ap (λ (t : Session). flushed_all r (lent t a.flash.now a.worn.now a.memory.now)) session
    ∙ served flush a.call a.flash.now a.worn.now a.memory.now refl c.check.ensures c.flush_outside.ensures e
