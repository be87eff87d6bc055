-- The blocks that a command names, as the code has them.
use Rattle.std.proofs.Common.{◌≡◌, ℕ, List, Bool, true, false, not, ◌&&◌, cond, Option, None, Some, Result, Ok, Err, replicate, refl, sym, ap, ◌∙◌, ⊎_elim}
use borrow.Author.Tests.{not-false}
use Rattle.units.proofs.Cases.{decided}
use Rattle.buffers.specs.Ranges.{replace}
use Rattle.session.specs.declared.Session.{Session}
use Rattle.session.specs.Marks.{dirty}
use Rattle.session.specs.Record.{with_marks}
use Rattle.std.specs.Result.{result_ok, result_or}
use Rattle.refusals.specs.declared.BlockRange.{BlockRange}
use Rattle.refusals.specs.declared.Reason.{Reason}
use Rattle.refusals.specs.declared.Reason.TheVariants.{Argument}
use Rattle.refusals.specs.Refusals.{NamedBlocks, range_of, blocks_named, flush_marks}
use Rattle.mailbox.specs.Commands.{numbered, flushing}

-- refused where they do not all lie in the window
pub range_refused : (n : NamedBlocks) (x : Result BlockRange BlockRange) (y : Result BlockRange Reason) (q : Reason)
    → x ≡ range_of n → y ≡ result_or x (Err Argument) → y ≡ Err q → (n.inside ≡ false) × (q ≡ Argument)
range_refused n x y q a o e = by n.inside refl (sym (o ∙ ap (λ (t : Result BlockRange BlockRange). result_or t (Err Argument)) a) ∙ e)
  where
    by : (b : Bool) → n.inside ≡ b → ◌≡◌ {A = Result BlockRange Reason} (result_or (range_of n) (Err Argument)) (Err q) → (n.inside ≡ false) × (q ≡ Argument)
    by true i e = let s : ◌≡◌ {A = Result BlockRange Reason} (Ok (record { start = n.start; count = n.count })) (Err q) = (rw i at e) in cc
    by false i e = let s : ◌≡◌ {A = Result BlockRange Reason} (Err Argument) (Err q) = (rw i at e) in let t : ◌≡◌ {A = Reason} Argument q = cc in (i, sym t)

-- and else they are these
pub range_given : (n : NamedBlocks) (x : Result BlockRange BlockRange) (y : Result BlockRange Reason) (r : BlockRange)
    → x ≡ range_of n → y ≡ result_or x (Err Argument) → y ≡ Ok r → (n.inside ≡ true) × (r ≡ record { start = n.start; count = n.count })
range_given n x y r a o e = by n.inside refl (sym (o ∙ ap (λ (t : Result BlockRange BlockRange). result_or t (Err Argument)) a) ∙ e)
  where
    by : (b : Bool) → n.inside ≡ b → ◌≡◌ {A = Result BlockRange Reason} (result_or (range_of n) (Err Argument)) (Ok r)
        → (n.inside ≡ true) × (r ≡ record { start = n.start; count = n.count })
    by true i e =
        let s : ◌≡◌ {A = Result BlockRange Reason} (Ok (record { start = n.start; count = n.count })) (Ok r) = (rw i at e) in
        let t : ◌≡◌ {A = BlockRange} (record { start = n.start; count = n.count }) r = cc in
        (i, sym t)
    by false i e = let s : ◌≡◌ {A = Result BlockRange Reason} (Err Argument) (Ok r) = (rw i at e) in let z : ◌≡◌ {A = Bool} true false = cc in cc

-- the session that a FLUSH flushes, from the blocks that it marks itself
pub flushing_as : (s : Session) (registers : List ℕ) (named : Option BlockRange) (t : Session)
    → named ≡ cond (flush_marks s registers) (result_ok (range_of (blocks_named s registers))) None
    → (flush_marks s registers && not (blocks_named s registers).inside) ≡ false
    → (named ≡ None → t ≡ numbered s registers)
    → ((r : BlockRange) → named ≡ Some r → t ≡ with_marks (replace r.start (replicate r.count dirty) s.marks) (numbered s registers))
    → t ≡ flushing (numbered s registers) registers
flushing_as s registers named t n o none some =
    ⊎_elim
    (λ (f : flush_marks s registers ≡ true).
    let inside : (blocks_named s registers).inside ≡ true = not-false (blocks_named s registers).inside (rw f at o) in
    rw f (some (record { start = (blocks_named s registers).start; count = (blocks_named s registers).count }) (n ∙ rw (f, inside) refl)))
    (λ (f : flush_marks s registers ≡ false). rw f (none (n ∙ rw f refl)))
    (decided (flush_marks s registers))
