-- `mailbox::marks::recount`: each kind's number, with one mark replaced.
use Rattle.std.proofs.Common.{◌≡◌, ℕ, List, ◌+◌, ◌-◌, ◌≤◌, ◌<◌, sym, ap, ◌∙◌, subst, length, get_or, set, arith}
use Rattle.session.specs.Marks.{of_kind, marks_of}
use Rattle.soundness.proofs.Counting.{marks_some, marks_set}
use Rattle.mailbox.proofs.marks.recount.Goals as goal

-- one kind's number
replaced : (kind : ℕ) (marks : List ℕ) (at old mark : ℕ) {count before after : ℕ} → at < length marks → get_or marks at 0 ≡ old → count ≡ marks_of kind marks
    → before ≡ of_kind kind old → after ≡ of_kind kind mark → count - before + after ≡ marks_of kind (set marks at mark)
replaced kind marks at old mark {count} {before} {after} h e n b a =
    let there : of_kind kind old ≤ marks_of kind marks = subst (λ (m : ℕ). of_kind kind m ≤ marks_of kind marks) e (marks_some kind marks at h) in
    let law : marks_of kind (set marks at mark) + of_kind kind old ≡ marks_of kind marks + of_kind kind mark = ap (λ (m : ℕ). marks_of kind (set marks at mark) + of_kind kind m) (sym e) ∙ marks_set kind marks at mark h in
    omega (arith, there, law, n, b, a)

pub returns : goal.returns
returns c = λ marks at h e n.
    let a = c.args in
    let dirty = replaced 1 marks at a.old a.mark h e (λ i. (n i).dirty) c.of_kind.ensures c.of_kind-2.ensures in
    let erased = replaced 2 marks at a.old a.mark h e (λ i. (n i).erased) c.of_kind-3.ensures c.of_kind-4.ensures in
    λ i. record { dirty = dirty i; erased = erased i }
