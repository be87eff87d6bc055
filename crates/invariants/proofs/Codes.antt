-- The rows of the table say what document 01 says: the claim stands in specs/Codes.antt.
use Rattle.std.proofs.Common.{◌≡◌, refl, sym, ap, ◌∙◌, true, false, cond, not, ◌||◌, ℕ, zero, suc, ◌≤◌, arith, leb, eqb, lit≤, ne_eqb, le-leb}
use mathlib.Core.Bool.{and-false}
use borrow.Author.Tests.{lt-leb}
use Rattle.refusals.specs.Refusals.{never_broken, needs_number, needs_access, needs_window}
use Rattle.mailbox.specs.Commands.{refused, closing_first}
use Rattle.mailbox.specs.Table.{Command, unknown}
use Rattle.mailbox.specs.Mediator.{command_at}
use Rattle.mailbox.proofs.Mediating.{past_table}
use Rattle.invariants.specs.Codes.{knows, is_create, rule_of, CodesAsSaid}

-- the codes that every version knows, that versions 1 and 2 know, and ERASE
unversioned : (code : ℕ) → knows 0 code ≡ true → 1 ≤ code → code ≤ 9 → (version : ℕ) → true ≡ knows version code
unversioned code k l h zero = sym k
unversioned code k l h (suc zero) = rw (le-leb 1 code l, le-leb code 9 h)
unversioned code k l h (suc (suc v)) =
    rw (ne_eqb (suc (suc v)) 0 (λ e. omega arith), ne_eqb (suc (suc v)) 1 (λ e. omega arith), le-leb 1 code l, le-leb code 10 (omega arith))

from_one : (code : ℕ) → knows 0 code ≡ false → 1 ≤ code → code ≤ 9 → (version : ℕ) → leb 1 version ≡ knows version code
from_one code k l h zero = sym k
from_one code k l h (suc zero) = rw (le-leb 1 code l, le-leb code 9 h)
from_one code k l h (suc (suc v)) =
    rw (ne_eqb (suc (suc v)) 0 (λ e. omega arith), ne_eqb (suc (suc v)) 1 (λ e. omega arith), le-leb 1 code l, le-leb code 10 (omega arith), le-leb 1 (suc (suc v)) (omega arith))

from_two : (version : ℕ) → leb 2 version ≡ knows version 10
from_two zero = refl
from_two (suc zero) = refl
from_two (suc (suc v)) =
    rw (ne_eqb (suc (suc v)) 0 (λ e. omega arith), ne_eqb (suc (suc v)) 1 (λ e. omega arith), le-leb 2 (suc (suc v)) (omega arith))

-- code 0, and the codes past the table
never_zero : (version : ℕ) → false ≡ knows version 0
never_zero zero = refl
never_zero (suc v) = rw (ne_eqb (suc v) 0 (λ e. omega arith))

off : (n k : ℕ) → k ≤ 10 → eqb (suc (suc (suc (suc (suc (suc (suc (suc (suc (suc (suc n))))))))))) k ≡ false
off n k h = ne_eqb (suc (suc (suc (suc (suc (suc (suc (suc (suc (suc (suc n))))))))))) k (λ e. omega arith)

never_past : (n version : ℕ) → false ≡ knows version (suc (suc (suc (suc (suc (suc (suc (suc (suc (suc (suc n)))))))))))
never_past n zero = rw (off n 1 (lit≤ tt), off n 2 (lit≤ tt), off n 9 (lit≤ tt))
never_past n (suc zero) = rw (lt-leb (suc (suc (suc (suc (suc (suc (suc (suc (suc (suc (suc n))))))))))) 9 (omega arith)) (sym (and-false (leb 1 (suc (suc (suc (suc (suc (suc (suc (suc (suc (suc (suc n))))))))))))))
never_past n (suc (suc v)) =
    rw (ne_eqb (suc (suc v)) 0 (λ e. omega arith), ne_eqb (suc (suc v)) 1 (λ e. omega arith), lt-leb (suc (suc (suc (suc (suc (suc (suc (suc (suc (suc (suc n))))))))))) 10 (omega arith)) (sym (and-false (leb 1 (suc (suc (suc (suc (suc (suc (suc (suc (suc (suc (suc n))))))))))))))

none : (n : ℕ) → command_at (suc (suc (suc (suc (suc (suc (suc (suc (suc (suc (suc n))))))))))) ≡ unknown
none n = past_table (suc (suc (suc (suc (suc (suc (suc (suc (suc (suc (suc n))))))))))) (λ e. omega arith) (λ e. omega arith) (λ e. omega arith) (λ e. omega arith) (λ e. omega arith) (λ e. omega arith) (λ e. omega arith) (λ e. omega arith) (λ e. omega arith) (λ e. omega arith)

pub codes_as_said : CodesAsSaid
unfolding command_at
codes_as_said zero = (never_zero, refl, refl, refl, refl, refl)
codes_as_said (suc zero) = (unversioned 1 refl (lit≤ tt) (lit≤ tt), refl, refl, refl, refl, refl)
codes_as_said (suc (suc zero)) = (unversioned 2 refl (lit≤ tt) (lit≤ tt), refl, refl, refl, refl, refl)
codes_as_said (suc (suc (suc zero))) = (from_one 3 refl (lit≤ tt) (lit≤ tt), refl, refl, refl, refl, refl)
codes_as_said (suc (suc (suc (suc zero)))) = (from_one 4 refl (lit≤ tt) (lit≤ tt), refl, refl, refl, refl, refl)
codes_as_said (suc (suc (suc (suc (suc zero))))) = (from_one 5 refl (lit≤ tt) (lit≤ tt), refl, refl, refl, refl, refl)
codes_as_said (suc (suc (suc (suc (suc (suc zero)))))) = (from_one 6 refl (lit≤ tt) (lit≤ tt), refl, refl, refl, refl, refl)
codes_as_said (suc (suc (suc (suc (suc (suc (suc zero))))))) = (from_one 7 refl (lit≤ tt) (lit≤ tt), refl, refl, refl, refl, refl)
codes_as_said (suc (suc (suc (suc (suc (suc (suc (suc zero)))))))) = (from_one 8 refl (lit≤ tt) (lit≤ tt), refl, refl, refl, refl, refl)
codes_as_said (suc (suc (suc (suc (suc (suc (suc (suc (suc zero))))))))) = (unversioned 9 refl (lit≤ tt) (lit≤ tt), refl, refl, refl, refl, refl)
codes_as_said (suc (suc (suc (suc (suc (suc (suc (suc (suc (suc zero)))))))))) = (from_two, refl, refl, refl, refl, refl)
codes_as_said (suc (suc (suc (suc (suc (suc (suc (suc (suc (suc (suc n))))))))))) = (
  λ v. ap (λ (c : Command). c.known v) (none n) ∙ never_past n v,
  ap (λ (c : Command). needs_number c.needs) (none n) ∙ numbers,
  ap (λ (c : Command). needs_access c.needs) (none n) ∙ accesses,
  ap (λ (c : Command). needs_window c.needs) (none n) ∙ windows,
  ap (λ (c : Command). c.broken) (none n) ∙ rules,
  ap (λ (c : Command). c.when_broken) (none n) ∙ refusals,
)
  where
    numbers : true ≡ not (eqb (suc (suc (suc (suc (suc (suc (suc (suc (suc (suc (suc n))))))))))) 2)
    numbers = rw (off n 2 (lit≤ tt))

    accesses : true ≡ not (eqb (suc (suc (suc (suc (suc (suc (suc (suc (suc (suc (suc n))))))))))) 2 || eqb (suc (suc (suc (suc (suc (suc (suc (suc (suc (suc (suc n))))))))))) 9)
    accesses = rw (off n 2 (lit≤ tt), off n 9 (lit≤ tt))

    windows : false ≡ (eqb (suc (suc (suc (suc (suc (suc (suc (suc (suc (suc (suc n))))))))))) 7 || (eqb (suc (suc (suc (suc (suc (suc (suc (suc (suc (suc (suc n))))))))))) 8 || eqb (suc (suc (suc (suc (suc (suc (suc (suc (suc (suc (suc n))))))))))) 10))
    windows = rw (off n 7 (lit≤ tt), off n 8 (lit≤ tt), off n 10 (lit≤ tt))

    rules : never_broken ≡ rule_of (suc (suc (suc (suc (suc (suc (suc (suc (suc (suc (suc n)))))))))))
    rules = rw (off n 2 (lit≤ tt), off n 4 (lit≤ tt), off n 6 (lit≤ tt), off n 5 (lit≤ tt), off n 7 (lit≤ tt), off n 10 (lit≤ tt), off n 8 (lit≤ tt))

    refusals : refused ≡ cond (is_create (suc (suc (suc (suc (suc (suc (suc (suc (suc (suc (suc n)))))))))))) closing_first refused
    refusals = rw (off n 4 (lit≤ tt), off n 6 (lit≤ tt))
