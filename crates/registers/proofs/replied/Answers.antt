-- `registers::replied`: the eleven arguments are the list of their elements.
use Rattle.std.proofs.Common.{ℕ, List, ◌∷◌, [], ◌++◌, ◌≡◌, length, get_or, ap, rules}
use Rattle.registers.proofs.Fields.{elements_of}
use Rattle.registers.proofs.replied.Goals as goal

pub returns : goal.returns
returns c =
    let a = c.args in
    let long : length a.arguments ≡ 11 = search rules in
    ap (λ (t : List ℕ). get_or a.registers 0 0 ∷ get_or a.registers 1 0 ∷ (t ++ (a.code ∷ get_or a.registers 14 0 ∷ a.events ∷ [])))
    (elements_of 11 a.arguments long)
