-- Laws of a list read in pairs.
use Rattle.std.proofs.Common.{◌≡◌, ◌∙◌, ℕ, suc, ◌+◌, ◌*◌, ◌≤◌, ◌<◌, Bool, true, false, cond, not, List, [], ◌∷◌, ◌++◌, length, get_or, drop, leb, Err, refl, ap, le_trans, arith}
use lib.Seq.{drop-cons}
use Rattle.std.proofs.lemmas.Bool.{leb-true, le-leb}
use Rattle.marklist.specs.declared.ListError.TheVariants.{Outside}
use Rattle.marklist.specs.MarkList.{Pair, ListAnswer, Marked, pairs_of, first_outside}

-- a list that begins with two numbers begins with that pair
pub pairs_front : (list pair rest : List ℕ) → list ≡ pair ++ rest → length pair ≡ 2
    → pairs_of list ≡ record { block = get_or pair 0 0; count = get_or pair 1 0 } ∷ pairs_of rest
pairs_front list [] rest e l = absurd (omega arith)
pairs_front list (a ∷ []) rest e l = absurd (omega arith)
pairs_front list (a ∷ b ∷ []) rest e l = ap pairs_of e
pairs_front list (a ∷ b ∷ d ∷ pair) rest e l = absurd (omega arith)

-- and so does the list from a place on: the pair there, and the rest
pub pair_at : (list : List ℕ) (place : ℕ) → 2 * place + 1 < length list
    → pairs_of (drop (2 * place) list)
    ≡ record { block = get_or list (2 * place) 0; count = get_or list (2 * place + 1) 0 } ∷ pairs_of (drop (2 * (place + 1)) list)
pair_at list place h =
    ap pairs_of (drop-cons list (2 * place) 0 (omega arith)
    ∙ ap (λ (n : ℕ). get_or list (2 * place) 0 ∷ drop n list) one
    ∙ ap (λ (t : List ℕ). get_or list (2 * place) 0 ∷ t) (drop-cons list (2 * place + 1) 0 h))
    ∙ ap (λ (n : ℕ). record { block = get_or list (2 * place) 0; count = get_or list (2 * place + 1) 0 } ∷ pairs_of (drop n list)) two
  where
    one : suc (2 * place) ≡ 2 * place + 1
    one = omega arith

    two : suc (2 * place + 1) ≡ 2 * (place + 1)
    two = omega arith

-- the answer is that for the first pair, or that for the rest
pub answer_front : (size place : ℕ) (list pair rest : List ℕ) → list ≡ pair ++ rest → length pair ≡ 2
    → first_outside size place (pairs_of list)
    ≡ cond (not (leb (get_or pair 0 0 + get_or pair 1 0) size)) (Err (Outside place)) (first_outside size (suc place) (pairs_of rest))
answer_front size place list pair rest e l = ap (first_outside size place) (pairs_front list pair rest e l)

-- less than two numbers are no pair
pub none_left : (list : List ℕ) → length list < 2 → pairs_of list ≡ []
none_left [] h = refl
none_left (a ∷ []) h = refl
none_left (a ∷ b ∷ list) h = absurd (omega arith)

-- where no pair lies outside, the first lies inside, and none of the rest outside
front_inside : (inside : Bool) (place : ℕ) (rest : ListAnswer) → cond (not inside) (Err (Outside place)) rest ≡ Marked → (inside ≡ true) × (rest ≡ Marked)
front_inside true place rest e = (refl, e)
front_inside false place rest e = absurd cc

pub inside_front : (size place : ℕ) (pair : Pair) (pairs : List Pair) → first_outside size place (pair ∷ pairs) ≡ Marked
    → (pair.block + pair.count ≤ size) × (first_outside size (suc place) pairs ≡ Marked)
inside_front size place pair pairs e =
    let f = front_inside (leb (pair.block + pair.count) size) place (first_outside size (suc place) pairs) e in
    (leb-true (pair.block + pair.count) size f.0, f.1)

-- what lies in a window lies in a larger one
pub inside_larger : (size most place : ℕ) (pairs : List Pair) → size ≤ most → first_outside size place pairs ≡ Marked → first_outside most place pairs ≡ Marked
inside_larger size most place [] h e = refl
inside_larger size most place (pair ∷ pairs) h e =
    let f = inside_front size place pair pairs e in
    rw (le-leb (pair.block + pair.count) most (le_trans f.0 h)) (inside_larger size most (suc place) pairs h f.1)
