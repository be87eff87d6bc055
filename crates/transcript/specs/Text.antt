-- What the bench program prints of registers and flash: document 01, "Bench program".
use Rattle.std.specs.Prelude.{ℕ, ◌+◌, ◌-◌, ◌/◌, ◌%◌, cond, List, [], ◌∷◌, ltb, eqb}

-- an "upper-case hex digit": 0 to 9 from character 48 on, A to F from 65 on
abbrev pub hex_digit : ℕ → ℕ
hex_digit d = cond (ltb d 10) (d + 48) (d - 10 + 65)

-- "two upper-case hex digits each, single spaces", and "Lines end with a line feed"
unfoldable pub register_line : List ℕ → List ℕ
register_line [] = 10 ∷ []
register_line (r ∷ []) = hex_digit (r / 16 % 16) ∷ hex_digit (r % 16) ∷ 10 ∷ []
register_line (r ∷ s ∷ rs) = hex_digit (r / 16 % 16) ∷ hex_digit (r % 16) ∷ 32 ∷ register_line (s ∷ rs)

-- "count of bytes other than FF"
unfoldable pub other_than_ff : List ℕ → ℕ
other_than_ff [] = 0
other_than_ff (b ∷ bs) = cond (eqb b 0xff) 0 1 + other_than_ff bs
