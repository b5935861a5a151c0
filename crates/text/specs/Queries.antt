-- Query lines (SCOPE 6.2).
use Rattle.std.specs.Prelude.{◌≡◌, List, ◌∷◌, ◌++◌, ℕ}
use Rattle.text.specs.Numbers.{IsNumeral, space_byte}

-- A query line: three numbers, one space between two (SCOPE 6.2)
pub record IsQuery (line : List ℕ) (s t limit : ℕ) : Type 0 where
  pub first : List ℕ
  pub second : List ℕ
  pub third : List ℕ
  pub spaced : line ≡ first ++ (space_byte ∷ (second ++ (space_byte ∷ third)))
  pub first_is : IsNumeral first s
  pub second_is : IsNumeral second t
  pub third_is : IsNumeral third limit

-- 33: a line that is no query (SCOPE 4.2, 6.2)
abbrev pub BadLine : List ℕ → Type 0
BadLine line = (s t limit : ℕ) → IsQuery line s t limit → ⊥
