-- Lines (SCOPE 6.2).
use Rattle.std.specs.Prelude.{◌≡◌, List, ℕ, ◌-◌, ◌≤◌, ◌<◌, length, get_or, take, drop}

-- The byte that ends a line (SCOPE 6.2)
abbrev pub newline_byte : ℕ
newline_byte = 10

-- The line that starts at a byte ends at the first newline, or with the input; the next one starts behind that newline, and there
-- is none where the input has ended (SCOPE 6.2)
pub record LineEnds (input : List ℕ) (start end : ℕ) : Type 0 where
  pub forward : start ≤ end
  pub inside : end ≤ length input
  pub no_newline : (i : ℕ) → start ≤ i → i < end → get_or input i 0 ≡ newline_byte → ⊥
  pub newline : end < length input → get_or input end 0 ≡ newline_byte

-- The bytes of a line (SCOPE 6.2)
unfoldable pub line_of : List ℕ → ℕ → ℕ → List ℕ
line_of input start end = take (end - start) (drop start input)
