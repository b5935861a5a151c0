-- What the working functions behind writing leave.
use Rattle.std.specs.Prelude.{◌≡◌, List, ℕ, ◌≤◌, length, drop}
use Rattle.text.specs.Numbers.{numeral}

-- The digits of a number stand at the end of ten places
pub record Spelled (number : ℕ) (places : List ℕ) (from : ℕ) : Type 0 where
  pub ten : length places ≡ 10
  pub inside : from ≤ 10
  pub holds : drop from places ≡ numeral number
