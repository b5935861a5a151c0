-- What the functions that pass lists of one entry tell.
use Rattle.std.specs.Prelude.{◌≡◌, List, ℕ, ◌*◌, ◌≤◌}
use Rattle.forest.specs.LabelFile.{count_at}

-- How many bytes a list of one entry takes
abbrev pub single_bytes : ℕ
single_bytes = 10

-- The product of the counts at two bytes, numbers of 16 bits
pub record CountsProduct (labels : List ℕ) (one other r : ℕ) : Type 0 where
  pub is : r ≡ count_at labels one * count_at labels other
  pub small : r ≤ 65535 * 65535
