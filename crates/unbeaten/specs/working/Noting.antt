-- Sums of two lists in slices noted by their times.
use Rattle.std.specs.Prelude.{List, ℕ, ◌+◌, length, get_or}
use Rattle.paths.specs.Weights.{pair}
use Rattle.lists.specs.Entries.{Weight}
use Rattle.lists.specs.working.Lists.{IsList}
use Rattle.lists.specs.working.Sums.{sum_at}
use Rattle.spans.specs.working.Noting.{SumOf}
use Rattle.joins.specs.Form.{most_number}

-- The sums of one entry and the entries of a list
abbrev pub sums_with : ℕ → ℕ → List ℕ → List ℕ → ℕ → Weight
sums_with t e more_times more_energies j = pair (t + get_or more_times j 0) (e + get_or more_energies j 0)

-- p is a sum of two lists
abbrev pub ListsSum : List ℕ → List ℕ → List ℕ → List ℕ → Weight → Type 0
ListsSum times energies more_times more_energies = SumOf (sum_at times energies more_times more_energies) (length times) (length more_times)

-- Both are lists
pub record TwoLists (times energies more_times more_energies : List ℕ) : Type 0 where
  pub first : IsList most_number times energies
  pub second : IsList most_number more_times more_energies
