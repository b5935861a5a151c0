-- Which list is told by the stored lists between two junctions.
use Rattle.std.specs.Prelude.{◌≡◌, ℕ}
use mathlib.Core.List.{List, []}
use Rattle.lists.specs.Entries.{Weight}
use Rattle.spans.specs.working.Below.{ListOf}
use Rattle.stored.specs.Stored.{list_at}
use Rattle.stored.specs.working.Formed.{ListFits}
use Rattle.query.specs.declared.Between.{Between}
use Rattle.query.specs.declared.Between.TheVariants.{Nothing, List as OneList, Lists as TwoLists}
use Rattle.query.specs.working.Sums.{SumIn, Row, RowFits}

-- The list stored at a byte
pub record StoredList (labels : List ℕ) (at : ℕ) (l : List Weight) : Type 0 where
  pub fits : ListFits labels at
  pub is : l ≡ list_at labels at

-- The unbeaten sums of the lists at two bytes and of those behind them, so many on each side
pub record JoinedList (labels : List ℕ) (near far levels : ℕ) (l : List Weight) : Type 0 where
  pub fits : RowFits labels near far levels
  pub is : ListOf (SumIn labels (Row labels near far levels)) l

-- No list, no entry; one list is told as it is stored; of two for each common ancestor the unbeaten sums are
abbrev pub Tells : List ℕ → Between → List Weight → Type 0
Tells labels Nothing l = l ≡ []
Tells labels (OneList at) l = StoredList labels at l
Tells labels (TwoLists near far levels meeting) l = JoinedList labels near far levels l
