-- What every query stands on.
use Rattle.std.specs.Prelude.{List, ℕ}
use Rattle.network.specs.working.Roads.{Grouped}
use Rattle.forest.specs.working.Fits.{DepthsFilled}
use Rattle.preorder.specs.working.Numbered.{Numbered}
use Rattle.stored.specs.Right.{EveryListRight}
use Rattle.stored.specs.working.Formed.{StartsFilled, FilesFit}

-- A network and labels that pass every test, with what is worked out once per call
pub record Prepared (net labels depths tables : List ℕ) : Type 0 where
  pub beside : FilesFit net labels
  pub every_list_right : EveryListRight net labels
  pub depths_filled : DepthsFilled labels depths
  pub starts_filled : StartsFilled labels tables
  pub grouped : Grouped net tables
  pub numbered : Numbered labels tables
