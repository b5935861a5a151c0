-- The sums at the marked levels: for each marked depth, the sums of two junctions' lists for their ancestors at that depth.
use Rattle.std.specs.Prelude.{◌≡◌, List, ℕ, suc, ◌+◌, ◌-◌, ◌≤◌, ◌<◌, get_or}
use Rattle.paths.specs.Weights.{energy}
use Rattle.paths.specs.TradeOff.{IsSum}
use Rattle.lists.specs.Entries.{Weight}
use Rattle.network.specs.NetworkFile.{junctions_of}
use Rattle.forest.specs.Forest.{depth_of}
use Rattle.stored.specs.Stored.{lists_before, place_of, list_at}

-- The byte behind v's lists for its ancestors of depth k and deeper: where its list for the ancestor of depth k - 1 starts
abbrev pub behind : List ℕ → ℕ → ℕ → ℕ
behind labels v k = place_of labels (lists_before labels v + (depth_of labels v - k))

-- The level is marked, and p is a sum of entries of the lists at two bytes
pub record LevelSum (labels marks : List ℕ) (level near far : ℕ) (p : Weight) : Type 0 where
  pub marked : get_or marks level 0 ≡ 1
  pub sum : IsSum energy (list_at labels near) (list_at labels far) p

-- p is a sum at a marked level from `low` up to below `high`
pub record MarkedSum (labels marks : List ℕ) (x y low high : ℕ) (p : Weight) : Type 0 where
  pub level : ℕ
  pub not_below : low ≤ level
  pub not_above : level < high
  pub here : LevelSum labels marks level (behind labels x (suc level)) (behind labels y (suc level)) p

-- l stands above x and above y: how their lists for l and for what is above l are reached
pub record Branches (labels : List ℕ) (x y l : ℕ) : Type 0 where
  pub x_on_map : x < junctions_of labels
  pub y_on_map : y < junctions_of labels
  pub l_on_map : l < junctions_of labels
  pub below_x : depth_of labels l < depth_of labels x
  pub below_y : depth_of labels l < depth_of labels y
