-- What the functions that mark the hoplinks tell each other.
use Rattle.std.specs.Prelude.{◌≡◌, List, ℕ, ◌-◌, ◌≤◌, ◌<◌, length, get_or}
use Rattle.paths.specs.Weights.{weights, energy}
use Rattle.paths.specs.Forest.{Above, Ancestor, WorkingSet}
use Rattle.network.specs.NetworkFile.{junctions_of, RoadArc, network_of}
use Rattle.forest.specs.LabelFile.{parents_of}
use Rattle.forest.specs.Forest.{depth_of, ancestor_of}

-- Of the places up to `own` the last alone is marked
pub record OneMark (marks : List ℕ) (own : ℕ) : Type 0 where
  pub places : length marks ≡ 1024
  pub others : (k : ℕ) → k < own → get_or marks k 0 ≡ 0
  pub last : get_or marks own 0 ≡ 1

-- `upper` is a proper ancestor of `lower`
pub record OnBranch (labels : List ℕ) (upper lower : ℕ) : Type 0 where
  pub upper_on_map : upper < junctions_of labels
  pub lower_on_map : lower < junctions_of labels
  pub above : Above (parents_of labels) upper lower

-- r is the depth of `upper` where l stands between it and `lower`, and else the depth of l
pub data CrossingDepth (labels : List ℕ) (l upper lower r : ℕ) : Type 0 where
  crosses : Above (parents_of labels) upper l → Ancestor (parents_of labels) l lower → r ≡ depth_of labels upper → CrossingDepth labels l upper lower r
  passes_by : (Above (parents_of labels) upper l → Ancestor (parents_of labels) l lower → ⊥) → r ≡ depth_of labels l → CrossingDepth labels l upper lower r

-- r is the depth of a junction in the working set of l, and if road k puts a proper ancestor of l there, it is the depth of that one
pub record RoadMark (net labels : List ℕ) (l k r : ℕ) : Type 0 where
  pub up : r ≤ depth_of labels l
  pub right : WorkingSet (network_of net) (parents_of labels) l (ancestor_of labels l (depth_of labels l - r))
  pub all : {h end : ℕ} {w : (weights energy).Figure} → Above (parents_of labels) h l → Ancestor (parents_of labels) l end → RoadArc net h end k w → r ≡ depth_of labels h
