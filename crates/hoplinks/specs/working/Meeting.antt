-- Where two branches meet: the deepest common ancestor, and the marks of the hoplinks above it.
use Rattle.std.specs.Prelude.{◌≡◌, List, ℕ, ◌-◌, ◌≤◌, ◌<◌, length, get_or}
use Rattle.paths.specs.Forest.{Deepest, WorkingSet}
use Rattle.network.specs.NetworkFile.{network_of, junctions_of}
use Rattle.forest.specs.LabelFile.{parents_of}
use Rattle.forest.specs.Forest.{depth_of, ancestor_of}

-- l is the deepest common ancestor of x and y
pub record MeetsAt (labels : List ℕ) (x y l : ℕ) : Type 0 where
  pub on_map : l < junctions_of labels
  pub deepest : Deepest (parents_of labels) x y l

-- By depth, down to l: 1 for the ancestors of l that are in its working set (the hoplinks, where l is the deepest common ancestor), 0 for the others
pub record HopMarks (net labels : List ℕ) (l : ℕ) (marks : List ℕ) : Type 0 where
  pub marks_length : length marks ≡ 1024
  pub small : (k : ℕ) → k ≤ depth_of labels l → get_or marks k 0 ≤ 1
  pub marked : (k : ℕ) → k ≤ depth_of labels l → get_or marks k 0 ≡ 1 → WorkingSet (network_of net) (parents_of labels) l (ancestor_of labels l (depth_of labels l - k))
  pub all_marked : (k : ℕ) → k ≤ depth_of labels l → WorkingSet (network_of net) (parents_of labels) l (ancestor_of labels l (depth_of labels l - k)) → get_or marks k 0 ≡ 1
