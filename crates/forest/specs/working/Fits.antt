-- What parents that passed 15 hold, as facts for those who read them further; `proofs/` shows that passing gives them.
use Rattle.std.specs.Prelude.{◌≡◌, true, List, ℕ, ◌≤◌, ◌<◌, length, get_or}
use Rattle.network.specs.NetworkFile.{junctions_of}
use Rattle.forest.specs.LabelFile.{lists_from}
use Rattle.forest.specs.Forest.{depth_of, parent_fits}

-- Parents that passed 15
pub record ParentsFit (labels : List ℕ) : Type 0 where
  pub few_junctions : junctions_of labels ≤ 1024
  pub inside : lists_from labels ≤ length labels
  pub fits : (v : ℕ) → v < junctions_of labels → parent_fits labels v ≡ true
  pub ends : (v : ℕ) → v < junctions_of labels → depth_of labels v < junctions_of labels

-- The depths of the junctions, worked out once per call
pub record DepthsFilled (labels depths : List ℕ) : Type 0 where
  pub places : length depths ≡ 1024
  pub depth : (v : ℕ) → v < junctions_of labels → get_or depths v 0 ≡ depth_of labels v
