-- The junctions of each depth, chained from the lowest number to the highest.
use Rattle.std.specs.Prelude.{◌≡◌, List, ℕ, ◌+◌, ◌*◌, ◌≤◌, ◌<◌, length, get_or}
use Rattle.network.specs.NetworkFile.{junctions_of}
use Rattle.forest.specs.Forest.{depth_of}

-- r is the first junction of depth d from `from` on, or no junction if there is none
pub record First (labels : List ℕ) (d from r : ℕ) : Type 0 where
  pub from_on : from ≤ r
  pub few : r ≤ 1024
  pub at_level : r < junctions_of labels → depth_of labels r ≡ d
  pub skips : (w : ℕ) → from ≤ w → w < r → w < junctions_of labels → depth_of labels w ≡ d → ⊥

-- The junctions from v on are chained by depth: `heads` has the first of each depth, `nexts` the one that follows in the same depth.
-- Each is a block of its own.
pub record LevelsFrom (labels heads nexts sizes : List ℕ) (v : ℕ) : Type 0 where
  pub head_places : length heads ≡ 1024
  pub next_places : length nexts ≡ 1024
  pub size_places : length sizes ≡ 1024
  pub head : (d : ℕ) → d < 1024 → First labels d v (get_or heads d 0)
  pub next : (w : ℕ) → v ≤ w → w < junctions_of labels → First labels (depth_of labels w) (w + 1) (get_or nexts w 0)
  pub alone : (w : ℕ) → v ≤ w → w < junctions_of labels → get_or sizes w 0 ≡ 1

-- The chains of all junctions, as they are read
pub record Levels (labels heads nexts : List ℕ) : Type 0 where
  pub head_places : length heads ≡ 1024
  pub next_places : length nexts ≡ 1024
  pub head : (d : ℕ) → d < 1024 → First labels d 0 (get_or heads d 0)
  pub next : (w : ℕ) → w < junctions_of labels → First labels (depth_of labels w) (w + 1) (get_or nexts w 0)

-- w stands deeper than d, or at depth d with a number below v; numbers are below 1,024
abbrev pub Deeper : List ℕ → ℕ → ℕ → ℕ → Type 0
Deeper labels d v w = 1024 * d + w < 1024 * depth_of labels w + v

-- w stands higher than d, or at depth d with a number below v
abbrev pub Higher : List ℕ → ℕ → ℕ → ℕ → Type 0
Higher labels d v w = 1024 * depth_of labels w + w < 1024 * d + v
