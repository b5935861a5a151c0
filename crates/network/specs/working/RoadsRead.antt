-- What the functions that read and group the roads tell their callers and each other.
use Rattle.std.specs.Prelude.{◌≡◌, List, ℕ, suc, ◌+◌, ◌*◌, ◌≤◌, ◌<◌, length, get_or}
use Rattle.tables.specs.working.Layout.{firsts_from, nexts_from, table_places, StaysBelow}
use Rattle.network.specs.NetworkFile.{junctions_of, roads_of, road_low, road_high}
use Rattle.network.specs.working.Roads.{other_end, next_road}

-- r is the end of road k that is not v
pub record ReadOther (net : List ℕ) (v k r : ℕ) : Type 0 where
  pub is : r ≡ other_end net v k
  pub small : r < 65536

-- ---- While the roads are grouped

-- The first roads of the first n junctions are x, and nothing was written before them
pub record FirstsFilled (before tables : List ℕ) (x n : ℕ) : Type 0 where
  pub places : length tables ≡ table_places
  pub each : (v : ℕ) → v < n → get_or tables (firsts_from + v) 0 ≡ x
  pub starts_stay : StaysBelow firsts_from before tables

-- The roads from k on are grouped
pub record GroupedFrom (net tables : List ℕ) (k : ℕ) : Type 0 where
  pub places : length tables ≡ table_places
  pub first : (v : ℕ) → v < junctions_of net → get_or tables (firsts_from + v) 0 ≡ next_road net v k
  pub next_low : (j : ℕ) → k ≤ j → j < roads_of net → get_or tables (nexts_from + 2 * j) 0 ≡ next_road net (road_low net j) (suc j)
  pub next_high : (j : ℕ) → k ≤ j → j < roads_of net → get_or tables (nexts_from + 2 * j + 1) 0 ≡ next_road net (road_high net j) (suc j)
