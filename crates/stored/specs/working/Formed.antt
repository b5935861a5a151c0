-- What a file that passed its form holds, as facts for those who read it further; `proofs/` shows that a number of 0 gives them.
use Rattle.std.specs.Prelude.{◌≡◌, true, List, ℕ, suc, ◌+◌, ◌≤◌, ◌<◌, length, get_or}
use Rattle.tables.specs.working.Layout.{starts_from, table_places}
use Rattle.forest.specs.LabelVersions.{least_entry_energy}
use Rattle.network.specs.NetworkFile.{version_of, junctions_of, roads_of}
use Rattle.network.specs.working.Fits.{NetworkFits}
use Rattle.forest.specs.LabelFile.{entries_of, count_at, time_at, energy_at, list_end}
use Rattle.refusals.specs.Order.{every}
use Rattle.forest.specs.Forest.{road_joins}
use Rattle.forest.specs.working.Fits.{ParentsFit, DepthsFilled}
use Rattle.network.specs.working.Roads.{Grouped}
use Rattle.preorder.specs.working.Numbered.{Numbered}
use Rattle.stored.specs.Stored.{lists_before, lists_of, place_of, entries_before}
use Rattle.stored.specs.ListForm.{most_bytes, most_count, most_figure}

-- The byte where the lists of v start, or would
abbrev pub start_of : List ℕ → ℕ → ℕ
start_of labels v = place_of labels (lists_before labels v)

-- A list that stands whole in the file and keeps the rules of 17
pub record ListFits (labels : List ℕ) (at : ℕ) : Type 0 where
  pub short : count_at labels at ≤ most_count
  pub inside : list_end labels at ≤ length labels
  pub fitting_time : (j : ℕ) → j < count_at labels at → (1 ≤ time_at labels at j) × (time_at labels at j ≤ most_figure)
  pub fitting_energy : (j : ℕ) → j < count_at labels at → (least_entry_energy (version_of labels) ≤ energy_at labels at j) × (energy_at labels at j ≤ most_figure)
  pub time_falls : (j : ℕ) → suc j < count_at labels at → time_at labels at (suc j) < time_at labels at j
  pub energy_rises : (j : ℕ) → suc j < count_at labels at → energy_at labels at j < energy_at labels at (suc j)

-- Labels that passed 11 to 15 and 17: the lists stand one behind another up to the end of the file
pub record Formed (labels : List ℕ) : Type 0 where
  pub few_bytes : length labels ≤ most_bytes
  pub some_junction : 1 ≤ junctions_of labels
  pub parents : ParentsFit labels
  pub lists : (g : ℕ) → g < lists_of labels → ListFits labels (place_of labels g)
  pub tile : place_of labels (lists_of labels) ≡ length labels
  pub all_entries : entries_before labels (lists_of labels) ≡ entries_of labels

-- The byte where each junction's lists start, in the lent table
pub record StartsFilled (labels tables : List ℕ) : Type 0 where
  pub places : length tables ≡ table_places
  pub start : (v : ℕ) → v < junctions_of labels → get_or tables (starts_from + v) 0 ≡ start_of labels v

-- Labels that passed 11 to 17 beside a network that passed 1 to 6
pub record FilesFit (net labels : List ℕ) : Type 0 where
  pub network : NetworkFits net
  pub formed : Formed labels
  pub one_map : junctions_of net ≡ junctions_of labels
  pub joins : every (road_joins net labels) (roads_of net) ≡ true

-- What is worked out once per call: depths and, in the lent table, starts, the roads at each junction, and the numbering
pub record Tables (net labels depths tables : List ℕ) : Type 0 where
  pub depths_filled : DepthsFilled labels depths
  pub starts_filled : StartsFilled labels tables
  pub grouped : Grouped net tables
  pub numbered : Numbered labels tables
