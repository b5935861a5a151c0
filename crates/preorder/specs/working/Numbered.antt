-- What a numbering is in which the descendants of each junction stand in one block right behind it.
use Rattle.std.specs.Prelude.{◌≡◌, List, ℕ, ◌+◌, ◌≤◌, ◌<◌, length, get_or}
use Rattle.paths.specs.Forest.{Ancestor}
use Rattle.tables.specs.working.Layout.{order_from, spots_from, sizes_from, table_places}
use Rattle.network.specs.NetworkFile.{junctions_of}
use Rattle.forest.specs.LabelFile.{parents_of}

-- Of the lent table: the junction at spot i, the spot of junction v, and how many stand in its block, itself included
abbrev pub junction_at : List ℕ → ℕ → ℕ
junction_at tables i = get_or tables (order_from + i) 0

abbrev pub spot_of : List ℕ → ℕ → ℕ
spot_of tables v = get_or tables (spots_from + v) 0

abbrev pub size_of : List ℕ → ℕ → ℕ
size_of tables v = get_or tables (sizes_from + v) 0

-- The junctions in an order in which the descendants of each stand right behind it
pub record Numbered (labels tables : List ℕ) : Type 0 where
  pub places : length tables ≡ table_places
  pub at_spot : (v : ℕ) → v < junctions_of labels → junction_at tables (spot_of tables v) ≡ v
  pub spot_below : (v : ℕ) → v < junctions_of labels → spot_of tables v < junctions_of labels
  pub on_map : (i : ℕ) → i < junctions_of labels → junction_at tables i < junctions_of labels
  pub spot_of_junction : (i : ℕ) → i < junctions_of labels → spot_of tables (junction_at tables i) ≡ i
  pub block_inside : (v : ℕ) → v < junctions_of labels → spot_of tables v + size_of tables v ≤ junctions_of labels
  -- u is v or an ancestor of v exactly if v stands in the block of u
  pub in_block :
      (u v : ℕ) →
      u < junctions_of labels →
      v < junctions_of labels →
      Ancestor (parents_of labels) u v →
      (spot_of tables u ≤ spot_of tables v) × (spot_of tables v < spot_of tables u + size_of tables u)
  pub block_below :
      (u v : ℕ) →
      u < junctions_of labels →
      v < junctions_of labels →
      spot_of tables u ≤ spot_of tables v →
      spot_of tables v < spot_of tables u + size_of tables u →
      Ancestor (parents_of labels) u v
