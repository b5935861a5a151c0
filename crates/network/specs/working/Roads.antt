-- The roads at each junction, in file order. Records rise by (lower, higher), so this is also the order of the other ends.
use Rattle.std.specs.Prelude.{◌≡◌, Bool, cond, ◌||◌, List, ℕ, zero, suc, ◌+◌, ◌-◌, ◌*◌, ◌<◌, eqb, length, get_or}
use Rattle.tables.specs.working.Layout.{firsts_from, nexts_from, table_places}
use Rattle.network.specs.NetworkFile.{junctions_of, roads_of, road_low, road_high}

-- Road k has v for an end
unfoldable pub touches : List ℕ → ℕ → ℕ → Bool
touches net v k = eqb (road_low net k) v || eqb (road_high net k) v

-- The other end of road k
unfoldable pub other_end : List ℕ → ℕ → ℕ → ℕ
other_end net v k = cond (eqb (road_low net k) v) (road_high net k) (road_low net k)

-- The first of `left` roads from k on that has v for an end, or the road behind them
unfoldable pub search_road : List ℕ → ℕ → ℕ → ℕ → ℕ
search_road net v k zero = k
search_road net v k (suc left) = cond (touches net v k) k (search_road net v (suc k) left)

-- The first road from k on that has v for an end, m if there is none
unfoldable pub next_road : List ℕ → ℕ → ℕ → ℕ
next_road net v k = search_road net v k (roads_of net - k)

-- The roads grouped by junction, once per call, in the lent table: each junction's first road, and which road follows at either end
pub record Grouped (net tables : List ℕ) : Type 0 where
  pub places : length tables ≡ table_places
  pub first : (v : ℕ) → v < junctions_of net → get_or tables (firsts_from + v) 0 ≡ next_road net v 0
  pub next_low : (k : ℕ) → k < roads_of net → get_or tables (nexts_from + 2 * k) 0 ≡ next_road net (road_low net k) (suc k)
  pub next_high : (k : ℕ) → k < roads_of net → get_or tables (nexts_from + 2 * k + 1) 0 ≡ next_road net (road_high net k) (suc k)
