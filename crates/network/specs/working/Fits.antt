-- What a network file that passed holds, as facts for those who read it further; `proofs/Accepted.antt` shows that a number of 0
-- gives them.
use Rattle.std.specs.Prelude.{◌≡◌, true, List, ℕ, ◌≤◌, ◌<◌, length}
use Rattle.network.specs.Versions.{least_energy}
use Rattle.network.specs.NetworkFile.{version_of, junctions_of, roads_of, record_at, road_low, road_high, road_time, road_energy}
use Rattle.network.specs.NetworkNumber.{record_rises}

-- A network that passed
pub record NetworkFits (net : List ℕ) : Type 0 where
  pub some_junction : 1 ≤ junctions_of net
  pub few_junctions : junctions_of net ≤ 1024
  pub few_roads : roads_of net ≤ 4096
  pub whole : length net ≡ record_at net (roads_of net) 0
  pub low_below_high : (k : ℕ) → k < roads_of net → road_low net k < road_high net k
  pub high_on_map : (k : ℕ) → k < roads_of net → road_high net k < junctions_of net
  pub rises : (k : ℕ) → k < roads_of net → record_rises net k ≡ true
  pub takes_time : (k : ℕ) → k < roads_of net → 1 ≤ road_time net k
  pub takes_energy : (k : ℕ) → k < roads_of net → least_energy (version_of net) ≤ road_energy net k
