-- A step of a route: the road to take from x, where a pair is to be spent on the way to y.
use Rattle.std.specs.Prelude.{◌≡◌, true, List, ℕ, ◌-◌, ◌≤◌, ◌<◌}
use Rattle.paths.specs.Weights.{pair}
use Rattle.network.specs.NetworkFile.{roads_of, road_time, road_energy}
use Rattle.network.specs.working.Roads.{touches, other_end}
use Rattle.paths.specs.declared.pair.Pair.{Pair}
use Rattle.reaching.specs.working.Reach.{PathWithin}

-- The pair of road k
pub record RoadPair (net : List ℕ) (k : ℕ) (takes : Pair) : Type 0 where
  pub time_is : takes.time.0 ≡ road_time net k
  pub energy_is : takes.energy.0 ≡ road_energy net k

-- A part takes no more than the whole in either figure
pub record FitsInto (part whole : Pair) : Type 0 where
  pub fitting_time : part.time.0 ≤ whole.time.0
  pub fitting_energy : part.energy.0 ≤ whole.energy.0

-- Road k fits into (whole_time, whole_energy), and a path from its other end to y fits into the rest
pub record StepFits (net : List ℕ) (x y k whole_time whole_energy : ℕ) : Type 0 where
  pub fitting_time : road_time net k ≤ whole_time
  pub fitting_energy : road_energy net k ≤ whole_energy
  pub within : PathWithin net (other_end net x k) y (pair (whole_time - road_time net k) (whole_energy - road_energy net k))

-- Of the roads of x, k is the first in file order that fits
pub record StepRoad (net : List ℕ) (x y k whole_time whole_energy : ℕ) : Type 0 where
  pub stands : k < roads_of net
  pub at_start : touches net x k ≡ true
  pub fits : StepFits net x y k whole_time whole_energy
  pub none_before : (j : ℕ) → j < k → touches net x j ≡ true → StepFits net x y j whole_time whole_energy → ⊥
