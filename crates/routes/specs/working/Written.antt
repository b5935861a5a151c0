-- What the route leaves in the places lent to it.
use Rattle.std.specs.Prelude.{List, ℕ, ◌≤◌, length, take}
use Rattle.paths.specs.Weights.{weights, energy}
use Rattle.paths.specs.Route.{FirstRoute}
use Rattle.network.specs.NetworkFile.{network_of}

-- The first route of a pair in the first places
pub record RouteFound (net : List ℕ) (x y : ℕ) (p : (weights energy).Figure) (count : ℕ) (places : List ℕ) : Type 0 where
  pub room : count ≤ length places
  pub first : FirstRoute (network_of net) x y p (take count places)
