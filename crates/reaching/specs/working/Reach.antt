-- What the route's step asks: can the rest of the pair be spent from here?
use Rattle.std.specs.Prelude.{List, ℕ}
use Rattle.paths.specs.Weights.{weights, energy, pair}
use Rattle.paths.specs.Network.{Walk, weight}
use Rattle.network.specs.NetworkFile.{network_of}
use Rattle.paths.specs.declared.pair.Pair.{Pair}

-- The weight that a pair in the code stands for
abbrev pub weight_of : Pair → (weights energy).Figure
weight_of p = pair p.time.0 p.energy.0

-- A path from x to t that takes no more than p in either figure
pub record PathWithin (net : List ℕ) (x t : ℕ) (p : (weights energy).Figure) : Type 0 where
  pub walk : Walk (network_of net) x t
  pub no_larger : (weights energy).◌⊑◌ (weight walk) p
