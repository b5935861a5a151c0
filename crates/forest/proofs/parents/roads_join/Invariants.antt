-- Every road below k has joined.
use Rattle.std.proofs.Common.{◌≡◌, ◌<◌, ℕ, true}
use Rattle.forest.specs.Forest.{road_joins}
use Rattle.forest.proofs.parents.roads_join.Given as goal

abbrev pub invariant-loop-k : goal.invariant-loop-k
invariant-loop-k l = (j : ℕ) → j < l.k → road_joins l.net l.labels j ≡ true
