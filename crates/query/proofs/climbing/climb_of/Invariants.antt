-- The climb is as many steps up as are done.
use Prim.Native.Nat.{◌-◌}
use Rattle.forest.specs.Forest.{depth_of}
use Rattle.query.specs.working.Between.{Climbs}
use Rattle.query.proofs.climbing.climb_of.Given as goal

abbrev pub invariant-loop : goal.invariant-loop
invariant-loop l = Climbs l.labels l.v (depth_of l.labels l.v - l.counter) l.here
