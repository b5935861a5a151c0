-- No road of the junction before k fits; the pair is a path's, so the search ends at a road that does.
use Prim.Native.Nat.{◌-◌}
use Rattle.reaching.specs.working.Searched.{Held}
use Rattle.routes.proofs.RouteSteps.{RoadSearch}
use Rattle.routes.proofs.route.step_road.Given as goal

abbrev pub invariant-loop-k : goal.invariant-loop-k
invariant-loop-k l = RoadSearch l.set.net.now l.here l.ends.to l.whole.time.0 l.whole.energy.0 l.k × Held l.set.net.now l.set.labels.now l.hoplinks

abbrev pub decreases-loop-k : goal.decreases-loop-k
decreases-loop-k l = l.roads - l.k
