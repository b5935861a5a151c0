-- What is written so far, with the first route of the rest behind it, is the first route of the whole; at y nothing is left.
use Rattle.reaching.specs.working.Searched.{Held}
use Rattle.routes.proofs.RouteWay.{OnWay}
use Rattle.routes.proofs.route.route.Given as goal

abbrev pub invariant-loop-here : goal.invariant-loop-here
invariant-loop-here l = OnWay l.set.net.now l.x l.y l.initial.rest l.junctions l.count l.here l.rest × Held l.set.net.now l.set.labels.now l.hoplinks

abbrev pub decreases-loop-here : goal.decreases-loop-here
decreases-loop-here l = l.rest.time.0
