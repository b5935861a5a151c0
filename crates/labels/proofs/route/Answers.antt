-- What follows the check is `answer_route` of `accepted`.
use Rattle.std.proofs.Common.{refl}
use Rattle.accepted.proofs.Accepted.{ready_for_queries}
use Rattle.labels.proofs.Outcomes.{route-answered}
use Rattle.labels.proofs.route.Goals as goal

pub answer_route-requires : goal.answer_route-requires
answer_route-requires c = ready_for_queries c.in_ok-accept.ensures refl

pub returns : goal.returns
returns c = route-answered c.accept.ensures c.in_ok-accept.was c.answer_route.ensures.route_answered c.answer_route.ensures.result_value
