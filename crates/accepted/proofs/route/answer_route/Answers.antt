-- A found pair goes on to its route.
use Rattle.accepted.proofs.RouteAnswers.{answered-found}
use Rattle.accepted.proofs.route.answer_route.Goals as goal

pub returns-clause-route_answered : goal.returns-clause-route_answered
returns-clause-route_answered c = answered-found c.answer.ensures c.in_ok-best.was c.put_route.ensures.route_put
