-- The route is found into places of its own; the lent ones are written once they are known to be enough.
use Rattle.accepted.proofs.RouteAnswers.{route_too_long, route_put}
use borrow.Author.Rules.{rules}
use Rattle.accepted.proofs.route.put_route.Goals as goal

pub route-count-requires : goal.route-count-requires
route-count-requires c = record { prepared = search rules; x_bound = search rules; skyline = search rules; junctions_len = search rules }

pub returns-then-count-junctions : goal.returns-then-count-junctions
returns-then-count-junctions c = record { route_put = search (route_too_long); result_value = search rules }

pub returns : goal.returns
returns c = record { route_put = search (route_put); result_value = search rules }
