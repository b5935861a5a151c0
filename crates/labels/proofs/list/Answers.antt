-- What follows the check is `write_list` of `accepted`.
use Rattle.std.proofs.Common.{refl}
use Rattle.accepted.proofs.Accepted.{ready_for_queries}
use Rattle.labels.proofs.Outcomes.{list-answered}
use Rattle.labels.proofs.list.Goals as goal

pub write_list-requires : goal.write_list-requires
write_list-requires c = ready_for_queries c.in_ok-accept.ensures refl

pub returns : goal.returns
returns c = list-answered c.accept.ensures c.in_ok-accept.was c.write_list.ensures.list_answered c.write_list.ensures.result_value
