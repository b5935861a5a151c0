-- The struct holds the number and the values of the answer that Route states.
use Rattle.bushelvane.proofs.Passed.{route-passed}
use Rattle.bushelvane.proofs.bushelvane_route.Goals as goal

pub returns : goal.returns
returns c = search (route-passed)
