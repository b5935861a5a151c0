-- The struct holds the number and the count of the answer that Join states.
use Rattle.bushelvane.proofs.Passed.{join-passed}
use Rattle.bushelvane.proofs.bushelvane_join.Goals as goal

pub returns : goal.returns
returns c = search (join-passed)
