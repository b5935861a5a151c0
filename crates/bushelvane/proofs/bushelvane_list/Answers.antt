-- The struct holds the number and the count of the answer that Trade-off list states.
use Rattle.bushelvane.proofs.Passed.{list-passed}
use Rattle.bushelvane.proofs.bushelvane_list.Goals as goal

pub returns : goal.returns
returns c = search (list-passed)
