-- The struct holds the number and the sum of the answer that Limited join states.
use Rattle.bushelvane.proofs.Passed.{sum_passed}
use Rattle.bushelvane.proofs.bushelvane_limited_join.Goals as goal

pub returns : goal.returns
returns c = search (sum_passed)
