-- The loop has settled every junction below v; a parent that does not fit and a chain that returns fail.
use Rattle.forest.proofs.ParentLoops.{Filling}
use Rattle.forest.proofs.parents.fill_depths.Given as goal

abbrev pub invariant-loop-v : goal.invariant-loop-v
invariant-loop-v l = Filling l.labels l.depths l.v
