-- The parent of a junction at depth `left` is at depth `left` - 1, so each depth is written right.
use Rattle.forest.proofs.ParentLoops.{Writing}
use Rattle.forest.proofs.parents.write_depths.Given as goal

abbrev pub invariant-loop-left : goal.invariant-loop-left
invariant-loop-left l = Writing l.labels l.v l.initial.depths l.depths l.u l.left
