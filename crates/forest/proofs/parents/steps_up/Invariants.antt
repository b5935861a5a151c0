-- The steps so far and those left make up the depth; at a root none is left, after n none is counted, and where the depth is known it tells them.
use Rattle.forest.proofs.ParentLoops.{Climbing}
use Rattle.forest.proofs.parents.steps_up.Given as goal

abbrev pub invariant-loop-steps : goal.invariant-loop-steps
invariant-loop-steps l = Climbing l.labels l.n l.v l.u l.steps
