-- Each step up leaves open whether u is above, until one foot or the depth of u tells.
use Rattle.forest.specs.Forest.{depth_of}
use Rattle.forest.proofs.OneChain.{Lifting}
use Rattle.forest.proofs.feet.is_above.Given as goal

abbrev pub invariant-loop-w : goal.invariant-loop-w
invariant-loop-w l = Lifting l.labels l.u l.v l.w

abbrev pub decreases-loop-w : goal.decreases-loop-w
decreases-loop-w l = depth_of l.labels l.w
