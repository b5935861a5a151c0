-- Each junction on the way up is above v, and less deep than the one before.
use Rattle.forest.specs.Forest.{depth_of}
use Rattle.forest.proofs.OneChain.{Walking}
use Rattle.forest.proofs.feet.walk_up.Given as goal

abbrev pub invariant-loop-feet : goal.invariant-loop-feet
invariant-loop-feet l = Walking l.labels l.feet l.v l.u

abbrev pub decreases-loop-feet : goal.decreases-loop-feet
decreases-loop-feet l = depth_of l.labels l.u
