-- Each walk leaves what is known right.
use Rattle.forest.specs.working.ParentsRead.{FeetRight}
use Rattle.forest.proofs.feet.fill_feet.Given as goal

abbrev pub invariant-loop-v : goal.invariant-loop-v
invariant-loop-v l = FeetRight l.labels l.feet
