-- Each turn moves one junction on.
use Rattle.exact.proofs.Moving.{Moving}
use Rattle.exact.proofs.sweep.move_on.Given as goal

abbrev pub invariant-loop-v : goal.invariant-loop-v
invariant-loop-v l = Moving l.labels l.below l.v-index l.initial.places l.places
