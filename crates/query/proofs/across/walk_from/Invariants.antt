-- Every near entry that is passed has its best sum weighed; where the walk ends, no later one has a better sum.
use Rattle.query.proofs.BestSums.{Walked}
use Rattle.query.proofs.across.walk_from.Given as goal

abbrev pub invariant-loop-i : goal.invariant-loop-i
invariant-loop-i l = Walked l.lists.labels.now l.lists.near l.lists.far l.limit.0 l.initial.best l.i l.j l.best
