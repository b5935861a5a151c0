-- `agree::cover::cover_stored` is right: each turn covers one sum, and an own entry no slower than the last sum covers all that follow.
use Rattle.paths.specs.Weights.{pair}
use Rattle.agree.proofs.MergeSteps.{Merged}
use Rattle.agree.proofs.cover.cover_stored.Given as goal

abbrev pub invariant-loop-j : goal.invariant-loop-j
invariant-loop-j l = Merged l.own.list.labels.now l.at l.own.list.at (pair l.road.time.0 l.road.energy.0) l.initial.marks l.marks l.j l.next
