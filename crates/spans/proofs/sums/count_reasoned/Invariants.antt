-- Each best sum below the bound is the last entry of the list there, so the entries are counted one by one, from the last to the first.
use Rattle.spans.proofs.ListSteps.{CountingList}
use Rattle.spans.proofs.sums.count_reasoned.Given as goal

abbrev pub invariant-loop-bound : goal.invariant-loop-bound
invariant-loop-bound g l = CountingList (g.S.ReasonedSums.has l.sums) l.count l.bound.0 l.span l.leasts

abbrev pub decreases-loop-bound : goal.decreases-loop-bound
decreases-loop-bound g l = l.bound.0
