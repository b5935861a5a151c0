-- The loop has marked what the roads below k put into the working set of l; before the first road that is l alone.
use Rattle.hoplinks.proofs.Marks.{Marking}
use Rattle.hoplinks.proofs.hoplinks.mark_hoplinks.Given as goal

abbrev pub invariant-loop-k : goal.invariant-loop-k
invariant-loop-k l = Marking l.net l.labels l.l l.marks l.k
