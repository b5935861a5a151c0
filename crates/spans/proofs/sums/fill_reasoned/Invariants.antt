-- As many entries of the list lie below the bound as places are left, and the best sum there is the last of them, which goes to the last
-- of those places.
use Rattle.spans.proofs.ListSteps.{FillingList}
use Rattle.spans.proofs.sums.fill_reasoned.Given as goal

abbrev pub invariant-loop-place : goal.invariant-loop-place
invariant-loop-place g l = FillingList (g.S.ReasonedSums.has l.sums) l.count l.initial.times l.initial.energies l.below.0 l.place l.times l.energies l.span l.leasts
