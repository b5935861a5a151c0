-- After i entries of the first list their best sum is known, and beside a later entry none of the second list from j on fits.
use Rattle.lists.proofs.Walk.{Walked}
use Rattle.lists.proofs.sums.best_sum.Given as goal

abbrev pub invariant-loop-i : goal.invariant-loop-i
invariant-loop-i l = Walked l.times l.energies l.more_times l.more_energies l.limit.0 l.i l.j l.best
