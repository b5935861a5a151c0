-- No entry from j up to the start fits.
use Rattle.std.proofs.Common.{ℕ, ◌+◌, ◌≤◌, ◌<◌, get_or}
use Rattle.lists.proofs.sums.fitting.Given as goal

abbrev pub invariant-loop-j : goal.invariant-loop-j
invariant-loop-j l = (k : ℕ) → l.j ≤ k → k < l.from → l.limit.0 < l.energy.0 + get_or l.more_energies k 0
