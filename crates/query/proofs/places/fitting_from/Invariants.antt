-- Each entry passed is over beside so much energy; the first that is not ends the way down.
use Rattle.std.proofs.Common.{ℕ, ◌+◌, ◌≤◌, ◌<◌}
use Rattle.forest.specs.LabelFile.{energy_at}
use Rattle.query.proofs.places.fitting_from.Given as goal

abbrev pub invariant-loop-j : goal.invariant-loop-j
invariant-loop-j l = (k : ℕ) → l.j ≤ k → k < l.from → l.limit.0 < l.beside.0 + energy_at l.list.labels.now l.list.at k
