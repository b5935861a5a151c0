-- The loop is at the ancestor that it has climbed to, and stops at the k-th.
use mathlib.Core.Path.{◌≡◌}
use Rattle.forest.specs.Forest.{ancestor_of}
use Rattle.forest.proofs.parents.ancestor_of.Given as goal

abbrev pub invariant-loop : goal.invariant-loop
invariant-loop l = l.u ≡ ancestor_of l.labels l.v l.counter
