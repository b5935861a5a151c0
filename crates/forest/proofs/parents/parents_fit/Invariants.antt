-- Every parent below v has fitted.
use Rattle.std.proofs.Common.{◌≡◌, ◌<◌, ℕ, true}
use Rattle.forest.specs.Forest.{parent_fits}
use Rattle.forest.proofs.parents.parents_fit.Given as goal

abbrev pub invariant-loop-v : goal.invariant-loop-v
invariant-loop-v l = (w : ℕ) → w < l.v → parent_fits l.labels w ≡ true
