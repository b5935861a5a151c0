-- Every second passed has an energy that is not below the bound.
use Rattle.std.proofs.Common.{ℕ, ◌≤◌, ◌<◌, get_or}
use Rattle.spans.proofs.first_below.Given as goal

abbrev pub invariant-loop-second : goal.invariant-loop-second
invariant-loop-second l = (k : ℕ) → l.from ≤ k → k < l.second → l.bound.0 ≤ get_or l.leasts k 0
