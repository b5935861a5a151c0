-- `agree::cover::quick_from` is right: the entries from the hint up to i are slower.
use Prim.Native.Nat.{ℕ, ◌≤◌, ◌<◌}
use Rattle.forest.specs.LabelFile.{time_at}
use Rattle.agree.proofs.cover.quick_from.Given as goal

abbrev pub invariant-loop-i : goal.invariant-loop-i
invariant-loop-i l = (k : ℕ) → l.hint ≤ k → k < l.i → l.time.0 < time_at l.own.list.labels.now l.own.list.at k
