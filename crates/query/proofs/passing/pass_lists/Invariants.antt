-- After each turn the place is four lists further.
use Prim.Native.Nat.{◌-◌, ◌≤◌}
use Rattle.stored.proofs.Places.{Moved}
use Rattle.query.proofs.passing.pass_lists.Given as goal

abbrev pub invariant-loop-left : goal.invariant-loop-left
invariant-loop-left l = record { moved : Moved l.labels l.at l.lists (l.lists - l.left) l.here; few : l.left ≤ l.lists }

abbrev pub decreases-loop-left : goal.decreases-loop-left
decreases-loop-left l = l.left
