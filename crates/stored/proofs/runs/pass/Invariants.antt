-- Each list that is passed is short and without fault.
use Rattle.stored.proofs.ShortLists.{Running}
use Rattle.stored.proofs.runs.pass.Given as goal

abbrev pub invariant-loop : goal.invariant-loop
invariant-loop g l = Running l.labels l.at l.lists l.total l.end l.counter l.run
