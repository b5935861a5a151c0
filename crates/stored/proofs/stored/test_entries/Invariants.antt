-- No entry before j has a fault, and the ceiling and the floor are those of entry j.
use Rattle.stored.proofs.Entries.{Tested}
use Rattle.stored.proofs.stored.test_entries.Given as goal

abbrev pub invariant-loop-j : goal.invariant-loop-j
invariant-loop-j l = Tested l.labels l.at l.whole l.j l.ceiling.0 l.floor.0
