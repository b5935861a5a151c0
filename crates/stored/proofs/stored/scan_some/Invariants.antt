-- So many lists are passed, none with a fault, and the entries counted make up the bytes passed.
use Rattle.stored.specs.working.Scanned.{PassedSome}
use Rattle.stored.proofs.stored.scan_some.Given as goal

abbrev pub invariant-loop : goal.invariant-loop
invariant-loop l = PassedSome l.labels l.at l.lists l.total l.counter l.place.at l.sum
