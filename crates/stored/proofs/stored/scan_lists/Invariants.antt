-- The lists of the junctions below v are passed, none with a fault, and their starts are noted.
use Rattle.stored.proofs.Scan.{AllPassed}
use Rattle.stored.proofs.stored.scan_lists.Given as goal

abbrev pub invariant-loop-v : goal.invariant-loop-v
invariant-loop-v l = AllPassed l.labels l.v l.passed.at l.passed.total l.tables
