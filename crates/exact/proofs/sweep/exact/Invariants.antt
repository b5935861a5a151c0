-- The lists for the junctions from spot i on agree; a junction that fails is one list that is not right.
use Rattle.agree.specs.working.Agreeing.{Unmarked}
use Rattle.exact.specs.working.Sweep.{Swept}
use Rattle.exact.proofs.Verdicts.{AgreedFrom}
use Rattle.exact.proofs.sweep.exact.Given as goal

abbrev pub invariant-loop-i : goal.invariant-loop-i
invariant-loop-i l = AgreedFrom l.set.net.now l.set.labels.now l.set.tables.now l.i × Swept l.set.labels.now l.set.tables.now l.i l.places × Unmarked l.marks
