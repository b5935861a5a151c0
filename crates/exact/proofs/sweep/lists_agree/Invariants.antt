-- The lists of the junctions so far agree; one that does not ends it.
use Rattle.agree.specs.working.Agreeing.{Unmarked}
use Rattle.exact.proofs.Verdicts.{AgreedTo}
use Rattle.exact.proofs.sweep.lists_agree.Given as goal

abbrev pub invariant-loop-v : goal.invariant-loop-v
invariant-loop-v l = AgreedTo l.set.net.now l.set.labels.now l.below l.u l.v-index × Unmarked l.marks
