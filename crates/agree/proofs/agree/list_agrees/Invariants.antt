-- `agree::agree::list_agrees` is right: each turn adds one road of v, and behind the last road the list agrees exactly if every entry is marked.
use Prim.Native.Nat.{◌-◌}
use Rattle.agree.proofs.AgreeSteps.{Agreed}
use Rattle.agree.proofs.agree.list_agrees.Given as goal

abbrev pub invariant-loop-k : goal.invariant-loop-k
invariant-loop-k l = Agreed l.net l.labels l.v l.u l.at l.k l.initial.marks l.marks

abbrev pub decreases-loop-k : goal.decreases-loop-k
decreases-loop-k l = l.roads - l.k
