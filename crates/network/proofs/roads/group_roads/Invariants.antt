-- When the loop stands at k, the roads from k on are grouped: none at first, one more with each turn, all at 0.
use Rattle.tables.specs.working.Layout.{firsts_from, StaysBelow}
use Rattle.network.specs.working.RoadsRead.{GroupedFrom}
use Rattle.network.proofs.roads.group_roads.Given as goal

abbrev pub invariant-loop-k : goal.invariant-loop-k
invariant-loop-k l = GroupedFrom l.net l.tables l.k × StaysBelow firsts_from l.initial.tables l.tables
