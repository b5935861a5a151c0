-- When the loop stands at v the junctions from v on are chained: none at first, one more with each turn, all at 0.
use Rattle.preorder.specs.working.Levels.{LevelsFrom}
use Rattle.preorder.proofs.number.chain_levels.Given as goal

abbrev pub invariant-loop-v : goal.invariant-loop-v
invariant-loop-v l = LevelsFrom l.labels l.heads l.nexts l.sizes l.v
