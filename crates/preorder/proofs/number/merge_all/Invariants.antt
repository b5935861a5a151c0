-- The levels from `level` down are merged: none at first, one more with each turn, all at 0.
use Rattle.preorder.specs.working.Blocks.{Merged}
use Rattle.preorder.proofs.number.merge_all.Given as goal

abbrev pub invariant-loop-level : goal.invariant-loop-level
invariant-loop-level l = Merged l.labels l.sizes l.offsets l.total l.level 1024
