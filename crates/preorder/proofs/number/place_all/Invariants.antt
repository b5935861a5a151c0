-- The levels above `level` are placed: none at first, one more with each turn, all at the count of junctions.
use Rattle.preorder.specs.working.Blocks.{Placed}
use Rattle.preorder.proofs.number.place_all.Given as goal

abbrev pub invariant-loop-level : goal.invariant-loop-level
invariant-loop-level l = Placed l.labels l.offsets l.spots l.level 0
