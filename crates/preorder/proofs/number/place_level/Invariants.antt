-- The loop stands at a junction of the level, and all higher ones and those of the level below it are placed.
use Prim.Native.Nat.{◌-◌}
use Rattle.preorder.specs.working.Levels.{First}
use Rattle.preorder.specs.working.Blocks.{Placed}
use Rattle.preorder.proofs.number.place_level.Given as goal

abbrev pub invariant-loop-v : goal.invariant-loop-v
invariant-loop-v l = First l.labels l.level l.v l.v × Placed l.labels l.offsets l.spots l.level l.v

abbrev pub decreases-loop-v : goal.decreases-loop-v
decreases-loop-v l = 1024 - l.v
