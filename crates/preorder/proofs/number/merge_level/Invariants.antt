-- The loop stands at a junction of the level, and all deeper ones and those of the level below it are merged.
use Prim.Native.Nat.{◌-◌}
use Rattle.preorder.specs.working.Levels.{First}
use Rattle.preorder.specs.working.Blocks.{Merged}
use Rattle.preorder.proofs.number.merge_level.Given as goal

abbrev pub invariant-loop-v : goal.invariant-loop-v
invariant-loop-v l = First l.labels l.level l.v l.v × Merged l.labels l.sizes l.offsets l.filled l.level l.v

abbrev pub decreases-loop-v : goal.decreases-loop-v
decreases-loop-v l = 1024 - l.v
