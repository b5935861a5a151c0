-- The loop stands at a junction of the level, and all deeper ones and those of the level below it are merged.
use Rattle.preorder.proofs.Levels.{stands-first, level-next}
use Rattle.preorder.proofs.Merging.{merged_as, merged_next}
use native.Mathlib.Omega.{arith}
use Rattle.preorder.proofs.number.merge_level.Goals as goal

pub loop-v-preserved : goal.loop-v-preserved
loop-v-preserved c = let next = level-next c.requires.levels c.loop-v.invariant.0 (omega arith) in
    let merged = merged_as c.merge-filled.ensures (c.loop-v.invariant.0.at_level (omega arith)) in
    (stands-first next, merged_next c.requires.parents_fit.0 merged next)
