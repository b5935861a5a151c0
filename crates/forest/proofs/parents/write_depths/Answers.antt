-- The parent of a junction at depth `left` is at depth `left` - 1, so each depth is written right.
use native.Mathlib.Omega.{arith}
use Rattle.forest.proofs.ParentLoops.{parent_above, writing_more}
use Rattle.forest.proofs.parents.write_depths.Goals as goal

pub bounds-depths-u : goal.bounds-depths-u
bounds-depths-u c = omega (arith, (parent_above c.requires.climbable c.loop-left.invariant c.loop-left-test.true c.parent_at-u.ensures.is).0, c.requires.climbable.stand.few_junctions)

pub loop-left-preserved : goal.loop-left-preserved
loop-left-preserved c = writing_more c.requires.climbable c.loop-left.invariant c.loop-left-test.true c.parent_at-u.ensures.is
