-- The loop has settled every junction below v; a parent that does not fit and a chain that returns fail.
use mathlib.Core.Path.{refl}
use Rattle.forest.proofs.ParentLoops.{can_climb, filling-returns, filling_end}
use Rattle.forest.proofs.parents.fill_depths.Goals as goal

pub settle-requires-clause-climbable : goal.settle-requires-clause-climbable
settle-requires-clause-climbable c =
    can_climb c.requires.parents_stand c.junctions_of-n.ensures.is c.if-not-parents_fit.ensures refl c.loop-v.v c.loop-v-test.true

pub returns-then-not-settle : goal.returns-then-not-settle
returns-then-not-settle c =
    filling-returns c.requires.parents_stand c.junctions_of-n.ensures.is c.if-not-parents_fit.ensures refl c.loop-v.invariant c.loop-v-test.true c.if-not-settle.ensures refl

pub returns : goal.returns
returns c = filling_end c.requires.parents_stand c.junctions_of-n.ensures.is c.if-not-parents_fit.ensures refl c.loop-v.invariant c.loop-v-test.false
