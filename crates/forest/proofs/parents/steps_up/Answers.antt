-- The steps so far and those left make up the depth; at a root none is left, after n the chain returns, and where the depth is known it tells them.
use Rattle.forest.proofs.ParentLoops.{climbing_start, climbing_more, climbing_root, climbing_known}
use Rattle.forest.proofs.parents.steps_up.Goals as goal

pub loop-steps-init : goal.loop-steps-init
loop-steps-init c = climbing_start c.requires.climbable

pub returns-then-depths-u : goal.returns-then-depths-u
returns-then-depths-u c =
    rw c.then_some.ensures (
    climbing_known c.loop-steps.invariant c.requires.climbable.size c.requires.depths_known c.if-depths-u.true
    )

pub returns-in_default : goal.returns-in_default
returns-in_default c = climbing_root c.loop-steps.invariant c.requires.climbable.size c.loop-steps-test.true c.in_default.ensures

pub loop-steps-preserved : goal.loop-steps-preserved
loop-steps-preserved c = climbing_more c.loop-steps.invariant c.requires.climbable.fits c.loop-steps-test.true c.in-Some.ensures
