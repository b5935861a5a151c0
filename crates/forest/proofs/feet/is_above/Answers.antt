-- Each step up leaves open whether u is above, until one foot or the depth of u tells.
use Rattle.forest.proofs.OneChain.{lifting_meets, lifting_end, lifting_more, lifting_less}
use Rattle.forest.proofs.feet.is_above.Goals as goal

pub returns-then-one_foot : goal.returns-then-one_foot
returns-then-one_foot c = lifting_meets c.requires.parents_fit c.requires.depths_filled c.requires.u_bound c.loop-w.invariant c.requires.feet_right
    c.loop-w-test.true (c.one_foot.ensures c.if-one_foot.true)

pub loop-w-smaller : goal.loop-w-smaller
loop-w-smaller c = lifting_less c.requires.parents_fit c.requires.depths_filled c.requires.u_bound c.loop-w.invariant c.loop-w-test.true c.parent_at-w.ensures.is

pub loop-w-preserved : goal.loop-w-preserved
loop-w-preserved c = lifting_more c.requires.parents_fit c.requires.depths_filled c.requires.u_bound c.loop-w.invariant c.loop-w-test.true c.parent_at-w.ensures.is

pub returns : goal.returns
returns c = lifting_end c.requires.parents_fit c.requires.depths_filled c.requires.u_bound c.loop-w.invariant c.loop-w-test.false
