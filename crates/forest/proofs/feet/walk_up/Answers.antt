-- Each junction on the way up is above v, and less deep than the one before.
use Rattle.forest.proofs.OneChain.{walking_start, walking_more, walking_less}
use Rattle.forest.proofs.feet.walk_up.Goals as goal

pub loop-feet-init : goal.loop-feet-init
loop-feet-init c = walking_start c.requires.feet_right c.requires.v_bound

pub loop-feet-smaller : goal.loop-feet-smaller
loop-feet-smaller c = walking_less c.requires.parents_fit c.loop-feet.invariant c.in-Some.ensures

pub loop-feet-preserved : goal.loop-feet-preserved
loop-feet-preserved c = walking_more c.requires.parents_fit c.loop-feet.invariant c.in-Some.ensures
