-- Each list that is passed is short and without fault.
use mathlib.Core.Path.{refl}
use Rattle.stored.proofs.ShortLists.{running_none, running_more}
use Rattle.stored.proofs.runs.pass.Goals as goal

pub loop-init : goal.loop-init
loop-init g c = running_none c.requires.at_in_bounds.0 c.quick_lists-end.ensures refl

pub loop-preserved : goal.loop-preserved
loop-preserved g c = running_more c.loop.invariant c.loop-test.true (c.requires.tells _ _ c.in-Some.ensures) c.more-run.ensures
