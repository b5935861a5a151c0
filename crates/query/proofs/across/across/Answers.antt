-- Each turn takes what is known further by one level.
use Rattle.query.proofs.Rows.{near_next, far_next, rowed_none, rowed_more, rowed_all}
use Rattle.query.proofs.across.across.Goals as goal

pub loop-init : goal.loop-init
loop-init c = rowed_none _ _ _ _ _ _

pub next-near_place-requires-clause-at_in_bounds : goal.next-near_place-requires-clause-at_in_bounds
next-near_place-requires-clause-at_in_bounds c = (near_next c.loop.invariant.along c.requires c.loop-test.true).0

pub next-far_place-requires-clause-at_in_bounds : goal.next-far_place-requires-clause-at_in_bounds
next-far_place-requires-clause-at_in_bounds c = (far_next c.loop.invariant.along c.requires c.loop-test.true).0

pub loop-preserved : goal.loop-preserved
loop-preserved c = rowed_more c.loop.invariant c.requires c.loop-test.true c.at_level-best.ensures c.next-near_place.ensures c.next-far_place.ensures

pub returns : goal.returns
returns c = rowed_all c.loop.invariant c.loop-test.false
