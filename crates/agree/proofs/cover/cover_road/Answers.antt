-- `agree::cover::cover_road` is right: nothing is left behind the road, so its weight is the one sum.
use Rattle.agree.proofs.MergeSteps.{road-alone}
use Rattle.agree.proofs.cover.cover_road.Goals as goal

pub returns : goal.returns
returns c = rw c.is_some.ensures (road-alone c.args.own.list.fits c.cover_sum.result c.cover_sum.ensures)
