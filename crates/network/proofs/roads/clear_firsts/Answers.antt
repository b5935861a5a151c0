-- The part of the first roads was written over.
use Rattle.network.proofs.GroupedRoads.{firsts_filled}
use Rattle.network.proofs.roads.clear_firsts.Goals as goal

pub returns : goal.returns
returns c = firsts_filled c.requires (c.fill.ensures.after (λ y same. same))
