-- When the loop stands at k, the roads from k on are grouped: none at first, one more with each turn, all at 0.
use Rattle.tables.specs.working.Layout.{firsts_from}
use Rattle.tables.proofs.Stays.{stays_all}
use Rattle.network.proofs.GroupedRoads.{grouped-none}
use Rattle.network.proofs.roads.group_roads.Goals as goal

pub loop-k-init : goal.loop-k-init
loop-k-init c = (grouped-none c.requires.0 c.roads_of-roads.ensures c.clear_firsts.ensures, stays_all firsts_from _)
