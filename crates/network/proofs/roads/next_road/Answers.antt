-- Road k touches v, so where v is not its lower end it is its higher.
use mathlib.Core.Path.{◌∙◌}
use Rattle.network.proofs.GroupedRoads.{next_at_high}
use Rattle.network.proofs.roads.next_road.Goals as goal

pub returns-else-road_low-v : goal.returns-else-road_low-v
returns-else-road_low-v c =
    c.entry_at-else-road_low-v.ensures ∙ next_at_high c.requires.1 c.requires.2 c.road_low.ensures c.requires.3 c.if-road_low-v.false
