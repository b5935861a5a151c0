-- The first roads of the two ends become what follows road k there, and road k becomes the first road of both.
use Rattle.network.proofs.GroupedRoads.{road_put, starts_stay_put}
use Rattle.network.proofs.roads.put_road.Goals as goal

pub returns : goal.returns
returns c = (road_put c.requires.0 c.requires.1 c.road_low-low.ensures c.road_high-high.ensures c.requires.2, starts_stay_put c.requires.0 c.requires.1 c.road_low-low.ensures c.road_high-high.ensures _)
