-- The ends are related, so the less deep one is the upper end.
use Rattle.hoplinks.proofs.Marks.{low_branch, high-branch, low_marks, high_marks}
use native.Mathlib.Omega.{arith}
use Rattle.network.proofs.GroupedRoads.{ends-inside}
use Rattle.hoplinks.proofs.hoplinks.road_mark.Goals as goal

pub bounds-depths-low : goal.bounds-depths-low
bounds-depths-low c = omega (arith, ends-inside c.requires.0.network c.requires.3 c.road_low-low.ensures c.road_high-high.ensures)

pub bounds-depths-high : goal.bounds-depths-high
bounds-depths-high c = omega (arith, ends-inside c.requires.0.network c.requires.3 c.road_low-low.ensures c.road_high-high.ensures)

pub crossing_depth-requires : goal.crossing_depth-requires
crossing_depth-requires c = (c.requires.0.formed.parents, c.requires.1, c.requires.2, low_branch c.requires.0 c.requires.1 c.requires.3 c.road_low-low.ensures c.road_high-high.ensures c.if-depths-low.true)

pub returns-then-depths-low : goal.returns-then-depths-low
returns-then-depths-low c = low_marks c.requires.0 c.requires.1 c.requires.3 c.road_low-low.ensures c.road_high-high.ensures c.if-depths-low.true c.crossing_depth.ensures

pub crossing_depth-requires-else-depths-low : goal.crossing_depth-requires-else-depths-low
crossing_depth-requires-else-depths-low c = (c.requires.0.formed.parents, c.requires.1, c.requires.2, high-branch c.requires.0 c.requires.1 c.requires.3 c.road_low-low.ensures c.road_high-high.ensures c.if-depths-low.false)

pub returns-else-depths-low : goal.returns-else-depths-low
returns-else-depths-low c = high_marks c.requires.0 c.requires.1 c.requires.3 c.road_low-low.ensures c.road_high-high.ensures c.if-depths-low.false c.crossing_depth-else-depths-low.ensures
