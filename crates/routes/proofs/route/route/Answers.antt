-- What is written so far, with the first route of the rest behind it, is the first route of the whole; at y nothing is left.
use native.Mathlib.Omega.{arith}
use lib.ListN.{length-set}
use Rattle.routes.proofs.RouteWay.{way_start, way_room, way_more, way_less, way_fits, way_end}
use Rattle.routes.proofs.route.route.Goals as goal

pub loop-here-init : goal.loop-here-init
loop-here-init c = (way_start c.requires.x_bound.0 c.requires.skyline c.requires.junctions_len, c.new-hoplinks.ensures _ _)

pub overflow_cast-junctions : goal.overflow_cast-junctions
overflow_cast-junctions c = omega (arith, c.loop-here.invariant.0.on_map, c.requires.prepared.beside.network.few_junctions)

pub bounds-junctions-count : goal.bounds-junctions-count
bounds-junctions-count c = omega (arith, way_room c.requires.prepared.beside.network c.loop-here.invariant.0)

pub overflow_add-count : goal.overflow_add-count
overflow_add-count c = omega (arith, way_room c.requires.prepared.beside.network c.loop-here.invariant.0)

pub step_road-k-requires : goal.step_road-k-requires
step_road-k-requires c = record { prepared = c.requires.prepared; from_bound = (c.loop-here.invariant.0.on_map, c.requires.x_bound.1); fact = c.loop-here-test.true; skyline = c.loop-here.invariant.0.line; held = c.loop-here.invariant.1 }

pub road_pair-requires : goal.road_pair-requires
road_pair-requires c = omega (arith, c.step_road-k.ensures.step_road.stands, c.requires.prepared.beside.network.whole)

pub sub-rest-requires : goal.sub-rest-requires
sub-rest-requires c = way_fits c.requires.prepared.beside.network c.loop-here.invariant.0 c.step_road-k.ensures.step_road c.road_pair.ensures

pub other_end-here-requires : goal.other_end-here-requires
other_end-here-requires c = omega (arith, c.step_road-k.ensures.step_road.stands, c.requires.prepared.beside.network.whole)

pub loop-here-smaller : goal.loop-here-smaller
loop-here-smaller c = way_less c.requires.prepared.beside.network c.loop-here.invariant.0 c.step_road-k.ensures.step_road c.road_pair.ensures c.sub-rest.ensures

pub loop-here-preserved : goal.loop-here-preserved
loop-here-preserved c = (
  way_more c.requires.prepared.beside.network c.loop-here.invariant.0 c.loop-here-test.true c.step_road-k.ensures.step_road c.other_end-here.ensures.is c.road_pair.ensures
      c.sub-rest.ensures,
  c.step_road-k.ensures.held_2,
)

pub overflow_cast-junctions-2 : goal.overflow_cast-junctions-2
overflow_cast-junctions-2 c = omega (arith, c.requires.x_bound.1, c.requires.prepared.beside.network.few_junctions)

pub bounds-junctions-count-2 : goal.bounds-junctions-count-2
bounds-junctions-count-2 c = omega (arith, way_room c.requires.prepared.beside.network c.loop-here.invariant.0)

pub overflow_add-result : goal.overflow_add-result
overflow_add-result c = omega (arith, way_room c.requires.prepared.beside.network c.loop-here.invariant.0)

pub returns : goal.returns
returns c = record { route_found = way_end c.requires.prepared.beside.network c.loop-here.invariant.0 c.loop-here-test.false; junctions_len_2 = simp length-set c.loop-here.invariant.0.places }
