-- No road of the junction before k fits; the pair is a path's, so the search ends at a road that does.
use native.Mathlib.Omega.{arith}
use Rattle.routes.proofs.RouteSteps.{search_start, search_more, search_later, search_found, search_never, road-follows}
use Rattle.routes.proofs.route.step_road.Goals as goal

pub loop-k-init : goal.loop-k-init
loop-k-init c = (search_start c.requires.prepared.beside.network c.requires.prepared.grouped c.requires.from_bound.0 (cc), c.requires.held)

pub step_fits-fits-requires : goal.step_fits-fits-requires
step_fits-fits-requires c = record { prepared = c.requires.prepared; finish_bound = c.requires.from_bound.1; road_bound = omega arith; road_value = c.loop-k.invariant.0.at_start (omega arith); held = c.loop-k.invariant.1 }

pub returns-then-fits : goal.returns-then-fits
returns-then-fits c = record { step_road = search_found c.requires.prepared.beside.network c.loop-k.invariant.0 (omega arith) (c.step_fits-fits.ensures.decides.holds c.if-fits.true); held_2 = c.step_fits-fits.ensures.held_2 }

pub next_road-k-requires : goal.next_road-k-requires
next_road-k-requires c = road-follows c.requires.prepared.beside.network c.requires.prepared.grouped c.loop-k.invariant.0 (omega arith)

pub loop-k-smaller : goal.loop-k-smaller
loop-k-smaller c = omega (arith, search_later c.requires.prepared.beside.network _ c.next_road-k.ensures)

pub loop-k-preserved : goal.loop-k-preserved
loop-k-preserved c = (search_more c.requires.prepared.beside.network c.loop-k.invariant.0 (c.step_fits-fits.ensures.decides.fails c.if-fits.false) c.next_road-k.ensures, c.step_fits-fits.ensures.held_2)

pub returns : goal.returns
returns c = absurd (search_never c.requires.prepared.beside.network c.loop-k.invariant.0 (omega arith) c.requires.fact c.requires.skyline)
