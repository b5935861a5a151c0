-- `agree::agree::road_agrees` is right: what is left behind road k is nothing, or the list at the neighbour's place, so the covering test tells what the road tells.
use native.Mathlib.Omega.{arith}
use Rattle.agree.proofs.Neighbours.{leaves_nothing, neighbour_index, neighbour_rest}
use Rattle.agree.proofs.AgreeSteps.{road-tested}
use Rattle.agree.proofs.agree.road_agrees.Goals as goal

pub returns-then-w-u : goal.returns-then-w-u
returns-then-w-u c = road-tested c.requires.road_input c.other_end-w.ensures.is c.road_time.ensures.is c.road_energy.ensures.is
    (leaves_nothing c.requires.road_input.beside c.if-w-u.true) c.cover_road.ensures

pub number_of-requires : goal.number_of-requires
number_of-requires c = omega (arith, neighbour_index c.requires.road_input c.other_end-w.ensures.is)

pub cover_stored-requires-clause-list_fits : goal.cover_stored-requires-clause-list_fits
cover_stored-requires-clause-list_fits c = let rest = neighbour_rest c.requires.road_input c.other_end-w.ensures.is c.if-w-u.false c.number_of.ensures in
    rest.fits

pub returns-else-w-u : goal.returns-else-w-u
returns-else-w-u c = let rest = neighbour_rest c.requires.road_input c.other_end-w.ensures.is c.if-w-u.false c.number_of.ensures in
    road-tested c.requires.road_input c.other_end-w.ensures.is c.road_time.ensures.is c.road_energy.ensures.is rest.leaves c.cover_stored.ensures
