-- A road that takes too much does not fit; of any other the answer is whether its other end reaches the finish within the rest.
use Rattle.network.proofs.RoadsAt.{other_on_map}
use Rattle.routes.proofs.RouteSteps.{step_unfit, step-decided}
use Rattle.routes.proofs.route.step_fits.Goals as goal

pub sub-after-requires : goal.sub-after-requires
sub-after-requires c = let fits = c.fits_into.ensures.holds c.if-fits_into.true in (fits.fitting_time, fits.fitting_energy)

pub reaches-requires : goal.reaches-requires
reaches-requires c = let on_map = other_on_map c.requires.prepared.beside.network _ _ c.requires.road_bound c.requires.road_value in
    record { prepared = c.requires.prepared; from_bound = (rw c.other_end.ensures.is on_map, c.requires.finish_bound); held = c.requires.held }

pub returns-then-fits_into : goal.returns-then-fits_into
returns-then-fits_into c = record {
  decides = step-decided c.road_pair-takes.ensures (c.fits_into.ensures.holds c.if-fits_into.true) c.sub-after.ensures c.other_end.ensures.is c.reaches.ensures.decides;
  held_2 = c.reaches.ensures.held_2;
}

pub returns-else-fits_into : goal.returns-else-fits_into
returns-else-fits_into c = record { decides = step_unfit c.road_pair-takes.ensures (c.fits_into.ensures.fails c.if-fits_into.false); held_2 = c.requires.held }
