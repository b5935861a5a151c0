-- The climb is as many steps up as are done.
use mathlib.Core.Path.{refl}
use native.Mathlib.Omega.{arith}
use Rattle.query.proofs.ClimbLaws.{climb_starts, climb-inside, climb-more}
use Rattle.query.proofs.climbing.climb_of.Goals as goal

pub loop-init : goal.loop-init
loop-init c = climb_starts c.requires.formed.1 c.requires.v_bound.0 refl refl c.entry_at.ensures

pub step-here-requires-clause-up_in_bounds : goal.step-here-requires-clause-up_in_bounds
step-here-requires-clause-up_in_bounds c = climb-inside c.requires.formed.0 c.loop.invariant (omega (arith, c.requires.v_bound.1))

pub loop-preserved : goal.loop-preserved
loop-preserved c = climb-more c.requires.formed.0 c.loop.invariant (omega (arith, c.requires.v_bound.1)) c.step-here.ensures
