-- The four lists end behind where they begin.
use native.Mathlib.Omega.{arith}
use Rattle.stored.proofs.Places.{further-later}
use Rattle.query.proofs.passing.four_further.Goals as goal

pub overflow_sub-labels : goal.overflow_sub-labels
overflow_sub-labels c = omega (arith, c.requires.at_in_bounds, further-later c.args.labels.now c.args.at 4)
