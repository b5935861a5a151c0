-- The first j places of both slices hold the first j entries.
use native.Mathlib.Omega.{arith}
use Rattle.stored.proofs.Tabulate.{filling-none, filling-more}
use Rattle.stored.proofs.stored.load.Goals as goal

pub loop-j-init : goal.loop-j-init
loop-j-init c = (filling-none _ _, filling-none _ _)

pub loop-j-preserved : goal.loop-j-preserved
loop-j-preserved c = (filling-more _ c.loop-j.invariant.0 (omega arith) c.time_at.ensures, filling-more _ c.loop-j.invariant.1 (omega arith) c.energy_at.ensures)
