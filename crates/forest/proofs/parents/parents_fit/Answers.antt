-- A parent that does not fit fails all.
use Rattle.std.proofs.Common.{sym, arith}
use Rattle.refusals.proofs.Order.{every-fails, every_all}
use Rattle.network.specs.NetworkFile.{junctions_of}
use Rattle.forest.specs.Forest.{parent_fits}
use Rattle.forest.proofs.parents.parents_fit.Goals as goal

pub returns-then-not-parent_fits : goal.returns-then-not-parent_fits
returns-then-not-parent_fits c =
    sym (every-fails (parent_fits c.args.labels.now) (junctions_of c.args.labels.now) {i = c.loop-v.v} (omega arith) (sym c.if-not-parent_fits.ensures))

pub returns : goal.returns
returns c = sym (every_all (parent_fits c.args.labels.now) (junctions_of c.args.labels.now) (λ w below. c.loop-v.invariant w (omega arith)))
