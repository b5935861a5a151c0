-- No foot is known at first, and a road that does not join fails all.
use Rattle.std.proofs.Common.{sym, arith}
use Rattle.refusals.proofs.Order.{every-fails, every_all}
use Rattle.network.specs.NetworkFile.{roads_of}
use Rattle.forest.specs.Forest.{road_joins}
use Rattle.forest.proofs.OneChain.{feet_none}
use Rattle.forest.proofs.parents.roads_join.Goals as goal

pub fill_feet-requires-clause-feet_right : goal.fill_feet-requires-clause-feet_right
fill_feet-requires-clause-feet_right c = feet_none c.args.labels.now c.requires.parents_fit.few_junctions

pub returns-then-not-road_joins : goal.returns-then-not-road_joins
returns-then-not-road_joins c =
    sym (every-fails (road_joins c.args.net.now c.args.labels.now) (roads_of c.args.net.now) {i = c.loop-k.k} (omega arith) (sym c.if-not-road_joins.ensures))

pub returns : goal.returns
returns c = sym (every_all (road_joins c.args.net.now c.args.labels.now) (roads_of c.args.net.now) (λ j below. c.loop-k.invariant j (omega arith)))
