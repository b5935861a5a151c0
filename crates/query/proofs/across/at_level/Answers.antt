-- A level is left out where its cheapest sum is over the limit, or its quickest is slower than what is known; else it is walked.
use mathlib.Core.Path.{refl}
use native.Mathlib.Omega.{arith}
use Prim.Native.Nat.{◌<◌}
use Rattle.std.proofs.lemmas.Grind.{common_steps}
use Rattle.query.proofs.BestSums.{level-over, level-slow, level_worth, level_walked}
use Rattle.query.proofs.across.at_level.Goals as goal

pub returns-then-lt : goal.returns-then-lt
returns-then-lt c =
    let near_count = rw (c.near.ensures.labels_is, c.near.ensures.at_is) at c.count-near_count.ensures.value in
    let far_count = rw (c.far.ensures.labels_is, c.far.ensures.at_is) at c.count-far_count.ensures.value in
    let over : c.args.limit.0 < c.sum_at-cheapest.result.energy.0 = grind (arith, common_steps) in
    level-over near_count far_count c.if-near_count-eq0.false c.if-far_count-eq0.false c.args.lists.near_fits c.args.lists.far_fits c.sum_at-cheapest.ensures over refl refl

pub returns-then-too_long : goal.returns-then-too_long
returns-then-too_long c =
    let near_count = rw (c.near.ensures.labels_is, c.near.ensures.at_is) at c.count-near_count.ensures.value in
    let far_count = rw (c.far.ensures.labels_is, c.far.ensures.at_is) at c.count-far_count.ensures.value in
    level-slow near_count far_count c.if-near_count-eq0.false c.if-far_count-eq0.false c.args.lists.near_fits c.args.lists.far_fits c.sum_at-quickest.ensures c.too_long.ensures c.if-too_long.true refl refl

pub walk-seen-requires : goal.walk-seen-requires
walk-seen-requires c =
    let near_count = rw (c.near.ensures.labels_is, c.near.ensures.at_is) at c.count-near_count.ensures.value in
    let far_count = rw (c.far.ensures.labels_is, c.far.ensures.at_is) at c.count-far_count.ensures.value in
    level_worth near_count far_count c.if-near_count-eq0.false c.if-far_count-eq0.false c.args.lists.near_fits c.args.lists.far_fits c.sum_at-quickest.ensures c.too_long.ensures c.if-too_long.false

pub returns : goal.returns
returns c =
    let near_count = rw (c.near.ensures.labels_is, c.near.ensures.at_is) at c.count-near_count.ensures.value in
    let far_count = rw (c.far.ensures.labels_is, c.far.ensures.at_is) at c.count-far_count.ensures.value in
    level_walked near_count far_count c.if-near_count-eq0.false c.if-far_count-eq0.false refl c.walk-seen.ensures
