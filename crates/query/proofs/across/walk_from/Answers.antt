-- Every near entry that is passed has its best sum weighed; where the walk ends, no later one has a better sum.
use mathlib.Core.Logic.{inl, inr}
use native.Mathlib.Omega.{arith}
use Rattle.query.proofs.BestSums.{walk_starts, walk_none, walk-slow, walk_more, walk_ends}
use Rattle.query.proofs.across.walk_from.Goals as goal
use Rattle.query.proofs.across.walk_from.Goals.{then-j-eq0-via-then-j-eq0, then-j-eq0-via-else-j-eq0+then-too_long, then-comes_before, else-comes_before}

pub loop-i-init : goal.loop-i-init
loop-i-init c = walk_starts c.requires.walk_start

pub returns-then-j-eq0 : goal.returns-then-j-eq0
returns-then-j-eq0 c =
    let count = rw (c.near-near.ensures.labels_is, c.near-near.ensures.at_is) at c.count-count.ensures.value in
    let spends = rw (c.near-near.ensures.labels_is, c.near-near.ensures.at_is) at c.energy.ensures.value in
    let fits = rw (c.far-far.ensures.labels_is, c.far-far.ensures.at_is) at c.fitting_from-j.ensures in
    elim c.then-j-eq0.branch [
      | then-j-eq0-via-then-j-eq0 w ↦ walk_none c.loop-i.invariant c.args.lists.near_fits c.args.lists.far_fits (omega (arith, count)) spends fits w.if-j-eq0.true
      | then-j-eq0-via-else-j-eq0+then-too_long w ↦
          walk-slow c.loop-i.invariant c.args.lists.near_fits c.args.lists.far_fits (omega (arith, count)) spends fits w.if-j-eq0.false
          (rw (c.near-near.ensures.labels_is, c.near-near.ensures.at_is, count) at c.time-quickest.ensures.value)
          (rw (c.far-far.ensures.labels_is, c.far-far.ensures.at_is) at w.time.ensures.value) w.add.ensures w.too_long.ensures w.if-too_long.true
    ]

pub loop-i-preserved : goal.loop-i-preserved
loop-i-preserved c =
    let count = rw (c.near-near.ensures.labels_is, c.near-near.ensures.at_is) at c.count-count.ensures.value in
    let spends = rw (c.near-near.ensures.labels_is, c.near-near.ensures.at_is) at c.energy.ensures.value in
    let fits = rw (c.far-far.ensures.labels_is, c.far-far.ensures.at_is) at c.fitting_from-j.ensures in
    walk_more c.loop-i.invariant c.args.lists.near_fits c.args.lists.far_fits (omega (arith, count)) spends fits
    c.if-j-eq0.false c.sum_at-candidate.ensures
    (elim c.if-comes_before.branch [
      | then-comes_before w ↦ inl (c.comes_before.ensures.before w.if-comes_before.true, w.best-is)
      | else-comes_before w ↦ inr (c.comes_before.ensures.not_before w.if-comes_before.false, w.best-is)
    ])

pub returns : goal.returns
returns c = walk_ends c.loop-i.invariant (rw (c.near-near.ensures.labels_is, c.near-near.ensures.at_is) at c.count-count.ensures.value) c.loop-i-test.false
