-- After i entries of the first list their best sum is known, and beside a later entry none of the second list from j on fits.
use Rattle.std.proofs.Common.{inl, inr, arith, rules}
use Rattle.lists.proofs.Walk.{fit_whole, walk-nothing, walk_starts, walk-fits, walk_more, walk-stops, walk_ends}
use Rattle.lists.proofs.sums.best_sum.Goals as goal
use Rattle.lists.proofs.sums.best_sum.Goals.{then-comes_before, else-comes_before}

pub returns-then-j-eq0 : goal.returns-then-j-eq0
returns-then-j-eq0 c = walk-nothing c.requires.list c.requires.list_2 (fit_whole c.fitting-j.ensures.upper_bound c.fitting-j.ensures.by_index_2 c.fitting-j.ensures.result_bound) c.if-j-eq0.true

pub loop-i-init : goal.loop-i-init
loop-i-init c = walk_starts c.requires.list c.requires.list_2 (search rules) (fit_whole c.fitting-j.ensures.upper_bound c.fitting-j.ensures.by_index_2 c.fitting-j.ensures.result_bound) (omega arith) (record { first_is = c.sum_at-best.ensures.first_value; second_is = c.sum_at-best.ensures.second_value; weighs = c.sum_at-best.ensures.energy_value })

pub returns-then-j-eq0-2 : goal.returns-then-j-eq0-2
returns-then-j-eq0-2 c = walk-stops c.requires.list c.requires.list_2 c.loop-i.invariant c.loop-i-test.true (walk-fits c.requires.list c.requires.list_2 c.loop-i.invariant c.loop-i-test.true c.fitting-j-in-loop-i.ensures.upper_bound c.fitting-j-in-loop-i.ensures.by_index_2 c.fitting-j-in-loop-i.ensures.result_bound) c.if-j-eq0-2.true

pub loop-i-preserved : goal.loop-i-preserved
loop-i-preserved c =
    walk_more c.requires.list c.requires.list_2 c.loop-i.invariant c.loop-i-test.true
    (walk-fits c.requires.list c.requires.list_2 c.loop-i.invariant c.loop-i-test.true c.fitting-j-in-loop-i.ensures.upper_bound c.fitting-j-in-loop-i.ensures.by_index_2 c.fitting-j-in-loop-i.ensures.result_bound)
    (omega (arith, c.if-j-eq0-2.false))
    (record { first_is = c.sum_at-candidate.ensures.first_value; second_is = c.sum_at-candidate.ensures.second_value; weighs = c.sum_at-candidate.ensures.energy_value })
    (elim c.if-comes_before.branch [ then-comes_before w ↦ inl (c.comes_before.ensures.before w.if-comes_before.true, w.best-is) | else-comes_before w ↦ inr (c.comes_before.ensures.not_before w.if-comes_before.false, w.best-is) ])

pub returns-after-loop-i : goal.returns-after-loop-i
returns-after-loop-i c = walk_ends c.requires.list c.requires.list_2 c.loop-i.invariant (omega arith)
