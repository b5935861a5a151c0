-- The first entries have the least energies and the last ones the least times, so no sum of two entries takes less than these.
use mathlib.Core.Logic.{⊎_elim}
use native.Mathlib.Omega.{arith}
use Rattle.reaching.proofs.Searching.{le_decides, no_entries, least-over, quickest_late}
use Rattle.reaching.proofs.reach.may_cover.Goals.{then-far_count-gt0, else-far_count-gt0}
use Rattle.reaching.proofs.reach.may_cover.Goals as goal

pub returns-then-le : goal.returns-then-le
returns-then-le c = λ q.
    let near_count = rw (c.near.ensures.labels_is, c.near.ensures.at_is) at c.count-near_count.ensures.value in
    let far_count = rw (c.far.ensures.labels_is, c.far.ensures.at_is) at c.count-far_count.ensures.value in
    quickest_late c.args.lists.near_fits c.args.lists.far_fits near_count far_count c.sum_at-then-le.ensures.time_is ((le_decides c.le-then-le.ensures).fails q)

pub returns-else-le : goal.returns-else-le
returns-else-le c = λ q.
    let near_count = rw (c.near.ensures.labels_is, c.near.ensures.at_is) at c.count-near_count.ensures.value in
    let far_count = rw (c.far.ensures.labels_is, c.far.ensures.at_is) at c.count-far_count.ensures.value in
    elim c.if-far_count-gt0.branch [
      | then-far_count-gt0 w ↦ least-over c.args.lists.near_fits c.args.lists.far_fits w.sum_at.ensures.energy_is ((le_decides w.le.ensures).fails (cc))
      | else-far_count-gt0 w ↦ no_entries (λ some. ⊎_elim (λ h. omega (arith, near_count, far_count)) (λ h. omega (arith, near_count, far_count)) w.if-far_count-gt0.either)
    ]
