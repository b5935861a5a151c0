-- The near entries left out are too slow beside any far one, and the far entries left out do not fit beside those that are tried.
use Rattle.query.proofs.BestSums.{walk_start}
use Rattle.query.proofs.across.walk.Goals as goal

pub walk_from-requires-clause-walk_start : goal.walk_from-requires-clause-walk_start
walk_from-requires-clause-walk_start c =
    walk_start
    c.args.lists.near_fits
    c.args.lists.far_fits
    c.requires
    (rw (c.count.ensures.value, c.far-far.ensures.labels_is, c.far-far.ensures.at_is) at c.time-quickest.ensures.value)
    (rw (c.near-near.ensures.labels_is, c.near-near.ensures.at_is) at c.first_quick-start.ensures)
    (rw (c.near-near.ensures.labels_is, c.near-near.ensures.at_is) at c.energy.ensures.value)
    (rw (c.far-far.ensures.labels_is, c.far-far.ensures.at_is) at c.fitting-end.ensures)
