-- At the marked levels passed, and with the near entries passed at this level, no sum covers the pair; the first that does ends both loops.
use mathlib.Core.Path.{◌≡◌, refl}
use Prim.Native.Nat.{◌+◌, ◌-◌}
use native.Mathlib.Omega.{arith}
use Rattle.query.proofs.Rows.{along-near, along_far, near_next, far_next, along-more}
use Rattle.reaching.proofs.Searching.{pairing_more, covering_sum, level_tried, level-found, levels_start, levels_more, levels_found}
use Rattle.reaching.proofs.reach.search_levels.Goals as goal

pub search-init : goal.search-init
search-init c = (levels_start (omega arith), refl)

pub loop-i-preserved : goal.loop-i-preserved
loop-i-preserved c =
    let near_fits = along-near c.search.invariant.0.along c.requires.row_fits (omega arith) in
    let far_fits = along_far c.search.invariant.0.along c.requires.row_fits (omega arith) in
    let spends = rw (c.near.ensures.labels_is, c.near.ensures.at_is) at c.energy.ensures.value in
    let fits = rw (c.far-in-loop-i.ensures.labels_is, c.far-in-loop-i.ensures.at_is) at c.fitting_from-j.ensures in (
      pairing_more near_fits far_fits c.loop-i.invariant.0 (omega (arith, c.entries_tried-i-end.ensures.few)) spends fits
          (c.covers.ensures.fails c.if-covers.false),
      c.loop-i.invariant.1,
    )

pub next-near_place-requires-clause-at_in_bounds : goal.next-near_place-requires-clause-at_in_bounds
next-near_place-requires-clause-at_in_bounds c = (near_next c.search.invariant.0.along c.requires.row_fits (omega arith)).0

pub next-far_place-requires-clause-at_in_bounds : goal.next-far_place-requires-clause-at_in_bounds
next-far_place-requires-clause-at_in_bounds c = (far_next c.search.invariant.0.along c.requires.row_fits (omega arith)).0

pub search-preserved : goal.search-preserved
search-preserved c =
    let more : c.args.levels - (c.search.level - 1) ≡ (c.args.levels - c.search.level) + 1 = omega arith in (
      rw more
          (levels_more c.search.invariant.0 (omega arith)
          (along-more c.search.invariant.0.along c.requires.row_fits (omega arith) c.next-near_place.ensures c.next-far_place.ensures)
          (level_tried c.loop-i.invariant.0 (omega arith) c.entries_tried-i-end.ensures)),
      c.loop-i.invariant.1,
    )

pub returns-then-covers : goal.returns-then-covers
returns-then-covers c =
    let near_fits = along-near c.search.invariant.0.along c.requires.row_fits (omega arith) in
    let far_fits = along_far c.search.invariant.0.along c.requires.row_fits (omega arith) in
    let spends = rw (c.near.ensures.labels_is, c.near.ensures.at_is) at c.energy.ensures.value in
    let fits = rw (c.far-in-loop-i.ensures.labels_is, c.far-in-loop-i.ensures.at_is) at c.fitting_from-j.ensures in
    levels_found c.search.invariant.0 (omega arith) (omega arith)
    ((level-found (c.entries_tried-i-end.ensures.marked (omega arith))
    (covering_sum near_fits far_fits c.loop-i.invariant.0 (omega (arith, c.entries_tried-i-end.ensures.few)) spends fits (c.covers.ensures.holds c.if-covers.true))).holds refl)
