-- The block of the higher junction tells whether it stands above the other; if not, the deeper one is raised to its depth and both climb on.
use mathlib.Core.Path.{sym}
use mathlib.Core.Logic.{inl, inr}
use native.Mathlib.Omega.{arith}
use Rattle.query.proofs.BlockLaws.{block_above, outside_block, above-deeper}
use Rattle.query.proofs.ClimbLaws.{leads_of, raised_near, raised_far}
use Rattle.query.proofs.climbing.between.Goals as goal

-- ---- x is the deeper
pub in_block-requires : goal.in_block-requires
in_block-requires c = record { tables_len = c.requires.numbered.places; u_bound = (omega (arith, c.requires.formed.0.parents.few_junctions, c.requires.x_bound.1), omega (arith, c.requires.formed.0.parents.few_junctions, c.requires.x_bound.0)) }

-- y stands above x
pub list_above-requires : goal.list_above-requires
list_above-requires c = record { formed = c.requires.formed.0; depths_filled = c.requires.formed.1; starts_filled = c.requires.formed.2; v_bound = (c.requires.x_bound.0, c.requires.x_bound.1); u_bound = above-deeper c.requires.formed.0 (block_above c.requires.numbered c.requires.x_bound.1 c.requires.x_bound.0 (c.in_block.ensures.holds c.if-in_block.true) (λ e. c.requires.x_bound.2 (sym e))) }

pub returns-then-in_block : goal.returns-then-in_block
returns-then-in_block c = record { either = inl (block_above c.requires.numbered c.requires.x_bound.1 c.requires.x_bound.0 (c.in_block.ensures.holds c.if-in_block.true) (λ e. c.requires.x_bound.2 (sym e)), c.list_above.ensures.place) }

pub climb_of-near-requires : goal.climb_of-near-requires
climb_of-near-requires c = record { formed = (c.requires.formed.0, c.requires.formed.2); v_bound = (c.requires.x_bound.0, omega (arith, c.requires.formed.1.depth _ c.requires.x_bound.0)) }

pub meet-requires : goal.meet-requires
meet-requires c = let outside = outside_block c.requires.numbered c.requires.x_bound.1 c.requires.x_bound.0 (c.in_block.ensures.fails c.if-in_block.false) in record { formed = c.requires.formed.0; abreast = raised_near c.requires.formed.0 c.requires.formed.1 (omega (arith, c.if-depth_y-depth_x.true)) c.climb_of-near.ensures c.climb_of.ensures outside }

pub returns-then-depth_y-depth_x : goal.returns-then-depth_y-depth_x
returns-then-depth_y-depth_x c = leads_of c.args.labels.now c.meet.result c.climb_of-near.ensures.of c.climb_of.ensures.of c.meet.ensures

-- ---- x is not
pub in_block-requires-2 : goal.in_block-requires-2
in_block-requires-2 c = record { tables_len = c.requires.numbered.places; u_bound = (omega (arith, c.requires.formed.0.parents.few_junctions, c.requires.x_bound.0), omega (arith, c.requires.formed.0.parents.few_junctions, c.requires.x_bound.1)) }

-- x stands above y
pub list_above-requires-then-in_block-2 : goal.list_above-requires-then-in_block-2
list_above-requires-then-in_block-2 c = record { formed = c.requires.formed.0; depths_filled = c.requires.formed.1; starts_filled = c.requires.formed.2; v_bound = (c.requires.x_bound.1, c.requires.x_bound.0); u_bound = above-deeper c.requires.formed.0 (block_above c.requires.numbered c.requires.x_bound.0 c.requires.x_bound.1 (c.in_block-2.ensures.holds c.if-in_block-2.true) c.requires.x_bound.2) }

pub returns-then-in_block-2 : goal.returns-then-in_block-2
returns-then-in_block-2 c = record { either = inr (block_above c.requires.numbered c.requires.x_bound.0 c.requires.x_bound.1 (c.in_block-2.ensures.holds c.if-in_block-2.true) c.requires.x_bound.2, c.list_above-then-in_block-2.ensures.place) }

pub climb_of-requires-2 : goal.climb_of-requires-2
climb_of-requires-2 c = record { formed = (c.requires.formed.0, c.requires.formed.2); v_bound = (c.requires.x_bound.1, omega (arith, c.requires.formed.1.depth _ c.requires.x_bound.1)) }

pub meet-requires-2 : goal.meet-requires-2
meet-requires-2 c = let outside = outside_block c.requires.numbered c.requires.x_bound.0 c.requires.x_bound.1 (c.in_block-2.ensures.fails c.if-in_block-2.false) in
    record { formed = c.requires.formed.0; abreast = raised_far c.requires.formed.0 c.requires.formed.1 c.if-depth_y-depth_x.false c.climb_of-2.ensures c.climb_of-near-2.ensures outside }

pub returns : goal.returns
returns c = leads_of c.args.labels.now c.meet-2.result c.climb_of-near-2.ensures.of c.climb_of-2.ensures.of c.meet-2.ensures
