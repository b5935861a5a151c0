-- The lists of v follow each other from the parent upward, so u's stands as many behind the first as there are ancestors between.
use native.Mathlib.Omega.{arith}
use Rattle.stored.proofs.Places.{deeper_in_table, way_read, way_inside, way_found}
use Rattle.query.proofs.above.list_above.Goals as goal

-- v is the deeper one
pub overflow_sub-between : goal.overflow_sub-between
overflow_sub-between c = omega (arith, deeper_in_table c.requires.depths_filled c.requires.v_bound.0 c.requires.v_bound.1 c.requires.u_bound)

pub overflow_sub-between-2 : goal.overflow_sub-between-2
overflow_sub-between-2 c = omega (arith, deeper_in_table c.requires.depths_filled c.requires.v_bound.0 c.requires.v_bound.1 c.requires.u_bound)

-- how many lists from where on
pub pass_lists-requires : goal.pass_lists-requires
pass_lists-requires c =
    let way = way_read c.requires.depths_filled c.requires.starts_filled c.requires.v_bound.0 c.requires.v_bound.1 c.requires.u_bound c.number_of.ensures c.number_of-2.ensures c.entry_at-start.ensures in
    record { lists_in_bounds = way_inside c.requires.formed way; labels_len_bound = c.requires.formed.few_bytes }

pub returns : goal.returns
returns c =
    let way = way_read c.requires.depths_filled c.requires.starts_filled c.requires.v_bound.0 c.requires.v_bound.1 c.requires.u_bound c.number_of.ensures c.number_of-2.ensures c.entry_at-start.ensures in
    way_found way c.pass_lists.ensures
