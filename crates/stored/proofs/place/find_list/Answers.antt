-- The lists of v follow each other from the parent upward, so u's stands as many behind the first as there are ancestors between.
use native.Mathlib.Omega.{arith}
use Rattle.stored.proofs.Places.{deeper_in_table, way_read, way_inside, way_found}
use borrow.Author.Rules.{rules}
use Rattle.stored.proofs.place.find_list.Goals as goal

pub overflow_sub-between : goal.overflow_sub-between
overflow_sub-between c = omega (
  arith,
  deeper_in_table c.requires.depths_filled c.requires.v_bound.0 c.requires.v_bound.1 c.requires.u_bound,
)

pub overflow_sub-between-2 : goal.overflow_sub-between-2
overflow_sub-between-2 c = omega (
  arith,
  deeper_in_table c.requires.depths_filled c.requires.v_bound.0 c.requires.v_bound.1 c.requires.u_bound,
)

pub skip-requires : goal.skip-requires
skip-requires c = record {
  k_in_bounds = way_inside c.requires.formed
      (way_read c.requires.depths_filled c.requires.starts_filled c.requires.v_bound.0 c.requires.v_bound.1 c.requires.u_bound
      c.number_of.ensures c.number_of-2.ensures c.entry_at-start.ensures);
  labels_len_bound = c.requires.formed.few_bytes;
}

pub returns : goal.returns
returns c = search (way_found, way_read, rules)
