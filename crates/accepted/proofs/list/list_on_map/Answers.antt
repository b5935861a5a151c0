-- The list is counted, then the room is tested, and only then the slices are filled: each way out is one law of `ListAnswers`.
use mathlib.Core.Path.{refl}
use native.Mathlib.Omega.{arith}
use Rattle.tradeoffs.proofs.Lists.{tells_some}
use Rattle.accepted.proofs.ListAnswers.{list-itself, list-apart, list_too_long, list_written}
use Rattle.accepted.proofs.list.list_on_map.Goals as goal

pub returns-then-s-t : goal.returns-then-s-t
returns-then-s-t c = record { list_answered = list-itself c.requires.prepared c.requires.s_bound.0 c.requires.s_bound.1 c.if-s-t.true c.list_of_itself.ensures.list_put; result_value = c.list_of_itself.ensures.result_value }

pub between-lists-requires : goal.between-lists-requires
between-lists-requires c = record { formed = (c.requires.prepared.beside.formed, c.requires.prepared.depths_filled, c.requires.prepared.starts_filled); numbered = c.requires.prepared.numbered; x_bound = (c.requires.s_bound.0, c.requires.s_bound.1, c.if-s-t.false) }

pub list_count-count-requires : goal.list_count-count-requires
list_count-count-requires c = tells_some c.requires.prepared c.args.s c.args.t c.between-lists.result c.between-lists.ensures

pub returns-then-count-eq0 : goal.returns-then-count-eq0
returns-then-count-eq0 c = record { list_answered = list-apart c.requires.prepared c.requires.s_bound.0 c.requires.s_bound.1 c.between-lists.result c.between-lists.ensures c.list_count-count.ensures c.if-count-eq0.true; result_value = refl }

pub returns-then-shorter-count : goal.returns-then-shorter-count
returns-then-shorter-count c = record { list_answered = list_too_long c.requires.prepared c.requires.s_bound.0 c.requires.s_bound.1 c.between-lists.result c.between-lists.ensures c.list_count-count.ensures c.if-count-eq0.false c.shorter.ensures c.if-shorter-count.true; result_value = refl }

pub list_fill-requires : goal.list_fill-requires
list_fill-requires c = record { counted = c.list_count-count.ensures; count_in_bounds = (omega arith, omega arith) }

pub returns : goal.returns
returns c = record { list_answered = list_written c.requires.prepared c.requires.s_bound.0 c.requires.s_bound.1 c.between-lists.result c.between-lists.ensures c.if-count-eq0.false c.shorter.ensures c.if-shorter-count.false c.list_fill.ensures; result_value = refl }
