-- Where v and u are junctions and u is a proper ancestor of v, the list that is found is the one to show.
use Rattle.files.proofs.ShowLaws.{above_deeper, found_stands, span_list}
use Rattle.files.proofs.show.list_span.Goals as goal

pub find_list-place-requires-clause-u_bound : goal.find_list-place-requires-clause-u_bound
find_list-place-requires-clause-u_bound c = above_deeper c.requires.formed.parents c.if-not-is_above.ensures

pub next-requires-clause-at_in_bounds : goal.next-requires-clause-at_in_bounds
next-requires-clause-at_in_bounds c = found_stands c.requires.formed c.find_list-place.ensures

pub returns : goal.returns
returns c = span_list c.requires.labels_value c.requires.formed c.junctions_of-n.ensures.is c.if-v-n.false c.if-u-n.false c.if-not-is_above.ensures
    c.find_list-place.ensures c.next.ensures
