-- A junction and itself, two trees, one above the other, two branches: in each case the pairs that are searched stand for all paths.
use Rattle.query.proofs.WholeAnswers.{leads-nowhere, leads-list, leads-lists, list-between-fits, row_fits}
use Rattle.reaching.proofs.Reaching.{on_labels, levels_marked, reach-itself, reach-apart, reach-list, reach_across}
use Rattle.reaching.proofs.reach.reaches.Goals as goal

pub returns-then-ends : goal.returns-then-ends
returns-then-ends c = record { decides = reach-itself c.if-ends.true; held_2 = c.requires.held }

pub between-requires : goal.between-requires
between-requires c = record { formed = (c.requires.prepared.beside.formed, c.requires.prepared.depths_filled, c.requires.prepared.starts_filled); numbered = c.requires.prepared.numbered; x_bound = (on_labels c.requires.prepared c.requires.from_bound.0, on_labels c.requires.prepared c.requires.from_bound.1, c.if-ends.false) }

pub invariant_of-list_reaches : goal.invariant_of-list_reaches
invariant_of-list_reaches c = record { fits = list-between-fits c.requires.prepared.beside.formed (leads-list _ _ _ c.in-List.is c.between.ensures) }

pub hold-requires : goal.hold-requires
hold-requires c = let two = leads-lists _ _ _ c.in-Lists.is c.between.ensures in
    record { files_fit = (c.requires.prepared.beside, c.requires.prepared.depths_filled, two.meets.on_map); held = c.requires.held }

pub search_levels-requires : goal.search_levels-requires
search_levels-requires c = let two = leads-lists _ _ _ c.in-Lists.is c.between.ensures in
    record { row_fits = row_fits c.requires.prepared two; levels_bound = levels_marked c.requires.prepared.beside.formed.parents two }

pub returns-in-Nothing : goal.returns-in-Nothing
returns-in-Nothing c = record { decides = reach-apart c.requires.prepared (leads-nowhere _ _ _ c.in-Nothing.is c.between.ensures); held_2 = c.requires.held }

pub returns-in-List : goal.returns-in-List
returns-in-List c = record { decides = reach-list c.requires.prepared (leads-list _ _ _ c.in-List.is c.between.ensures) c.list_reaches.ensures; held_2 = c.requires.held }

pub returns-in-Lists : goal.returns-in-Lists
returns-in-Lists c = let two = leads-lists _ _ _ c.in-Lists.is c.between.ensures in
    record { decides = reach_across c.requires.prepared two c.hold.ensures.hop_marks c.search_levels.ensures; held_2 = c.hold.ensures.held_2 }
