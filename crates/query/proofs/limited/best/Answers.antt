-- A junction and itself, two trees, one above the other, two branches: in each case the pairs that are searched stand for all paths.
use Rattle.query.proofs.WholeAnswers.{leads-nowhere, leads-list, leads-lists, list-between-fits, row_fits, answer_itself, answer_apart, answer_list, answer_lists}
use Rattle.query.proofs.limited.best.Goals as goal

pub returns-then-x-y : goal.returns-then-x-y
returns-then-x-y c = answer_itself c.requires.prepared c.requires.x_bound.0 c.requires.x_bound.1 c.if-x-y.true

pub invariant_of-from_list : goal.invariant_of-from_list
invariant_of-from_list c = record { fits = list-between-fits c.requires.prepared.beside.formed (leads-list _ _ _ c.in-List.is c.between.ensures) }

pub from_lists-requires : goal.from_lists-requires
from_lists-requires c = row_fits c.requires.prepared (leads-lists _ _ _ c.in-Lists.is c.between.ensures)

pub returns-in-Nothing : goal.returns-in-Nothing
returns-in-Nothing c = answer_apart c.requires.prepared c.requires.x_bound.0 c.requires.x_bound.1 (leads-nowhere _ _ _ c.in-Nothing.is c.between.ensures)

pub returns-in-List : goal.returns-in-List
returns-in-List c = answer_list c.requires.prepared c.requires.x_bound.0 c.requires.x_bound.1 (leads-list _ _ _ c.in-List.is c.between.ensures) c.from_list.ensures

pub returns-in-Lists : goal.returns-in-Lists
returns-in-Lists c = answer_lists c.requires.prepared c.requires.x_bound.0 c.requires.x_bound.1 (leads-lists _ _ _ c.in-Lists.is c.between.ensures) c.from_lists.ensures
