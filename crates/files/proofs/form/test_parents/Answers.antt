-- Parents that stand whole are tested by `fill_depths`, and one that fails gives 15.
use Rattle.files.proofs.FormTests.{parents_cut, parents_misfit, parents_pass_lem}
use Rattle.files.proofs.form.test_parents.Goals as goal

pub returns-then-labels-lists_from : goal.returns-then-labels-lists_from
returns-then-labels-lists_from c = parents_cut _ c.lists_from.ensures c.if-labels-lists_from.true c.requires.depths_len

pub returns-then-not-fill_depths : goal.returns-then-not-fill_depths
returns-then-not-fill_depths c = parents_misfit _ c.lists_from.ensures c.if-labels-lists_from.false c.if-not-fill_depths.ensures

pub returns : goal.returns
returns c = parents_pass_lem _ c.lists_from.ensures c.if-labels-lists_from.false c.if-not-fill_depths.ensures
