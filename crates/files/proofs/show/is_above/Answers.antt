-- An ancestor other than v itself is a proper one.
use Rattle.files.proofs.ShowLaws.{above_itself, above_other}
use Rattle.files.proofs.show.is_above.Goals as goal

pub returns-then-u-v : goal.returns-then-u-v
returns-then-u-v c = above_other c.requires.parents_fit _ _ c.requires.v_bound c.if-u-v.true c.is_ancestor.ensures

pub returns-else-u-v : goal.returns-else-u-v
returns-else-u-v c = above_itself c.requires.parents_fit _ _ c.if-u-v.false
