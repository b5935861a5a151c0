-- What is known after all levels, beginning with nothing, is the best sum of them all.
use Rattle.query.proofs.Rows.{row_answer}
use Rattle.query.proofs.limited.from_lists.Goals as goal

pub returns : goal.returns
returns c = row_answer c.requires c.unknown.ensures c.across.ensures c.told.ensures
