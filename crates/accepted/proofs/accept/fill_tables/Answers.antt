-- What is filled later leaves what was filled before.
use Rattle.accepted.proofs.Accepts.{all_filled}
use Rattle.accepted.proofs.accept.fill_tables.Goals as goal

pub returns : goal.returns
returns c = all_filled c.requires.0 c.requires.1 c.requires.2 c.group_roads.ensures.0 c.group_roads.ensures.1 c.number.ensures.0 c.number.ensures.1
