-- From the second entry on the ceiling is the time before.
use borrow.Author.Rules.{rules}
use Rattle.stored.proofs.Entries.{ceiling_later}
use Rattle.stored.proofs.stored.time_ceiling.Goals as goal

pub returns : goal.returns
returns c = search (ceiling_later, rules)
