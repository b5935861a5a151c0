-- A hyphen and a number.
use Rattle.replies.proofs.LineLaws.{next_put}
use Rattle.replies.proofs.lines.put_next.Goals as goal

pub returns-clause-put : goal.returns-clause-put
returns-clause-put c = next_put _ c.put_byte.ensures.put c.put_numeral.ensures.put
