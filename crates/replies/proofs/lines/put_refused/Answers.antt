-- The word, the number and the newline.
use Rattle.replies.proofs.LineLaws.{refused_put}
use Rattle.replies.proofs.lines.put_refused.Goals as goal

pub returns-clause-put : goal.returns-clause-put
returns-clause-put c = refused_put _ c.put_bytes.ensures.put c.put_numeral.ensures.put c.put_byte.ensures.put
