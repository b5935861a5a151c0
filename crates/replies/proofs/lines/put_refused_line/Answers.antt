-- The words and a hyphen.
use Rattle.replies.proofs.LineLaws.{refused_line_put}
use Rattle.replies.proofs.lines.put_refused_line.Goals as goal

pub returns-clause-put : goal.returns-clause-put
returns-clause-put c = refused_line_put _ _ _ _ c.put_words.ensures.put c.put_bytes.ensures.put
