-- The words, the route and the newline.
use Rattle.replies.proofs.LineLaws.{found_line_put}
use Rattle.replies.proofs.lines.put_found_line.Goals as goal

pub returns-clause-put : goal.returns-clause-put
returns-clause-put c = found_line_put _ _ _ _ _ c.put_words.ensures.put c.put_route.ensures.put c.put_byte.ensures.put
