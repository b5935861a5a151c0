-- A number and a space are a word.
use Rattle.replies.proofs.LineLaws.{word_put}
use Rattle.replies.proofs.lines.put_word.Goals as goal

pub returns-clause-put : goal.returns-clause-put
returns-clause-put c = word_put _ c.put_numeral.ensures.put c.put_byte.ensures.put
