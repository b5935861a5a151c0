-- Six words.
use Rattle.replies.proofs.LineLaws.{words_put}
use Rattle.replies.proofs.lines.put_words.Goals as goal

pub returns-clause-put : goal.returns-clause-put
returns-clause-put c = words_put _ _ _ _ _ _ c.put_word.ensures.put c.put_word-2.ensures.put c.put_word-3.ensures.put c.put_word-4.ensures.put
    c.put_word-5.ensures.put c.put_word-6.ensures.put
