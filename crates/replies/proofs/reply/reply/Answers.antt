-- A line is read as a query, or it is bad.
use Rattle.replies.proofs.ReplyCases.{query_line, no_query_line, bad_replied, query_replied}
use Rattle.replies.proofs.reply.reply.Goals as goal

pub returns-in-Some-clause-put : goal.returns-in-Some-clause-put
returns-in-Some-clause-put c = query_replied (query_line c.in-Some.ensures) c.reply_query.ensures.put

pub returns-in-None-clause-put : goal.returns-in-None-clause-put
returns-in-None-clause-put c = bad_replied (no_query_line c.in-None.ensures) c.put_bad_line.ensures.put
