-- `replies::reply::reply_query`: an answer is a found pair, or it carries zeros beside its number.
use mathlib.Core.Path.{refl}
use Rattle.accepted.proofs.BatchSteps.{number_some}
use Rattle.accepted.proofs.FoundPair.{found-zero}
use Rattle.replies.proofs.ReplyCases.{refusal_replied}
use Rattle.replies.proofs.reply.reply_query.Goals as goal

pub returns-in-Err-clause-put : goal.returns-in-Err-clause-put
returns-in-Err-clause-put c = refusal_replied (rw c.in-Err.is at c.answer-found.ensures) (refl, refl, number_some _) (rw c.in-Err.is at c.number_of_answer.ensures) c.put_refused_line.ensures.put

pub put_found-requires : goal.put_found-requires
put_found-requires c = record { prepared = c.requires.prepared; answers = found-zero c.in-Ok.is c.answer-found.ensures; at_in_bounds = c.requires.at_in_bounds }
