-- Each way through a batch is one law of `Outcomes`.
use Rattle.std.proofs.Common.{refl, arith}
use Rattle.accepted.proofs.Accepted.{ready_for_queries}
use Rattle.accepted.proofs.Refusals.{some_number}
use Rattle.labels.proofs.Outcomes.{done_no_triples, done_too_many, done_other_places, done_not_accepted, done_answered}
use Rattle.labels.proofs.batch.Goals as goal

pub returns-then-length-ne0 : goal.returns-then-length-ne0
returns-then-length-ne0 c = search (done_no_triples)

pub returns-then-length-gt3072 : goal.returns-then-length-gt3072
returns-then-length-gt3072 c = done_too_many (omega arith) (omega arith)

pub returns-then-answers-length : goal.returns-then-answers-length
returns-then-answers-length c = search (done_other_places)

pub returns-in-Err : goal.returns-in-Err
returns-in-Err c = rw c.number.ensures (done_not_accepted c.if-length-ne0.false c.if-length-gt3072.false c.if-answers-length.false c.in-Err.ensures (some_number c.in-Err.refusal))

pub answer_all-requires-clause-prepared : goal.answer_all-requires-clause-prepared
answer_all-requires-clause-prepared c = ready_for_queries c.in_default.ensures refl

pub returns : goal.returns
returns c = done_answered c.if-length-ne0.false c.if-length-gt3072.false c.if-answers-length.false c.in_default.ensures refl c.answer_all.ensures
