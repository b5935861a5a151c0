-- `answer_all` answers triple after triple: each turn is `one_answered`.
use Rattle.accepted.specs.working.Triples.{AnsweredTo}
use Rattle.accepted.proofs.batch.answer_all.Given as goal

abbrev pub invariant-loop-i : goal.invariant-loop-i
invariant-loop-i l = AnsweredTo l.set.net.now l.queries l.initial.answers l.answers l.i
