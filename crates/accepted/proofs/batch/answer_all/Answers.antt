-- `answer_all` answers triple after triple: each turn is `one_answered`.
use mathlib.Core.Path.{refl}
use native.Mathlib.Omega.{arith}
use Rattle.accepted.proofs.BatchSteps.{none-answered, one_answered, all_answered}
use Rattle.accepted.proofs.batch.answer_all.Goals as goal

pub loop-i-init : goal.loop-i-init
loop-i-init c = none-answered

pub loop-i-preserved : goal.loop-i-preserved
loop-i-preserved c = one_answered c.requires.triples (omega arith) refl c.loop-i.invariant c.answer-found.ensures c.put_answer.ensures

pub returns : goal.returns
returns c = all_answered c.loop-i.invariant (omega arith)
