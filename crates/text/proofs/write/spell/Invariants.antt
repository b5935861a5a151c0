-- Each turn puts one digit in front of those that stand: `one_spelled`.
use Rattle.text.proofs.WritingLaws.{Spelling}
use Rattle.text.proofs.write.spell.Given as goal

abbrev pub invariant-loop-place : goal.invariant-loop-place
invariant-loop-place l = Spelling l.number l.digits l.place l.rest
