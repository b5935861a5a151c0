-- Each turn is `one_spelled`, the last `all_spelled`.
use Rattle.text.proofs.WritingLaws.{one_spelled, all_spelled}
use Rattle.text.proofs.write.spell.Goals as goal

pub returns-then-rest-lt10 : goal.returns-then-rest-lt10
returns-then-rest-lt10 c = all_spelled c.loop-place.invariant c.loop-place-test.true c.digit.ensures c.if-rest-lt10.true

pub loop-place-preserved : goal.loop-place-preserved
loop-place-preserved c = one_spelled c.loop-place.invariant c.loop-place-test.true c.digit.ensures c.if-rest-lt10.false
