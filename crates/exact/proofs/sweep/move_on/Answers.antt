-- Each turn moves one junction on.
use Rattle.std.proofs.Common.{rules}
use Rattle.exact.proofs.Moving.{moving_more}
use Rattle.exact.proofs.sweep.move_on.Goals as goal

pub loop-v-preserved : goal.loop-v-preserved
loop-v-preserved c = search (moving_more, rules)
