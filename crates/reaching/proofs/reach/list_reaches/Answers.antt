-- Of the entries that fit the last is the quickest, so its time decides.
use Rattle.reaching.proofs.Searching.{le_decides, list-none, list-decides}
use Rattle.reaching.proofs.reach.list_reaches.Goals as goal

pub returns-then-j-gt0 : goal.returns-then-j-gt0
returns-then-j-gt0 c = list-decides c.args.list.fits c.fitting-j.ensures c.if-j-gt0.true c.time.ensures.value (le_decides c.le.ensures)

pub returns-else-j-gt0 : goal.returns-else-j-gt0
returns-else-j-gt0 c = list-none c.args.list.fits c.fitting-j.ensures c.if-j-gt0.false
