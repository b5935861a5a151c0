-- Energy rises along the list, so what is within the limit comes first; time falls, so the last of it is the best.
use mathlib.Core.Path.{refl}
use Rattle.query.proofs.ListPlaces.{list-empty, list_over, list-best}
use Rattle.query.proofs.direct.from_list.Goals as goal

pub returns-then-count-eq0 : goal.returns-then-count-eq0
returns-then-count-eq0 c = list-empty c.args.list.fits c.count.ensures.value c.if-count-eq0.true

pub returns-then-count-eq0-2 : goal.returns-then-count-eq0-2
returns-then-count-eq0-2 c = list_over c.args.list.fits c.count.ensures.value c.if-count-eq0.false c.fitting-count.ensures c.if-count-eq0-2.true

pub returns : goal.returns
returns c = list-best c.args.list.fits c.count.ensures.value c.if-count-eq0.false c.fitting-count.ensures c.if-count-eq0-2.false refl c.time.ensures.value c.energy.ensures.value
