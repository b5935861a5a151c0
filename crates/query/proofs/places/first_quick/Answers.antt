-- Times fall, so what is too slow comes first.
use Rattle.std.proofs.Common.{rules}
use Rattle.query.proofs.ListPlaces.{slow_end}
use Rattle.query.proofs.places.first_quick.Goals as goal

pub returns : goal.returns
returns c = slow_end c.args.list.fits c.count.ensures.value c.first_failing.ensures (λ k b h p. search rules)
