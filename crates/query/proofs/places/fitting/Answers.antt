-- Energies rise, so what fits comes first.
use Rattle.std.proofs.Common.{rules}
use Rattle.query.proofs.ListPlaces.{fitting_end}
use Rattle.query.proofs.places.fitting.Goals as goal

pub returns : goal.returns
returns c = fitting_end c.args.list.fits c.count.ensures.value c.first_failing.ensures (λ k b h p. search rules)
