-- Each turn takes what is known further by one level.
use Rattle.query.proofs.Rows.{Rowed}
use Rattle.query.proofs.across.across.Given as goal

abbrev pub invariant-loop : goal.invariant-loop
invariant-loop l = Rowed l.labels l.near l.far l.levels l.limit.0 l.initial.best l.counter l.near_place.at l.far_place.at l.best
