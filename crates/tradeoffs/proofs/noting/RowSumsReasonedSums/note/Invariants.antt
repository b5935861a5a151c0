-- Each turn notes the sums of one level more.
use Rattle.tradeoffs.proofs.NotingLaws.{RowNoted}
use Rattle.tradeoffs.proofs.noting.RowSumsReasonedSums.note.Given as goal

abbrev pub invariant-loop : goal.invariant-loop
invariant-loop l = RowNoted l.self.labels.now l.self.near l.self.far l.self.levels l.limit.0 l.first.0 l.initial.leasts l.counter l.near.at l.far.at l.leasts
