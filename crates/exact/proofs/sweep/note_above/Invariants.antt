-- Each turn notes the list for the next ancestor, and the list behind it is for the one above.
use Rattle.exact.proofs.Noting.{Noting}
use Rattle.exact.proofs.sweep.note_above.Given as goal

abbrev pub invariant-loop : goal.invariant-loop
invariant-loop l = Noting l.set.labels.now l.u l.counter l.end l.w l.place.at l.initial.places l.places
