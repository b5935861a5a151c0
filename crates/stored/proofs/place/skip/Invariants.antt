-- After so many moves the place is as many lists further than it was.
use Rattle.stored.proofs.Places.{Moved}
use Rattle.stored.proofs.place.skip.Given as goal

abbrev pub invariant-loop : goal.invariant-loop
invariant-loop l = Moved l.labels l.initial.place.at l.k l.counter l.place.at
