-- The first j places of both slices hold the first j entries.
use Rattle.forest.specs.LabelFile.{time_at, energy_at}
use Rattle.stored.proofs.Tabulate.{Filling}
use Rattle.stored.proofs.stored.load.Given as goal

abbrev pub invariant-loop-j : goal.invariant-loop-j
invariant-loop-j l = Filling (time_at l.labels l.at) l.initial.times l.j l.times × Filling (energy_at l.labels l.at) l.initial.energies l.j l.energies
