-- Each turn notes the sum with one entry more of the second list, and what stands behind the span makes no difference to it.
use Rattle.spans.proofs.TableLaws.{EntryNoted}
use Rattle.unbeaten.specs.working.Noting.{sums_with}
use Rattle.unbeaten.proofs.noting.note_entry.Given as goal

abbrev pub invariant-loop-j : goal.invariant-loop-j
invariant-loop-j l = EntryNoted (sums_with l.time.0 l.energy.0 l.more_times l.more_energies) l.end l.first.0 l.initial.leasts l.j l.leasts
