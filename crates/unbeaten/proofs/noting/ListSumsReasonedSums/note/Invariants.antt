-- Each turn notes the sums of one entry more of the first list with those of the second that fit beside it.
use lib.ListN.{length}
use Rattle.lists.specs.working.Sums.{sum_at}
use Rattle.spans.proofs.TableLaws.{SumsNoted}
use Rattle.unbeaten.proofs.noting.ListSumsReasonedSums.note.Given as goal

abbrev pub invariant-loop-i : goal.invariant-loop-i
invariant-loop-i l = SumsNoted (sum_at l.self.times.now l.self.energies.now l.self.more_times.now l.self.more_energies.now) (length l.self.times.now) (length l.self.more_times.now) l.limit.0 l.first.0 l.initial.leasts l.i l.j l.leasts
