-- Each turn notes the sum with one far entry more, and what stands behind the span makes no difference to it.
use Rattle.query.specs.working.Sums.{sum_of}
use Rattle.spans.proofs.TableLaws.{EntryNoted}
use Rattle.tradeoffs.proofs.noting.note_entry.Given as goal

abbrev pub invariant-loop-j : goal.invariant-loop-j
invariant-loop-j l = EntryNoted (sum_of l.labels l.near l.far l.i) l.end l.first.0 l.initial.leasts l.j l.leasts
