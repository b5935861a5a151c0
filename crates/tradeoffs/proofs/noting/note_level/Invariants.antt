-- Each turn notes the sums of one near entry more with the far entries that fit beside it.
use Rattle.forest.specs.LabelFile.{count_at}
use Rattle.query.specs.working.Sums.{sum_of}
use Rattle.spans.proofs.TableLaws.{SumsNoted}
use Rattle.tradeoffs.proofs.noting.note_level.Given as goal

abbrev pub invariant-loop-i : goal.invariant-loop-i
invariant-loop-i l = SumsNoted (sum_of l.labels l.near l.far) (count_at l.labels l.near) (count_at l.labels l.far) l.limit.0 l.first.0 l.initial.leasts l.i l.j l.leasts
