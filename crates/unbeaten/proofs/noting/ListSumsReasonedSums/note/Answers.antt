-- Each turn notes the sums of one entry more of the first list with those of the second that fit beside it.
use Rattle.spans.proofs.TableLaws.{sums_unfit, sums-later, sums_next}
use Rattle.unbeaten.proofs.NotingLaws.{sums_rise}
use Rattle.unbeaten.proofs.noting.ListSumsReasonedSums.note.Goals as goal

pub returns-then-j-eq0 : goal.returns-then-j-eq0
returns-then-j-eq0 c = sums_unfit c.loop-i.invariant (sums_rise c.requires.is_formed.first c.requires.is_formed.second) c.loop-i-test.true (record { in_range = c.fitting-j.ensures.upper_bound; over = c.fitting-j.ensures.by_index_2; fits = c.fitting-j.ensures.result_bound }) c.if-j-eq0.true

pub note_entry-requires-clause-none_before : goal.note_entry-requires-clause-none_before
note_entry-requires-clause-none_before c = sums-later c.loop-i.invariant (sums_rise c.requires.is_formed.first c.requires.is_formed.second) c.loop-i-test.true (record { in_range = c.fitting-j.ensures.upper_bound; over = c.fitting-j.ensures.by_index_2; fits = c.fitting-j.ensures.result_bound }) c.requires.none_before

pub loop-i-preserved : goal.loop-i-preserved
loop-i-preserved c = sums_next c.loop-i.invariant (sums_rise c.requires.is_formed.first c.requires.is_formed.second) c.loop-i-test.true (record { in_range = c.fitting-j.ensures.upper_bound; over = c.fitting-j.ensures.by_index_2; fits = c.fitting-j.ensures.result_bound }) c.note_entry.ensures
