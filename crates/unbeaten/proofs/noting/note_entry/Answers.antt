-- Each turn notes the sum with one entry more of the second list, and what stands behind the span makes no difference to it.
use Rattle.spans.proofs.TableLaws.{entry-later, entry_more, entry-beyond}
use Rattle.unbeaten.proofs.NotingLaws.{with_falls}
use Rattle.unbeaten.proofs.noting.note_entry.Goals as goal

pub seconds_behind-second-requires : goal.seconds_behind-second-requires
seconds_behind-second-requires c = entry-later c.loop-j.invariant c.loop-j-test.true c.add.ensures c.requires.none_before

pub returns-then-second-ge-SECONDS : goal.returns-then-second-ge-SECONDS
returns-then-second-ge-SECONDS c =
    entry-beyond c.loop-j.invariant c.loop-j-test.true c.add.ensures c.seconds_behind-second.ensures
    (entry-later c.loop-j.invariant c.loop-j-test.true c.add.ensures c.requires.none_before)
    (with_falls c.requires.list c.args.time.0 c.args.energy.0 c.requires.time_le_most_number.2) c.if-second-ge-SECONDS.true

pub loop-j-preserved : goal.loop-j-preserved
loop-j-preserved c =
    entry_more c.loop-j.invariant c.loop-j-test.true c.add.ensures c.seconds_behind-second.ensures
    (entry-later c.loop-j.invariant c.loop-j-test.true c.add.ensures c.requires.none_before) c.add-in-loop-j.ensures c.if-second-ge-SECONDS.false c.lower.ensures
