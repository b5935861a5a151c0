-- Each turn notes the sum with one far entry more, and what stands behind the span makes no difference to it.
use Rattle.spans.proofs.TableLaws.{entry-none, entry_all, entry-later, entry_more, entry-beyond}
use Rattle.tradeoffs.proofs.NotingLaws.{level_falls}
use Rattle.tradeoffs.proofs.noting.note_entry.Goals as goal

pub loop-j-init : goal.loop-j-init
loop-j-init c = entry-none _ _ _ c.requires.leasts_len

pub seconds_behind-second-requires : goal.seconds_behind-second-requires
seconds_behind-second-requires c = entry-later c.loop-j.invariant c.loop-j-test.true c.sum_at-sum.ensures.time_is c.requires.none_before

pub returns-then-second-ge-SECONDS : goal.returns-then-second-ge-SECONDS
returns-then-second-ge-SECONDS c = entry-beyond c.loop-j.invariant c.loop-j-test.true c.sum_at-sum.ensures.time_is c.seconds_behind-second.ensures
    (entry-later c.loop-j.invariant c.loop-j-test.true c.sum_at-sum.ensures.time_is c.requires.none_before) (level_falls c.args.near c.args.i c.requires.list_fits.1 c.requires.i_bound.1) c.if-second-ge-SECONDS.true

pub lower-requires : goal.lower-requires
lower-requires c = (c.loop-j.invariant.so_far.long, c.if-second-ge-SECONDS.false)

pub loop-j-preserved : goal.loop-j-preserved
loop-j-preserved c = entry_more c.loop-j.invariant c.loop-j-test.true c.sum_at-sum.ensures.time_is c.seconds_behind-second.ensures
    (entry-later c.loop-j.invariant c.loop-j-test.true c.sum_at-sum.ensures.time_is c.requires.none_before) c.sum_at-sum.ensures.energy_is c.if-second-ge-SECONDS.false c.lower.ensures

pub returns : goal.returns
returns c = entry_all c.loop-j.invariant c.loop-j-test.false
