-- Each turn notes the sums of one level more.
use Rattle.query.proofs.Rows.{along-near, along_far, near_next, far_next}
use Rattle.tradeoffs.proofs.NotingLaws.{row_none, row_later, row_more, row_all}
use Rattle.tradeoffs.proofs.noting.RowSumsReasonedSums.note.Goals as goal

pub loop-init : goal.loop-init
loop-init c = row_none _ _ _ _ _ _ c.requires.leasts_len

pub note_level-requires : goal.note_level-requires
note_level-requires c =
    record {
      list_fits = (along-near c.loop.invariant.along c.requires.is_formed c.loop-test.true, along_far c.loop.invariant.along c.requires.is_formed c.loop-test.true);
      none_before = row_later c.loop.invariant c.loop-test.true c.requires.none_before;
      leasts_len = c.loop.invariant.so_far.long;
    }

pub next-near-requires : goal.next-near-requires
next-near-requires c = let stands = near_next c.loop.invariant.along c.requires.is_formed c.loop-test.true in
    record { at_in_bounds = stands.0; labels_len_bound = stands.1 }

pub next-far-requires : goal.next-far-requires
next-far-requires c = let stands = far_next c.loop.invariant.along c.requires.is_formed c.loop-test.true in
    record { at_in_bounds = stands.0; labels_len_bound = stands.1 }

pub loop-preserved : goal.loop-preserved
loop-preserved c = row_more c.loop.invariant c.loop-test.true c.requires.is_formed c.note_level.ensures c.next-near.ensures c.next-far.ensures

pub returns : goal.returns
returns c = row_all c.loop.invariant c.loop-test.false
