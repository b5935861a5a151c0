-- Each turn notes the sums of one near entry more with the far entries that fit beside it.
use Prim.Native.Nat.{◌<◌}
use native.Mathlib.Omega.{arith}
use Rattle.forest.specs.LabelFile.{count_at}
use Rattle.spans.proofs.TableLaws.{sums_none, sums_all, sums_unfit, sums_end, sums-later, sums_next}
use Rattle.tradeoffs.proofs.NotingLaws.{level_before, level-lowered, level_rise, level-fitting}
use Rattle.tradeoffs.proofs.noting.note_level.Goals as goal

pub loop-i-init : goal.loop-i-init
loop-i-init c = sums_none _ _ _ _ _ c.requires.leasts_len c.count-j.ensures.value

pub returns-then-j-eq0 : goal.returns-then-j-eq0
returns-then-j-eq0 c = level-lowered
    (sums_unfit c.loop-i.invariant (level_rise c.requires.list_fits.0 c.requires.list_fits.1) (omega (arith, c.count-i-end.ensures.value)) (level-fitting c.args.near c.loop-i.i c.energy.ensures.value c.fitting_from-j.ensures) c.if-j-eq0.true)

pub note_entry-requires : goal.note_entry-requires
note_entry-requires c = let rise = level_rise c.requires.list_fits.0 c.requires.list_fits.1 in
    let fitting = level-fitting c.args.near c.loop-i.i c.energy.ensures.value c.fitting_from-j.ensures in
    let turn : c.loop-i.i < count_at c.args.labels.now c.args.near = omega (arith, c.count-i-end.ensures.value) in
    record {
      list_fits = c.requires.list_fits;
      i_bound = (turn, sums_end c.loop-i.invariant rise turn fitting);
      none_before = sums-later c.loop-i.invariant rise turn fitting (level_before c.requires.none_before);
      leasts_len = c.loop-i.invariant.so_far.long;
    }

pub loop-i-preserved : goal.loop-i-preserved
loop-i-preserved c = sums_next c.loop-i.invariant (level_rise c.requires.list_fits.0 c.requires.list_fits.1) (omega (arith, c.count-i-end.ensures.value))
    (level-fitting c.args.near c.loop-i.i c.energy.ensures.value c.fitting_from-j.ensures) c.note_entry.ensures

pub returns : goal.returns
returns c = level-lowered (sums_all c.loop-i.invariant (omega (arith, c.count-i-end.ensures.value)))
