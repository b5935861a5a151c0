-- `agree::cover::cover_stored` is right: each turn covers one sum, and an own entry no slower than the last sum covers all that follow.
use native.Mathlib.Omega.{arith}
use Rattle.std.proofs.lemmas.Bool.Decides.{nat_tests}
use Rattle.agree.proofs.CoverSteps.{list_read}
use Rattle.agree.proofs.MergeSteps.{merged_start, merged_refuse, merged_more, merged_early, merged_end}
use Rattle.agree.proofs.cover.cover_stored.Goals as goal

pub returns-then-rest_count-eq0 : goal.returns-then-rest_count-eq0
returns-then-rest_count-eq0 c = merged_end (list_read c.requires.list_fits c.count-rest_count.ensures.value) (merged_start c.requires.marks_len) (omega arith)

pub returns-in_default : goal.returns-in_default
returns-in_default c = let rest = list_read c.requires.list_fits c.count-rest_count.ensures.value in
    merged_refuse c.args.own.list.fits rest c.loop-j.invariant c.loop-j-test.true c.sum_at-sum.ensures.0 c.sum_at-sum.ensures.1 c.in_default.ensures

pub returns-then-le : goal.returns-then-le
returns-then-le c = let rest = list_read c.requires.list_fits c.count-rest_count.ensures.value in
    merged_early c.args.own.list.fits rest c.loop-j.invariant c.loop-j-test.true c.sum_at-sum.ensures.0 c.sum_at-sum.ensures.1 c.in-Some.ensures
    c.sum_at-last.ensures.0 c.time.ensures.value (grind (arith, nat_tests))

pub loop-j-preserved : goal.loop-j-preserved
loop-j-preserved c = let rest = list_read c.requires.list_fits c.count-rest_count.ensures.value in
    merged_more c.args.own.list.fits rest c.loop-j.invariant c.loop-j-test.true c.sum_at-sum.ensures.0 c.sum_at-sum.ensures.1 c.in-Some.ensures

pub returns : goal.returns
returns c = merged_end (list_read c.requires.list_fits c.count-rest_count.ensures.value) c.loop-j.invariant (omega arith)
