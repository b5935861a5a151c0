-- `agree::cover::covers_at` is right: an entry that is neither slower nor dearer covers the sum, and no other entry can equal it.
use native.Mathlib.Omega.{arith}
use Rattle.std.proofs.lemmas.Bool.Decides.{nat_tests}
use Rattle.agree.proofs.CoverSteps.{list_read, compared_covers}
use Rattle.agree.proofs.cover.covers_at.Goals as goal

pub returns : goal.returns
returns c =
    compared_covers
    (list_read c.args.own.list.fits c.args.own.counted)
    _
    c.requires
    c.if-i-own.false
    c.time-time.ensures.value
    (grind (arith, nat_tests))
    c.energy-energy.ensures.value
    (grind (arith, nat_tests))
    c.eq.ensures
    c.mark_after.ensures
