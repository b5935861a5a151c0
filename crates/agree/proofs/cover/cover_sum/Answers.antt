-- `agree::cover::cover_sum` is right: the next entry covers the sum, or the first that is no slower decides.
use Rattle.agree.proofs.CoverSteps.{list_read, none_quick, quick_dear}
use Rattle.agree.proofs.cover.cover_sum.Goals as goal

pub returns-in_err-quick : goal.returns-in_err-quick
returns-in_err-quick c = rw c.from_residual.ensures (none_quick (list_read c.args.own.list.fits c.args.own.counted) c.requires.behind c.saturating_sub.ensures (rw c.in_err-quick.was at c.quick_from.ensures))

pub returns-else-covers_at-2 : goal.returns-else-covers_at-2
returns-else-covers_at-2 c =
    quick_dear (list_read c.args.own.list.fits c.args.own.counted) c.requires.behind c.saturating_sub.ensures c.in_ok-quick.ensures (c.covers_at-2.ensures.decides.fails c.if-covers_at-2.false)
