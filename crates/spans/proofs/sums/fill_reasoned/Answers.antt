-- As many entries of the list lie below the bound as places are left, and the best sum there is the last of them, which goes to the last
-- of those places.
use Rattle.spans.proofs.BelowLaws.{why-found}
use Rattle.spans.proofs.ListSteps.{fill_start, fill_more, always_ok, fill_end}
use Rattle.spans.proofs.sums.fill_reasoned.Goals as goal

pub loop-place-init : goal.loop-place-init
loop-place-init g c =
    fill_start {Has = g.S.ReasonedSums.has c.args.sums.now} (λ p m. g.met.S.ReasonedSums.small _ p c.requires.is_formed m) c.requires.counted c.requires.count_in_bounds.0 c.requires.count_in_bounds.1 c.no_span-span.ensures
    c.requires.leasts_len

pub unwrap-sum-requires : goal.unwrap-sum-requires
unwrap-sum-requires g c = always_ok c.loop-place.invariant c.loop-place-test.true c.next_or_why.ensures.told

pub loop-place-preserved : goal.loop-place-preserved
loop-place-preserved g c = fill_more c.loop-place.invariant c.loop-place-test.true (why-found c.next_or_why.ensures.told c.unwrap-sum.ensures)

pub returns : goal.returns
returns g c = fill_end c.loop-place.invariant c.loop-place-test.false
