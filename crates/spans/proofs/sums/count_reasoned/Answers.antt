-- Each best sum below the bound is the last entry of the list there, so the entries are counted one by one, from the last to the first.
use Rattle.spans.proofs.BelowLaws.{why-found, why-none}
use Rattle.spans.proofs.ListSteps.{count-start, count-more, count_none, counted_end}
use Rattle.spans.proofs.sums.count_reasoned.Goals as goal

pub loop-bound-init : goal.loop-bound-init
loop-bound-init g c = count-start {Has = g.S.ReasonedSums.has c.args.sums.now} (λ p m. g.met.S.ReasonedSums.small _ p c.requires.is_formed m) c.requires.some_list c.no_span-span.ensures c.requires.leasts_len

pub returns-in_default-clause-value : goal.returns-in_default-clause-value
returns-in_default-clause-value g c = count_none c.loop-bound.invariant c.loop-bound-test.true (why-none c.next_or_why.ensures.told c.in_default.is).none

pub loop-bound-preserved : goal.loop-bound-preserved
loop-bound-preserved g c = count-more c.loop-bound.invariant c.loop-bound-test.true (why-found c.next_or_why.ensures.told c.in-Ok.is)

pub returns-clause-value : goal.returns-clause-value
returns-clause-value g c = counted_end c.loop-bound.invariant c.loop-bound-test.false
