-- `agree::agree::list_agrees` is right: each turn adds one road of v, and behind the last road the list agrees exactly if every entry is marked.
use Rattle.std.proofs.lemmas.Bool.{not_from_false, not_from_true}
use native.Mathlib.Omega.{arith}
use borrow.Author.Tests.{not-true, not-false}
use Rattle.agree.proofs.CoverSteps.{list_read}
use Rattle.agree.proofs.AgreeSteps.{agreed_start, agreed_more, agreed_refuse, agreed_end, next-later, own_place, own_fits, first_is}
use Rattle.agree.proofs.agree.list_agrees.Goals as goal

pub invariant_of-list : goal.invariant_of-list
invariant_of-list c = record { fits = own_fits c.requires.agree_input c.number_of-at.ensures }

pub loop-k-init : goal.loop-k-init
loop-k-init c = agreed_start c.requires.agree_input.beside (first_is c.requires.agree_input c.first_road-k.ensures) c.requires.unmarked

pub loop-k-smaller : goal.loop-k-smaller
loop-k-smaller c = omega (arith, next-later _ _ _ _ c.next_road-k.ensures)

pub loop-k-preserved : goal.loop-k-preserved
loop-k-preserved c = agreed_more c.requires.agree_input.beside c.road_agrees.ensures c.loop-k.invariant (not-false _ (not_from_true _ c.if-not-road_agrees.false)) c.next_road-k.ensures

pub all_marked-requires : goal.all_marked-requires
all_marked-requires c = let short = (own_fits c.requires.agree_input c.number_of-at.ensures).short in
    (c.loop-k.invariant.marking.places, omega (arith, c.count.ensures.value))

pub returns-then-not-road_agrees-clause-decides : goal.returns-then-not-road_agrees-clause-decides
returns-then-not-road_agrees-clause-decides c = agreed_refuse (own_place c.requires.agree_input c.number_of-at.ensures) c.road_agrees.ensures (not-true _ (not_from_false _ c.if-not-road_agrees.true))

pub returns-clause-decides : goal.returns-clause-decides
returns-clause-decides c = let read = list_read (own_fits c.requires.agree_input c.number_of-at.ensures) c.count.ensures.value in
    agreed_end (own_place c.requires.agree_input c.number_of-at.ensures) read c.loop-k.invariant c.requires.unmarked c.all_marked.ensures (omega arith)
