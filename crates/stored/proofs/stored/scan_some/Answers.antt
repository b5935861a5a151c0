-- A list that passes is one list more, and one that is refused decides.
use borrow.Author.Rules.{rules}
use Rattle.std.proofs.lemmas.Result.{err_from_is_err_and}
use Rattle.stored.proofs.Refusals.{refuses}
use Rattle.stored.proofs.Scan.{passed_none, passed-fault, list-stands, passed-more, passed_all}
use Rattle.stored.proofs.stored.scan_some.Goals as goal

pub loop-init : goal.loop-init
loop-init c = passed_none _ _ _ _ c.requires.at_in_bounds.0

pub returns-in_err-test_list : goal.returns-in_err-test_list
returns-in_err-test_list c = let p = err_from_is_err_and c.from_residual.result c.from_residual.ensures.1 in
    rw (p.1, p.2) (passed-fault _ _ _ _ c.loop.invariant c.loop-test.true c.in_err-test_list.ensures (refuses _))

pub count-requires : goal.count-requires
count-requires c = list-stands _ _ c.in_ok-test_list.ensures

pub next-place-requires : goal.next-place-requires
next-place-requires c = record { at_in_bounds = list-stands _ _ c.in_ok-test_list.ensures; labels_len_bound = c.requires.at_in_bounds.1 }

pub loop-preserved : goal.loop-preserved
loop-preserved c = passed-more _ _ _ _ c.loop.invariant c.loop-test.true c.in_ok-test_list.ensures c.count.ensures.is c.next-place.ensures

pub returns : goal.returns
returns c = search (passed_all, rules)
