-- The entries that stand whole come first in byte order, and the one behind them is cut off, so one of them decides.
use native.Mathlib.Omega.{arith}
use Rattle.std.proofs.lemmas.Result.{err_from_is_err_and}
use Rattle.stored.proofs.Refusals.{refuses}
use Rattle.stored.proofs.Entries.{list_cut, list-long, list_faulty, list_passes, list_cut_entry}
use Rattle.stored.proofs.stored.test_list.Goals as goal

pub returns-then-labels-at : goal.returns-then-labels-at
returns-then-labels-at c = list_cut _ _ c.if-labels-at.true

pub returns-then-count-gt-MOST_COUNT : goal.returns-then-count-gt-MOST_COUNT
returns-then-count-gt-MOST_COUNT c = list-long _ _ c.if-labels-at.false c.count_at-count.ensures.is (omega arith)

pub returns-in_err-test_entries : goal.returns-in_err-test_entries
returns-in_err-test_entries c = let p = err_from_is_err_and c.from_residual.result c.from_residual.ensures.1 in
    rw (p.1, p.2)
    (list_faulty _ _ c.if-labels-at.false c.count_at-count.ensures.is (omega arith) c.entries_inside-whole.ensures c.in_err-test_entries.ensures (refuses _))

pub cut_entry_refusal-requires : goal.cut_entry_refusal-requires
cut_entry_refusal-requires c = omega (arith, c.entries_inside-whole.ensures.cut c.if-whole-count.true)

pub returns-then-whole-count : goal.returns-then-whole-count
returns-then-whole-count c = list_cut_entry _ _ c.if-labels-at.false c.count_at-count.ensures.is (omega arith)
    c.entries_inside-whole.ensures c.in_ok-test_entries.ensures c.if-whole-count.true c.cut_entry_refusal.ensures

pub returns : goal.returns
returns c = list_passes _ _ c.if-labels-at.false c.count_at-count.ensures.is (omega arith)
    c.entries_inside-whole.ensures c.in_ok-test_entries.ensures c.if-whole-count.false
