-- A fault of the lists decides; behind the last list the file ends, and its header has counted all entries.
use Rattle.std.proofs.lemmas.Result.{err_from_is_err_and}
use Rattle.files.proofs.FormTests.{lists_fault, lists_bytes_left, lists_entries, lists_pass}
use Rattle.files.proofs.form.test_lists.Goals as goal

pub returns-in_err-scanned : goal.returns-in_err-scanned
returns-in_err-scanned c = let p = err_from_is_err_and c.from_residual.result c.from_residual.ensures.1 in
    rw (p.1, p.2) (lists_fault c.in_err-scanned.ensures)

pub returns-then-scanned-labels : goal.returns-then-scanned-labels
returns-then-scanned-labels c = lists_bytes_left c.in_ok-scanned.ensures c.if-scanned-labels.true

pub returns-then-scanned-entries_of : goal.returns-then-scanned-entries_of
returns-then-scanned-entries_of c = lists_entries c.in_ok-scanned.ensures c.if-scanned-labels.false c.entries_of.ensures c.if-scanned-entries_of.true

pub returns : goal.returns
returns c = lists_pass c.in_ok-scanned.ensures c.if-scanned-labels.false c.entries_of.ensures c.if-scanned-entries_of.false
