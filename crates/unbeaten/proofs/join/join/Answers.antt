-- The form decides first; after that the join is counted, the room tested, and only then the slices are filled.
use Rattle.std.proofs.Common.{sym, arith}
use Rattle.std.proofs.lemmas.Result.{err_from_is_err_and}
use Rattle.unbeaten.proofs.JoinSteps.{join-listed, join-counted, join-times, join-energies}
use Rattle.unbeaten.proofs.JoinAnswers.{both-lists, refused_form, refused-room, answered}
use Rattle.unbeaten.proofs.join.join.Goals as goal

pub returns-in_err-check_form : goal.returns-in_err-check_form
returns-in_err-check_form c =
    let p = err_from_is_err_and c.from_residual.result c.from_residual.ensures.1 in
    rw (p.1, p.2) (refused_form c.in_err-check_form.field-0.0 c.in_err-check_form.ensures)

pub count_reasoned-count-requires-clause-is_formed : goal.count_reasoned-count-requires-clause-is_formed
count_reasoned-count-requires-clause-is_formed c = both-lists (sym c.in_ok-check_form.ensures)

pub count_reasoned-count-requires-clause-some_list : goal.count_reasoned-count-requires-clause-some_list
count_reasoned-count-requires-clause-some_list c = record { list = _; right = join-listed (both-lists (sym c.in_ok-check_form.ensures)) }

pub returns-then-room-count : goal.returns-then-room-count
returns-then-room-count c = refused-room (sym c.in_ok-check_form.ensures) (join-counted (both-lists (sym c.in_ok-check_form.ensures)) c.count_reasoned-count.ensures.value) (omega arith)

pub fill_reasoned-requires-clause-is_formed : goal.fill_reasoned-requires-clause-is_formed
fill_reasoned-requires-clause-is_formed c = both-lists (sym c.in_ok-check_form.ensures)

pub returns : goal.returns
returns c =
    let both = both-lists (sym c.in_ok-check_form.ensures) in
    answered (sym c.in_ok-check_form.ensures) (join-counted both c.count_reasoned-count.ensures.value) (omega arith) (join-times both c.fill_reasoned.ensures)
    (join-energies both c.fill_reasoned.ensures)
