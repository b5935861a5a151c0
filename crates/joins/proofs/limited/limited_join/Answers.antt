-- The form decides first; then the best places give the best sum, and no place means no sum.
use Rattle.std.proofs.Common.{sym}
use Rattle.std.proofs.lemmas.Result.{err_from_is_err_and}
use Rattle.joins.proofs.SumAnswers.{passed-lists, answer_refused, answer_over, answer_found}
use Rattle.joins.proofs.limited.limited_join.Goals as goal

pub returns-in_err-check_form : goal.returns-in_err-check_form
returns-in_err-check_form c =
    let p = err_from_is_err_and c.from_residual.result c.from_residual.ensures.1 in
    rw (p.1, p.2) (answer_refused _ _ _ _ c.in_err-check_form.field-0.0 c.in_err-check_form.ensures)

pub best_sum-requires : goal.best_sum-requires
best_sum-requires c = let lists = passed-lists _ _ _ _ (sym c.in_ok-check_form.ensures) in record { list = lists.first; list_2 = lists.second }

pub returns-in_default : goal.returns-in_default
returns-in_default c = answer_over _ _ _ _ (sym c.in_ok-check_form.ensures) c.in_default.ensures

pub sum_at-sum-requires : goal.sum_at-sum-requires
sum_at-sum-requires c =
    let lists = passed-lists _ _ _ _ (sym c.in_ok-check_form.ensures) in
    record { list = lists.first; list_2 = lists.second; i_in_bounds = c.in-Some.ensures.first_place; j_in_bounds = c.in-Some.ensures.second_place }

pub returns : goal.returns
returns c = answer_found _ _ _ _ (sym c.in_ok-check_form.ensures) c.in-Some.ensures c.sum_at-sum.ensures.energy_value
