-- Why the joins refuse, and the numbers that tell it (SCOPE 4.2).
use Rattle.std.specs.Prelude.{ℕ, Result, Ok, Err}
use Rattle.joins.specs.declared.form.FormRefusal.{FormRefusal}
use Rattle.joins.specs.declared.form.FormRefusal.TheVariants as form_case
use Rattle.joins.specs.declared.JoinRefusal.{JoinRefusal}
use Rattle.joins.specs.declared.JoinRefusal.TheVariants as join_case
use Rattle.joins.specs.declared.SumRefusal.{SumRefusal}
use Rattle.joins.specs.declared.SumRefusal.TheVariants as sum_case

-- The number of each refusal
abbrev pub form_refusal_number : FormRefusal → ℕ
form_refusal_number form_case.LengthsDiffer = 41
form_refusal_number form_case.IllFormed = 42

abbrev pub join_refusal_number : JoinRefusal → ℕ
join_refusal_number join_case.LengthsDiffer = 41
join_refusal_number join_case.IllFormed = 42
join_refusal_number join_case.NoRoom = 24

abbrev pub sum_refusal_number : SumRefusal → ℕ
sum_refusal_number sum_case.LengthsDiffer = 41
sum_refusal_number sum_case.IllFormed = 42
sum_refusal_number sum_case.OverLimit = 23

-- The number of a test of both lists: 0 where both are formed
abbrev pub form_number_of : Result (Unit {0}) FormRefusal → ℕ
form_number_of (Ok formed) = 0
form_number_of (Err refusal) = form_refusal_number refusal

-- A join refuses lists that are not formed by the same number
abbrev pub join_refusal_of : FormRefusal → JoinRefusal
join_refusal_of form_case.LengthsDiffer = join_case.LengthsDiffer
join_refusal_of form_case.IllFormed = join_case.IllFormed

abbrev pub sum_refusal_of : FormRefusal → SumRefusal
sum_refusal_of form_case.LengthsDiffer = sum_case.LengthsDiffer
sum_refusal_of form_case.IllFormed = sum_case.IllFormed
