-- Refusals of one number are one refusal.
use Rattle.std.proofs.Common.{◌≡◌, refl, arith}
use Rattle.joins.specs.Refusals.{join_refusal_number, sum_refusal_number}
use Rattle.joins.specs.declared.JoinRefusal.{JoinRefusal}
use Rattle.joins.specs.declared.JoinRefusal.TheVariants as join_case
use Rattle.joins.specs.declared.SumRefusal.{SumRefusal}
use Rattle.joins.specs.declared.SumRefusal.TheVariants as sum_case

pub same_join_refusal : (r r' : JoinRefusal) → join_refusal_number r ≡ join_refusal_number r' → r ≡ r'
same_join_refusal join_case.LengthsDiffer join_case.LengthsDiffer n = refl
same_join_refusal join_case.LengthsDiffer join_case.IllFormed n = absurd (omega (arith, n))
same_join_refusal join_case.LengthsDiffer join_case.NoRoom n = absurd (omega (arith, n))
same_join_refusal join_case.IllFormed join_case.LengthsDiffer n = absurd (omega (arith, n))
same_join_refusal join_case.IllFormed join_case.IllFormed n = refl
same_join_refusal join_case.IllFormed join_case.NoRoom n = absurd (omega (arith, n))
same_join_refusal join_case.NoRoom join_case.LengthsDiffer n = absurd (omega (arith, n))
same_join_refusal join_case.NoRoom join_case.IllFormed n = absurd (omega (arith, n))
same_join_refusal join_case.NoRoom join_case.NoRoom n = refl

pub same_sum_refusal : (r r' : SumRefusal) → sum_refusal_number r ≡ sum_refusal_number r' → r ≡ r'
same_sum_refusal sum_case.LengthsDiffer sum_case.LengthsDiffer n = refl
same_sum_refusal sum_case.LengthsDiffer sum_case.IllFormed n = absurd (omega (arith, n))
same_sum_refusal sum_case.LengthsDiffer sum_case.OverLimit n = absurd (omega (arith, n))
same_sum_refusal sum_case.IllFormed sum_case.LengthsDiffer n = absurd (omega (arith, n))
same_sum_refusal sum_case.IllFormed sum_case.IllFormed n = refl
same_sum_refusal sum_case.IllFormed sum_case.OverLimit n = absurd (omega (arith, n))
same_sum_refusal sum_case.OverLimit sum_case.LengthsDiffer n = absurd (omega (arith, n))
same_sum_refusal sum_case.OverLimit sum_case.IllFormed n = absurd (omega (arith, n))
same_sum_refusal sum_case.OverLimit sum_case.OverLimit n = refl
