-- Limited join has one answer: two that both meet its statement for the same inputs are equal.
-- In this order: number, time and energy; the answer itself.
use mathlib.Core.Path.{◌≡◌, sym, ap, ◌∙◌}
use mathlib.Core.List.{List}
use Prim.Native.Nat.{ℕ}
use native.Mathlib.Omega.{arith}
use Rattle.paths.specs.Weights.{energy, time, spent}
use Rattle.std.specs.Prelude.{Result, Ok, Err}
use Rattle.paths.specs.declared.pair.Pair.{Pair}
use Rattle.paths.proofs.Figures.{number_lawful}
use Rattle.paths.proofs.Unique.{best_sum_unique}
use Rattle.joins.specs.declared.SumRefusal.{SumRefusal}
use Rattle.joins.specs.declared.SumRefusal.TheVariants as case
use Rattle.joins.proofs.RefusalLaws.{same_sum_refusal}
use Rattle.joins.specs.Answers.{sum_number_of, sum_time_of, sum_energy_of, SumRefused, LimitedJoin, refused, over_limit, found}

-- The same answer
pub record SameAnswer (number time energy number' time' energy' : ℕ) : Type 0 where
  pub same_number : number ≡ number'
  pub same-time : time ≡ time'
  pub same-energy : energy ≡ energy'

-- two refusals by one number are the same
refusals_same :
    {number time energy number' time' energy' by : ℕ} → SumRefused number time energy by → SumRefused number' time' energy' by →
    SameAnswer number time energy number' time' energy'
refusals_same r r' =
    record {
      same_number = r.number_is ∙ sym r'.number_is;
      same-time = r.zero_time ∙ sym r'.zero_time;
      same-energy = r.zero_energy ∙ sym r'.zero_energy;
    }

-- Two answers that meet the statement for the same inputs are equal
pub limited_join_unique :
    {times energies more_times more_energies : List ℕ} {limit number sum_time sum_energy number' sum_time' sum_energy' : ℕ} →
    LimitedJoin times energies more_times more_energies limit number sum_time sum_energy →
    LimitedJoin times energies more_times more_energies limit number' sum_time' sum_energy' →
    SameAnswer number sum_time sum_energy number' sum_time' sum_energy'
limited_join_unique (refused h r) (refused h' r') = refusals_same r r'
limited_join_unique (refused h r) (over_limit p s r') = absurd (h p)
limited_join_unique (refused h r) (found p b n') = absurd (h p)
limited_join_unique (over_limit p s r) (refused h r') = absurd (h p)
limited_join_unique (over_limit p s r) (over_limit p' s' r') = refusals_same r r'
limited_join_unique (over_limit p s r) (found p' b n') = absurd (s _ b.sum b.within)
limited_join_unique (found p b n) (refused h r') = absurd (h p)
limited_join_unique (found p b n) (over_limit p' s r') = absurd (s _ b.sum b.within)
limited_join_unique (found p b n) (found p' b' n') =
    let z = best_sum_unique number_lawful b b' in
    record { same_number = n ∙ sym n'; same-time = ap (time energy) z; same-energy = ap (spent energy) z }

-- ---- The answer itself

-- answers with the same number, time and energy are the same case with the same values
same_sum :
    (r r' : Result Pair SumRefusal) → SameAnswer (sum_number_of r) (sum_time_of r) (sum_energy_of r) (sum_number_of r') (sum_time_of r') (sum_energy_of r') → r ≡ r'
same_sum (Ok sum) (Ok sum') z =
    λ i. Ok (record { time = record { 0 = z.same-time i }; energy = record { 0 = z.same-energy i } })
same_sum (Ok sum) (Err case.LengthsDiffer) z = absurd (omega (arith, z.same_number))
same_sum (Ok sum) (Err case.IllFormed) z = absurd (omega (arith, z.same_number))
same_sum (Ok sum) (Err case.OverLimit) z = absurd (omega (arith, z.same_number))
same_sum (Err case.LengthsDiffer) (Ok sum') z = absurd (omega (arith, z.same_number))
same_sum (Err case.IllFormed) (Ok sum') z = absurd (omega (arith, z.same_number))
same_sum (Err case.OverLimit) (Ok sum') z = absurd (omega (arith, z.same_number))
same_sum (Err refusal) (Err refusal') z = ap Err (same_sum_refusal refusal refusal' z.same_number)

-- Limited join has one answer: two values that meet its statement for the same inputs are equal
pub sum_answer_unique :
    {times energies more_times more_energies : List ℕ} {limit : ℕ} {r r' : Result Pair SumRefusal} →
    LimitedJoin times energies more_times more_energies limit (sum_number_of r) (sum_time_of r) (sum_energy_of r) →
    LimitedJoin times energies more_times more_energies limit (sum_number_of r') (sum_time_of r') (sum_energy_of r') →
    r ≡ r'
sum_answer_unique {r = r} {r' = r'} met met' = same_sum r r' (limited_join_unique met met')
