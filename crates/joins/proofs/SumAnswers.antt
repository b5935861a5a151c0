-- What Limited join answers is what it is to answer: one law for each of its answers.
use mathlib.Core.Path.{◌≡◌, refl}
use mathlib.Core.List.{List}
use Prim.Native.Nat.{ℕ}
use native.Mathlib.Omega.{arith}
use Rattle.std.specs.Prelude.{None}
use Rattle.paths.specs.Weights.{energy, pair}
use Rattle.paths.specs.Answer.{BestSum}
use Rattle.lists.specs.Entries.{entries}
use Rattle.joins.specs.Form.{join_number}
use Rattle.lists.specs.working.Lists.{above_all}
use Rattle.lists.specs.working.Sums.{sum_at, BestPlaces, BestFound}
use Rattle.joins.specs.Refusals.{form_refusal_number, sum_refusal_number, sum_refusal_of}
use Rattle.joins.specs.declared.form.FormRefusal.{FormRefusal}
use Rattle.joins.specs.declared.form.FormRefusal.TheVariants as form_case
use Rattle.joins.specs.Answers.{LimitedJoin, refused, over_limit, found}
use Rattle.lists.proofs.Entries.{is_list_more, best_places_best_sum, nowhere_no_sum}
use Rattle.joins.proofs.FormLaws.{BothLists, join_number-passed}

module _ (times energies more_times more_energies : List ℕ) where
  -- lists that are not formed are refused by the same number
  pub answer_refused :
      {limit : ℕ} (form : FormRefusal) → form_refusal_number form ≡ join_number times energies more_times more_energies →
      LimitedJoin times energies more_times more_energies limit (sum_refusal_number (sum_refusal_of form)) 0 0
  answer_refused form_case.LengthsDiffer e = refused (λ z. omega arith) (record { number_is = e; zero_time = refl; zero_energy = refl })
  answer_refused form_case.IllFormed e = refused (λ z. omega arith) (record { number_is = e; zero_time = refl; zero_energy = refl })

  module _ (passed : join_number times energies more_times more_energies ≡ 0) where
    -- the two lists, with room for sums of 32 bits
    pub passed-lists : BothLists above_all times energies more_times more_energies
    passed-lists =
        let z = join_number-passed times energies more_times more_energies passed in
        record {
          first = is_list_more z.first (omega arith);
          second = is_list_more z.second (omega arith);
          first_short = z.first_short;
          second_short = z.second_short;
        }

    -- no sum within the limit
    pub answer_over : {limit : ℕ} → BestFound times energies more_times more_energies limit None → LimitedJoin times energies more_times more_energies limit 23 0 0
    answer_over h = over_limit passed (nowhere_no_sum times energies more_times more_energies h) (record { number_is = refl; zero_time = refl; zero_energy = refl })

    -- the best sum
    pub answer_found :
        {limit i j time spends : ℕ} → BestPlaces times energies more_times more_energies limit i j → pair time spends ≡ sum_at times energies more_times more_energies i j → LimitedJoin times energies more_times more_energies limit 0 time spends
    answer_found {limit} {i} {j} {time} {spends} best e = found passed (rw e best_sum) refl
      where
        best_sum : BestSum energy (entries times energies) (entries more_times more_energies) limit (sum_at times energies more_times more_energies i j)
        best_sum = best_places_best_sum times energies more_times more_energies passed-lists.first.one_length passed-lists.second.one_length best
