-- What the two joins answer, for all inputs (SCOPE 5.5, 5.6).
use Rattle.std.specs.Prelude.{◌≡◌, List, ℕ, Result, Ok, Err, ◌≤◌, ◌<◌, min, length}
use Rattle.paths.specs.Weights.{energy, pair}
use Rattle.paths.specs.TradeOff.{IsJoin}
use Rattle.paths.specs.Answer.{BestSum, NoSum}
use Rattle.paths.specs.declared.pair.Pair.{Pair}
use Rattle.refusals.specs.Lent.{filled, ListRefused}
use Rattle.lists.specs.Entries.{Weight, entries, times as times_of, energies as energies_of}
use Rattle.joins.specs.Form.{join_number}
use Rattle.joins.specs.Refusals.{join_refusal_number, sum_refusal_number}
use Rattle.joins.specs.declared.JoinRefusal.{JoinRefusal}
use Rattle.joins.specs.declared.SumRefusal.{SumRefusal}

-- The number and the count of a join's answer, zeros beside a refusal (SCOPE 4.1)
abbrev pub join_number_of : Result ℕ JoinRefusal → ℕ
join_number_of (Ok count) = 0
join_number_of (Err refusal) = join_refusal_number refusal

abbrev pub join_count_of : Result ℕ JoinRefusal → ℕ
join_count_of (Ok count) = count
join_count_of (Err refusal) = 0

-- The number, the time and the energy of a limited join's answer, zeros beside a refusal (SCOPE 4.1)
abbrev pub sum_number_of : Result Pair SumRefusal → ℕ
sum_number_of (Ok sum) = 0
sum_number_of (Err refusal) = sum_refusal_number refusal

abbrev pub sum_time_of : Result Pair SumRefusal → ℕ
sum_time_of (Ok sum) = sum.time.0
sum_time_of (Err refusal) = 0

abbrev pub sum_energy_of : Result Pair SumRefusal → ℕ
sum_energy_of (Ok sum) = sum.energy.0
sum_energy_of (Err refusal) = 0

-- A call that gives a sum, refused by a number: zeros beside it (SCOPE 4.1)
pub record SumRefused (number sum_time sum_energy by : ℕ) : Type 0 where
  pub number_is : number ≡ by
  pub zero_time : sum_time ≡ 0
  pub zero_energy : sum_energy ≡ 0

module _ (times energies more_times more_energies : List ℕ) (limit number sum_time sum_energy : ℕ) where
  -- Limited join (SCOPE 5.6)
  pub data LimitedJoin : Type 0 where
    refused :
        (join_number times energies more_times more_energies ≡ 0 → ⊥) →
        SumRefused number sum_time sum_energy (join_number times energies more_times more_energies) →
        LimitedJoin
    over_limit :
        join_number times energies more_times more_energies ≡ 0 →
        NoSum energy (entries times energies) (entries more_times more_energies) limit →
        SumRefused number sum_time sum_energy 23 →
        LimitedJoin
    found :
        join_number times energies more_times more_energies ≡ 0 →
        BestSum energy (entries times energies) (entries more_times more_energies) limit (pair sum_time sum_energy) →
        number ≡ 0 →
        LimitedJoin

module _
    (times energies more_times more_energies out_times out_energies : List ℕ) (number count : ℕ) (times_after energies_after : List ℕ) where
  -- Join (SCOPE 5.5): the shorter of the two slices is the room
  pub data Join : Type 0 where
    refused :
        (join_number times energies more_times more_energies ≡ 0 → ⊥) →
        ListRefused out_times out_energies number count times_after energies_after (join_number times energies more_times more_energies) →
        Join
    no_room :
        {joined : List Weight} →
        join_number times energies more_times more_energies ≡ 0 →
        IsJoin energy (entries times energies) (entries more_times more_energies) joined →
        min (length out_times) (length out_energies) < length joined →
        ListRefused out_times out_energies number count times_after energies_after 24 →
        Join
    joined :
        {joined : List Weight} →
        join_number times energies more_times more_energies ≡ 0 →
        IsJoin energy (entries times energies) (entries more_times more_energies) joined →
        length joined ≤ min (length out_times) (length out_energies) →
        number ≡ 0 →
        count ≡ length joined →
        times_after ≡ filled out_times (times_of joined) →
        energies_after ≡ filled out_energies (energies_of joined) →
        Join
