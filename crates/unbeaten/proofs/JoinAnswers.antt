-- What Join answers: each way out of the call meets the statement. In this order: refusals; the answer.
use mathlib.Core.Path.{◌≡◌, refl}
use Rattle.std.proofs.Common.{min}
use mathlib.Core.List.{List}
use Prim.Native.Nat.{ℕ, ◌≤◌, ◌<◌}
use native.Mathlib.Omega.{arith}
use lib.ListN.{length}
use Rattle.paths.specs.Weights.{energy}
use Rattle.paths.specs.TradeOff.{IsJoin}
use Rattle.refusals.specs.Lent.{filled, ListRefused}
use Rattle.lists.specs.Entries.{Weight, entries, times as times_of, energies as energies_of}
use Rattle.joins.specs.Form.{join_number}
use Rattle.joins.specs.Answers.{Join}
use Rattle.joins.specs.Answers as call
use Rattle.joins.specs.Refusals.{form_refusal_number, join_refusal_number, join_refusal_of}
use Rattle.joins.specs.declared.form.FormRefusal.{FormRefusal}
use Rattle.joins.specs.declared.form.FormRefusal.TheVariants as form_case
use Rattle.joins.proofs.FormLaws.{join_number-passed}
use Rattle.unbeaten.specs.working.Noting.{TwoLists}
use Rattle.unbeaten.proofs.JoinSteps.{join_of, join_of_is}

-- ---- Refusals

-- refused by a number, with no count, and the slices as they were
unchanged : {out_times out_energies : List ℕ} {n by : ℕ} → n ≡ by → ListRefused out_times out_energies n 0 out_times out_energies by
unchanged e = record { number_is = e; no_count = refl; times_stay = refl; energies_stay = refl }

-- what passes is two lists
pub both-lists : {times energies more_times more_energies : List ℕ} → join_number times energies more_times more_energies ≡ 0 → TwoLists times energies more_times more_energies
both-lists passed = let z = join_number-passed _ _ _ _ passed in record { first = z.first; second = z.second }

module _ {times energies more_times more_energies out_times out_energies : List ℕ} where
  -- lists that are not formed are refused by the same number, and the slices are left
  pub refused_form :
      (form : FormRefusal) → form_refusal_number form ≡ join_number times energies more_times more_energies →
      Join times energies more_times more_energies out_times out_energies (join_refusal_number (join_refusal_of form)) 0 out_times out_energies
  refused_form form_case.LengthsDiffer e = call.refused (λ z. omega arith) (unchanged e)
  refused_form form_case.IllFormed e = call.refused (λ z. omega arith) (unchanged e)

  module _
      {count : ℕ} (passed : join_number times energies more_times more_energies ≡ 0)
      (counted : (joined : List Weight) → IsJoin energy (entries times energies) (entries more_times more_energies) joined → count ≡ length joined) where
    -- the shorter of the two slices is shorter than the join
    pub refused-room : min (length out_times) (length out_energies) < count → Join times energies more_times more_energies out_times out_energies 24 0 out_times out_energies
    refused-room short =
        let long = counted (join_of times energies more_times more_energies) (join_of_is times energies more_times more_energies) in
        call.no_room passed (join_of_is times energies more_times more_energies) (omega arith) (unchanged refl)

    -- ---- The answer

    -- both slices have room and hold the join
    pub answered :
        {new_times new_energies : List ℕ} → count ≤ min (length out_times) (length out_energies) →
        ((joined : List Weight) → IsJoin energy (entries times energies) (entries more_times more_energies) joined → new_times ≡ filled out_times (times_of joined)) →
        ((joined : List Weight) → IsJoin energy (entries times energies) (entries more_times more_energies) joined → new_energies ≡ filled out_energies (energies_of joined)) →
        Join times energies more_times more_energies out_times out_energies 0 count new_times new_energies
    answered room filled-times filled-energies =
        let long = counted (join_of times energies more_times more_energies) (join_of_is times energies more_times more_energies) in
        call.joined passed (join_of_is times energies more_times more_energies) (omega arith) refl long
        (filled-times _ (join_of_is times energies more_times more_energies))
        (filled-energies _ (join_of_is times energies more_times more_energies))
