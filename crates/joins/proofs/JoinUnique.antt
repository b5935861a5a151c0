-- Join has one outcome: two that both meet its statement for the same inputs are equal.
-- In this order: what is handed back as numbers, and what the lent slices hold; the answer itself.
use mathlib.Core.Path.{◌≡◌, sym, ap, ◌∙◌}
use mathlib.Core.List.{List}
use Prim.Native.Nat.{ℕ}
use native.Mathlib.Omega.{arith}
use lib.ListN.{length}
use Rattle.std.specs.Prelude.{Result, Ok, Err}
use Rattle.paths.proofs.Figures.{number_lawful}
use Rattle.paths.proofs.Unique.{join_unique}
use Rattle.refusals.specs.Lent.{filled, ListRefused}
use Rattle.lists.specs.Entries.{times as times_of, energies as energies_of}
use Rattle.joins.specs.declared.JoinRefusal.{JoinRefusal}
use Rattle.joins.specs.declared.JoinRefusal.TheVariants as case
use Rattle.joins.proofs.RefusalLaws.{same_join_refusal}
use Rattle.joins.specs.Answers.{join_number_of, join_count_of, Join, refused, no_room, joined}

-- The same outcome: what is handed back, and what the lent slices hold
pub record SameOutcome (number count number' count' : ℕ) (times_after energies_after times_after' energies_after' : List ℕ) : Type 0 where
  pub same_number : number ≡ number'
  pub same_count : count ≡ count'
  pub same-times : times_after ≡ times_after'
  pub same-energies : energies_after ≡ energies_after'

module _
    {out_times out_energies : List ℕ} {number count number' count' : ℕ} {times_after energies_after times_after' energies_after' : List ℕ} where
  -- two refusals by one number are the same
  refusals_same :
      {by : ℕ} → ListRefused out_times out_energies number count times_after energies_after by →
      ListRefused out_times out_energies number' count' times_after' energies_after' by →
      SameOutcome number count number' count' times_after energies_after times_after' energies_after'
  refusals_same r r' =
      record {
        same_number = r.number_is ∙ sym r'.number_is;
        same_count = r.no_count ∙ sym r'.no_count;
        same-times = r.times_stay ∙ sym r'.times_stay;
        same-energies = r.energies_stay ∙ sym r'.energies_stay;
      }

  -- Two outcomes that meet the statement for the same inputs are equal
  pub join_outcome_unique :
      {times energies more_times more_energies : List ℕ} →
      Join times energies more_times more_energies out_times out_energies number count times_after energies_after →
      Join times energies more_times more_energies out_times out_energies number' count' times_after' energies_after' →
      SameOutcome number count number' count' times_after energies_after times_after' energies_after'
  join_outcome_unique (refused h r) (refused h' r') = refusals_same r r'
  join_outcome_unique (refused h r) (no_room p j s r') = absurd (h p)
  join_outcome_unique (refused h r) (joined p j s n' c' t' e') = absurd (h p)
  join_outcome_unique (no_room p j s r) (refused h r') = absurd (h p)
  join_outcome_unique (no_room p j s r) (no_room p' j' s' r') = refusals_same r r'
  join_outcome_unique (no_room p j s r) (joined p' j' s' n' c' t' e') =
      absurd (omega (arith, ap length (join_unique number_lawful j j')))
  join_outcome_unique (joined p j s n c t e) (refused h r') = absurd (h p)
  join_outcome_unique (joined p j s n c t e) (no_room p' j' s' r') =
      absurd (omega (arith, ap length (join_unique number_lawful j j')))
  join_outcome_unique (joined p j s n c t e) (joined p' j' s' n' c' t' e') =
      let one = join_unique number_lawful j j' in
      record {
        same_number = n ∙ sym n';
        same_count = c ∙ ap length one ∙ sym c';
        same-times = t ∙ ap (λ l. filled out_times (times_of l)) one ∙ sym t';
        same-energies = e ∙ ap (λ l. filled out_energies (energies_of l)) one ∙ sym e';
      }

-- ---- The answer itself

-- answers with the same number and count are the same case with the same value
same-join : (r r' : Result ℕ JoinRefusal) → join_number_of r ≡ join_number_of r' → join_count_of r ≡ join_count_of r' → r ≡ r'
same-join (Ok count) (Ok count') n c = ap Ok c
same-join (Ok count) (Err case.LengthsDiffer) n c = absurd (omega (arith, n))
same-join (Ok count) (Err case.IllFormed) n c = absurd (omega (arith, n))
same-join (Ok count) (Err case.NoRoom) n c = absurd (omega (arith, n))
same-join (Err case.LengthsDiffer) (Ok count') n c = absurd (omega (arith, n))
same-join (Err case.IllFormed) (Ok count') n c = absurd (omega (arith, n))
same-join (Err case.NoRoom) (Ok count') n c = absurd (omega (arith, n))
same-join (Err refusal) (Err refusal') n c = ap Err (same_join_refusal refusal refusal' n)

-- Join has one answer, and leaves one content in the lent slices: two that meet its statement for the same inputs are equal
pub join_answer_unique :
    {times energies more_times more_energies out_times out_energies times_after energies_after times_after' energies_after' : List ℕ}
    {r r' : Result ℕ JoinRefusal} →
    Join times energies more_times more_energies out_times out_energies (join_number_of r) (join_count_of r) times_after energies_after →
    Join times energies more_times more_energies out_times out_energies (join_number_of r') (join_count_of r') times_after' energies_after' →
    (r ≡ r') × (times_after ≡ times_after') × (energies_after ≡ energies_after')
join_answer_unique {r = r} {r' = r'} met met' =
    let same = join_outcome_unique met met' in
    (same-join r r' same.same_number same.same_count, same.same-times, same.same-energies)
