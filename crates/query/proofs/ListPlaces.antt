-- Places in a list that fits. In this order: what stands in the file; figures from place to place; where halving
-- ends; the last entry within a limit.
use mathlib.Core.Path.{◌≡◌, refl, sym, ap, ap₂, ◌∙◌}
use mathlib.Core.Bool.{Bool, true, false}
use mathlib.Core.List.{List}
use Rattle.std.specs.Prelude.{Result, Err}
use Prim.Native.Nat.{ℕ, zero, suc, ◌+◌, ◌-◌, ◌≤◌, ◌<◌}
use native.Mathlib.Decide.{ℕ_discrete, dec_le}
use native.Mathlib.Omega.{arith}
use lib.Dec.{ltb, leb}
use lib.ListN.{length}
use borrow.Author.Tests.{ltb-true, leb-true, leb-false}
use Rattle.paths.specs.Weights.{energy, pair, time, spent, Within, NotLater, same, sooner, by_time}
use Rattle.lists.specs.Entries.{Weight}
use Rattle.forest.specs.LabelFile.{count_at, time_at, energy_at, list_end}
use Rattle.stored.specs.Stored.{list_at}
use Rattle.stored.specs.working.Formed.{ListFits}
use Rattle.stored.proofs.Tabulate.{Stands, member-stands, tabulate-member}
use Rattle.paths.specs.declared.pair.Pair.{Pair}
use Rattle.query.specs.declared.NoAnswer.{NoAnswer}
use Rattle.query.specs.declared.NoAnswer.TheVariants.{NotConnected, OverLimit}
use Rattle.query.specs.working.AnswerValues.{number_of, time_of, energy_of}
use Rattle.query.specs.working.AnswerFrom.{EntryOf, AnswerFrom, found, over_limit, not_connected}
use Rattle.query.specs.working.Sums.{FirstFailing, FittingFrom, SlowBefore}

module _ {labels : List ℕ} {at : ℕ} (fits : ListFits labels at) where
  -- ---- What stands in the file

  -- the count does
  pub count-stands : at + 2 ≤ length labels
  unfolding list_end
  count-stands = omega (arith, fits.inside)

  -- ---- Figures from place to place

  -- energies rise and times fall from each place to any later one
  pub energies_rise : (i j : ℕ) → i ≤ j → j < count_at labels at → energy_at labels at i ≤ energy_at labels at j
  energies_rise i zero h k = let first : i ≡ 0 = omega arith in rw first (omega arith)
  energies_rise i (suc j) h k = pick (λ m. energies_rise i j m (omega arith)) (ℕ_discrete i (suc j))
    where
      pick : (i ≤ j → energy_at labels at i ≤ energy_at labels at j) → Dec (i ≡ suc j) → energy_at labels at i ≤ energy_at labels at (suc j)
      pick before (yes e) = rw e (omega arith)
      pick before (no apart) = omega (arith, before (omega arith), fits.energy_rises j k)

  pub times_fall : (i j : ℕ) → i ≤ j → j < count_at labels at → time_at labels at j ≤ time_at labels at i
  times_fall i zero h k = let first : i ≡ 0 = omega arith in rw first (omega arith)
  times_fall i (suc j) h k = pick (λ m. times_fall i j m (omega arith)) (ℕ_discrete i (suc j))
    where
      pick : (i ≤ j → time_at labels at j ≤ time_at labels at i) → Dec (i ≡ suc j) → time_at labels at (suc j) ≤ time_at labels at i
      pick before (yes e) = rw e (omega arith)
      pick before (no apart) = omega (arith, before (omega arith), fits.time_falls j k)

-- ---- Where halving ends

module _ {labels : List ℕ} {at beside : ℕ} (list-fits : ListFits labels at) {Passes : ℕ → Bool → Type 0} {count r : ℕ} (is : count ≡ count_at labels at) (end : FirstFailing Passes count r) where
  -- what fits comes first
  pub fitting_end : {limit : ℕ} → ((k : ℕ) (b : Bool) → k < count → Passes k b → b ≡ leb (beside + energy_at labels at k) limit) → FittingFrom labels at beside limit (count_at labels at) r
  fitting_end {limit} tells =
      record {
        in_range = omega (arith, end.in_range);
        over = λ k h g.
            let first : r < count = omega arith in
            omega (arith, leb-false _ _ (sym (tells r false first (end.failed first))), energies_rise list-fits r k h g);
        fits = λ h. leb-true _ _ (sym (tells (r - 1) true (omega (arith, end.in_range)) (end.passed h)));
      }

  -- what is too slow comes first
  pub slow_end : {most : ℕ} → ((k : ℕ) (b : Bool) → k < count → Passes k b → b ≡ ltb most (time_at labels at k + beside)) → SlowBefore labels at beside most r
  slow_end {most} tells =
      record {
        in_list = omega (arith, end.in_range);
        slow = λ k h.
            let last : r - 1 < count = omega (arith, end.in_range) in
            omega (arith, ltb-true _ _ (sym (tells (r - 1) true last (end.passed (omega arith)))), times_fall list-fits k (r - 1) (omega arith) (omega arith));
      }

-- ---- The last entry within a limit

-- the entry at place j
abbrev pub entry : List ℕ → ℕ → ℕ → Weight
entry labels at j = pair (time_at labels at j) (energy_at labels at j)

module _ {labels : List ℕ} {at limit count : ℕ} (list-fits : ListFits labels at) (is : count ≡ count_at labels at) where
  -- an empty list
  pub list-empty : count ≡ 0 → AnswerFrom (EntryOf (list_at labels at)) limit (Err NotConnected)
  list-empty e =
      not_connected refl (λ q h. let z = member-stands (entry labels at) (count_at labels at) h.member in omega (arith, z.below))

  module _ {r : ℕ} (some : count ≡ 0 → ⊥) (fitting : FittingFrom labels at 0 limit (count_at labels at) r) where
    -- no entry is within the limit
    pub list_over : r ≡ 0 → AnswerFrom (EntryOf (list_at labels at)) limit (Err OverLimit)
    list_over e =
        over_limit refl
        (record {
          one = entry labels at 0;
          among = record { member = tabulate-member (entry labels at) (count_at labels at) {i = 0} (omega arith) };
          none_within = λ q h w. none q w (member-stands (entry labels at) (count_at labels at) h.member);
        })
      where
        none : (q : Weight) → Within energy limit q → Stands (entry labels at) (count_at labels at) q → ⊥
        none q w z = omega (arith, w, ap (spent energy) z.is, fitting.over z.place (omega arith) z.below)

    -- the last entry within the limit is the quickest of them
    pub list-best :
        {a : Result Pair NoAnswer} → (r ≡ 0 → ⊥) → number_of a ≡ 0 → time_of a ≡ time_at labels at (r - 1) → energy_of a ≡ energy_at labels at (r - 1) →
        AnswerFrom (EntryOf (list_at labels at)) limit a
    list-best {a} within e is-time is-energy =
        found e
        (record {
          among = rw (is-time, is-energy) (record { member = tabulate-member (entry labels at) (count_at labels at) {i = r - 1} (omega (arith, fitting.in_range)) });
          within = omega (arith, is-energy, fitting.fits (omega arith));
          least = λ q h w. first q w (member-stands (entry labels at) (count_at labels at) h.member);
        })
      where
        first : (q : Weight) → Within energy limit q → Stands (entry labels at) (count_at labels at) q → NotLater energy (pair (time_of a) (energy_of a)) q
        first q w z = pick (ℕ_discrete z.place (r - 1)) (dec_le r z.place)
          where
            pick : Dec (z.place ≡ r - 1) → Dec (r ≤ z.place) → NotLater energy (pair (time_of a) (energy_of a)) q
            pick (yes here) later = same (ap₂ pair is-time is-energy ∙ ap (entry labels at) (sym here) ∙ sym z.is)
            pick (no apart) (yes later) = absurd (omega (arith, w, ap (spent energy) z.is, fitting.over z.place later z.below))
            pick (no apart) (no earlier) =
                sooner (by_time (omega (arith, is-time, ap (time energy) z.is, strictly z.place (omega arith))))
              where
                strictly : (k : ℕ) → k < r - 1 → time_at labels at (r - 1) < time_at labels at k
                strictly k h =
                    omega (
                      arith,
                      list-fits.time_falls k (omega (arith, fitting.in_range)),
                      times_fall list-fits (suc k) (r - 1) (omega arith) (omega (arith, fitting.in_range)),
                    )
