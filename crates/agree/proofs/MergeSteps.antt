-- All sums of a road against a stored list: each turn covers one more, and an own entry no slower than the last sum covers all that follow.
-- In this order: marks; all sums; the one sum of a road that ends at the ancestor.
use mathlib.Core.Path.{◌≡◌, refl, sym, ap, ◌∙◌}
use mathlib.Core.Logic.{◌⊎◌, inl, inr, ⊎_elim}
use mathlib.Core.Bool.{true, false, true≢false}
use mathlib.Core.List.Memᴰ
use mathlib.Core.List.{List, [], ◌∷◌, Memᴰ}
use Prim.Native.Nat.{ℕ, ◌+◌, ◌-◌, ◌≤◌, ◌<◌}
use native.Mathlib.Decide.{dec_le, ℕ_discrete}
use native.Mathlib.Omega.{arith}
use borrow.Author.Count.{below_more}
use Rattle.std.specs.Prelude.{Option, Some, None, is_some}
use lib.ListN.{length}
use Rattle.paths.specs.Weights.{weights, energy, pair, time, spent, Covered}
use Rattle.lists.specs.Entries.{Weight}
use Rattle.forest.specs.LabelFile.{count_at, time_at, energy_at}
use Rattle.stored.specs.Stored.{list_at}
use Rattle.stored.specs.working.Formed.{ListFits}
use Rattle.stored.proofs.Tabulate.{Stands, member-stands, tabulate-member}
use Rattle.agree.specs.working.Covering.{Marking, entry_of, CoversAt, EqualsAt, Behind, CoveredBy, SumCompared, MetBy, Covering}
use Rattle.agree.proofs.CoverSteps.{ListRead, energy_rises_far, time_falls_far, covering_alone, covers-member, Somewhere, member-covers, covered_eq, equals_eq}

-- ---- Marks

-- nothing is marked
pub marking-none : {P : ℕ → Type 0} {marks : List ℕ} → length marks ≡ 4096 → ((i : ℕ) → P i → ⊥) → Marking P marks marks
marking-none places nothing = record { places = places; marked = λ i p. absurd (nothing i p); only = λ i. inl refl }

module _ (P Q : ℕ → Type 0) {marks between : List ℕ} (first : Marking P marks between) where
  -- the same places, named otherwise
  pub marking_as : ((i : ℕ) → Q i → P i) → ((i : ℕ) → P i → Q i) → Marking Q marks between
  marking_as from to =
      record { places = first.places; marked = λ i q. first.marked i (from i q); only = λ i. ⊎_elim inl (λ p. inr (to i p)) (first.only i) }

  -- what was marked by one test, or is marked by the next
  pub marking-both : {later : List ℕ} → Marking Q between later → Marking (λ i. P i ⊎ Q i) marks later
  marking-both second =
      record {
        places = second.places;
        marked =
            λ i.
            ⊎_elim
            (λ p. ⊎_elim (λ same. same ∙ first.marked i p) (λ q. second.marked i q) (second.only i))
            (λ q. second.marked i q);
        only = λ i. ⊎_elim (λ same. ⊎_elim (λ old. inl (same ∙ old)) (λ p. inr (inl p)) (first.only i)) (λ q. inr (inr q)) (second.only i);
      }

-- ---- All sums

-- The sum of the arc and entry j of the list at a byte
abbrev pub sum_of : List ℕ → ℕ → Weight → ℕ → Weight
sum_of labels at arc j = (weights energy).◌⊕◌ arc (entry_of labels at j)

-- Own entry i equals one of the first j sums
pub record MetBefore (labels : List ℕ) (at own : ℕ) (arc : Weight) (j i : ℕ) : Type 0 where
  pub place : ℕ
  pub below : place < j
  pub equals : EqualsAt labels own (sum_of labels at arc place) i

-- The first j sums are covered and what equals them is marked; the own entry before `next` has energy at most every later sum's
pub record Merged (labels : List ℕ) (at own : ℕ) (arc : Weight) (marks now : List ℕ) (j next : ℕ) : Type 0 where
  pub few : j ≤ count_at labels at
  pub behind : (b : ℕ) → j ≤ b → b < count_at labels at → Behind labels own next (spent energy (sum_of labels at arc b))
  pub covered : (b : ℕ) → b < j → Covered energy (list_at labels own) (sum_of labels at arc b)
  pub marking : Marking (MetBefore labels at own arc j) marks now

-- no sum yet
pub merged_start : {labels : List ℕ} {at own : ℕ} {arc : Weight} {marks : List ℕ} → length marks ≡ 4096 → Merged labels at own arc marks marks 0 0
merged_start places =
    record {
      few = omega arith;
      behind = λ b from below. record { in_list = omega arith; cheap = λ h. absurd (omega arith) };
      covered = λ b h. absurd (omega arith);
      marking = marking-none places (λ i met. omega (arith, met.below));
    }

-- A sum that is covered and equals no entry
record Passes (labels : List ℕ) (own : ℕ) (sum : Weight) : Type 0 where
  covered : Covered energy (list_at labels own) sum
  unequal : (i : ℕ) → EqualsAt labels own sum i → ⊥

module _ {labels : List ℕ} {at own : ℕ} {arc : Weight} {marks now : List ℕ} where
  -- all sums are covered, and all that equals one is marked
  merged_all :
      {j next : ℕ} → Merged labels at own arc marks now j next → ((b : ℕ) → j ≤ b → b < count_at labels at → Passes labels own (sum_of labels at arc b)) →
      Covering labels own arc (list_at labels at) marks now true
  merged_all {j} so rest =
      record {
        decides = record { holds = λ f q m. every q (member-stands (entry_of labels at) (count_at labels at) m); fails = λ f. absurd (true≢false f) };
        marking = λ f. marking_as (MetBefore labels at own arc j) (MetBy labels own arc (list_at labels at)) so.marking (λ i met. found_before i met (member-stands (entry_of labels at) (count_at labels at) met.member)) found_by;
      }
    where
      -- each sum is one of the first j, or a later one
      every-place : (b : ℕ) → b < count_at labels at → Covered energy (list_at labels own) (sum_of labels at arc b)
      every-place b h = pick (dec_le j b)
        where
          pick : Dec (j ≤ b) → Covered energy (list_at labels own) (sum_of labels at arc b)
          pick (yes from) = (rest b from h).covered
          pick (no before) = so.covered b (omega arith)

      every : (q : Weight) → Stands (entry_of labels at) (count_at labels at) q → Covered energy (list_at labels own) ((weights energy).◌⊕◌ arc q)
      every q stands = rw stands.is (every-place stands.place stands.below)

      found_before : (i : ℕ) → (met : MetBy labels own arc (list_at labels at) i) → Stands (entry_of labels at) (count_at labels at) met.rest → MetBefore labels at own arc j i
      found_before i met stands = pick (dec_le j stands.place)
        where
          equal : EqualsAt labels own (sum_of labels at arc stands.place) i
          equal = record { in_list = met.in_list; is = sym met.adds ∙ ap ((weights energy).◌⊕◌ arc) stands.is }

          pick : Dec (j ≤ stands.place) → MetBefore labels at own arc j i
          pick (yes from) = absurd ((rest stands.place from stands.below).unequal i equal)
          pick (no before) = record { place = stands.place; below = omega arith; equals = equal }

      found_by : (i : ℕ) → MetBefore labels at own arc j i → MetBy labels own arc (list_at labels at) i
      found_by i met =
          record {
            in_list = met.equals.in_list;
            rest = entry_of labels at met.place;
            member = tabulate-member (entry_of labels at) (count_at labels at) (omega (arith, met.below, so.few));
            adds = sym met.equals.is;
          }

  -- no sum is left
  pub merged_end :
      {left j next : ℕ} → ListRead labels at left → Merged labels at own arc marks now j next → left ≤ j → Covering labels own arc (list_at labels at) marks now true
  merged_end rest so h = merged_all so (λ b from below. absurd (omega (arith, rest.counted)))

module _ {labels : List ℕ} {at own : ℕ} {arc : Weight} {marks now : List ℕ} where
  module _
      {left j next t e : ℕ}
      (fits : ListFits labels own)
      (rest : ListRead labels at left)
      (so : Merged labels at own arc marks now j next)
      (inside : j < left)
      (adds-time : t ≡ time energy arc + time_at labels at j)
      (adds-energy : e ≡ spent energy arc + energy_at labels at j)
    where
      -- the turn's pair is the sum at j
      is_sum : pair t e ≡ sum_of labels at arc j
      is_sum = λ i. pair (adds-time i) (adds-energy i)

      in_rest : j < count_at labels at
      in_rest = omega (arith, rest.counted)

      -- a sum that is not covered refuses
      pub merged_refuse : {later : List ℕ} → ((i : ℕ) → CoversAt labels own (pair t e) i → ⊥) → Covering labels own arc (list_at labels at) marks later false
      merged_refuse none =
          record {
            decides =
                record {
                  holds = λ f. absurd (true≢false (sym f));
                  fails = λ f all. uncovered (member-covers fits (covered_eq (sym is_sum) (all (entry_of labels at j) (tabulate-member (entry_of labels at) (count_at labels at) in_rest))));
                };
            marking = λ f. absurd (true≢false (sym f));
          }
        where
          uncovered : Somewhere fits (pair t e) → ⊥
          uncovered at_place = none at_place.place at_place.covers

      module _ {later : List ℕ} {i : ℕ} (turn : CoveredBy labels own (pair t e) now later i) where
        -- the entry that covers this sum has less energy than each later sum
        cheaper : (b : ℕ) → j < b → b < count_at labels at → energy_at labels own i < spent energy (sum_of labels at arc b)
        cheaper b from below = omega (arith, turn.covers.no_larger, energy_rises_far rest.fits j b from below)

        -- one more sum is covered
        pub merged_more : Merged labels at own arc marks later (j + 1) (i + 1)
        merged_more =
            record {
              few = omega (arith, in_rest);
              behind = λ b from below. record { in_list = omega (arith, turn.covers.in_list); cheap = λ h. rw last (omega (arith, cheaper b (omega arith) below)) };
              covered = below_more _ j so.covered (covered_eq is_sum (covers-member fits turn.covers));
              marking =
                  marking_as (λ k. MetBefore labels at own arc j k ⊎ EqualsAt labels own (pair t e) k) (MetBefore labels at own arc (j + 1))
                  (marking-both (MetBefore labels at own arc j) (EqualsAt labels own (pair t e)) so.marking turn.marking)
                  (λ k met. split k met (ℕ_discrete met.place j))
                  (λ k. ⊎_elim (λ met. record { place = met.place; below = omega (arith, met.below); equals = met.equals }) (λ equal. record { place = j; below = omega arith; equals = equals_eq is_sum equal }));
            }
          where
            last : i + 1 - 1 ≡ i
            last = omega arith

            split : (k : ℕ) → (met : MetBefore labels at own arc (j + 1) k) → Dec (met.place ≡ j) → MetBefore labels at own arc j k ⊎ EqualsAt labels own (pair t e) k
            split k met (yes same) = inr (equals_eq (ap (sum_of labels at arc) same ∙ sym is_sum) met.equals)
            split k met (no apart) = inl (record { place = met.place; below = omega (arith, met.below); equals = met.equals })

        -- an entry no slower than the last sum covers all that follow, and equals none of them
        pub merged_early :
            {last own-time : ℕ} → last ≡ time energy arc + time_at labels at (left - 1) → own-time ≡ time_at labels own i → own-time ≤ last →
            Covering labels own arc (list_at labels at) marks later true
        merged_early {last} {own-time} last-is own_is quick = merged_all merged_more passes
          where
            -- no sum is sooner than the last
            sooner : (b : ℕ) → b < count_at labels at → time_at labels at (left - 1) ≤ time_at labels at b
            sooner b below = pick (ℕ_discrete b (left - 1))
              where
                pick : Dec (b ≡ left - 1) → time_at labels at (left - 1) ≤ time_at labels at b
                pick (yes same) = omega (arith, ap (time_at labels at) same)
                pick (no apart) = omega (arith, time_falls_far rest.fits b (left - 1) (omega (arith, rest.counted)) (omega (arith, rest.counted)))

            covers : (b : ℕ) → j + 1 ≤ b → b < count_at labels at → CoversAt labels own (sum_of labels at arc b) i
            covers b from below =
                record {
                  in_list = turn.covers.in_list;
                  no_larger = (omega (arith, cheaper b (omega arith) below), omega (arith, sooner b below));
                }

            passes : (b : ℕ) → j + 1 ≤ b → b < count_at labels at → Passes labels own (sum_of labels at arc b)
            passes b from below =
                record { covered = covers-member fits (covers b from below); unequal = unequal }
              where
                -- only entry i could equal the sum, and it has less energy
                unequal : (k : ℕ) → EqualsAt labels own (sum_of labels at arc b) k → ⊥
                unequal k equal =
                    omega (arith, cheaper b (omega arith) below, ap (spent energy) equal.is, ap (energy_at labels own) (covering_alone fits (covers b from below) equal))

-- ---- The one sum of a road that ends at the ancestor

-- nothing is added
alone : (t e : ℕ) → (weights energy).◌⊕◌ (pair t e) (pair 0 0) ≡ pair t e
alone t e = λ i. pair (zero_time i) (zero_energy i)
  where
    zero_time : t + 0 ≡ t
    zero_time = omega arith

    zero_energy : e + 0 ≡ e
    zero_energy = omega arith

module _ {labels : List ℕ} {own t e : ℕ} (fits : ListFits labels own) where
  one_sum : {q : Weight} → Memᴰ q (pair 0 0 ∷ []) → (weights energy).◌⊕◌ (pair t e) q ≡ pair t e
  one_sum m = ap ((weights energy).◌⊕◌ (pair t e)) (Memᴰ.eq_of_singleton m) ∙ alone t e

  -- the entry that was found, or the lack of one, decides
  pub road-alone : {marks later : List ℕ} (r : Option ℕ) → SumCompared labels own (pair t e) marks later r → Covering labels own (pair t e) (pair 0 0 ∷ []) marks later (is_some r)
  road-alone (Some i) turn =
      record {
        decides = record { holds = λ f q m. covered_eq (sym (one_sum m)) (covers-member fits turn.covers); fails = λ f. absurd (true≢false f) };
        marking =
            λ f.
            marking_as (EqualsAt labels own (pair t e)) (MetBy labels own (pair t e) (pair 0 0 ∷ [])) turn.marking
            (λ k met. record { in_list = met.in_list; is = sym met.adds ∙ one_sum met.member })
            (λ k equal. record { in_list = equal.in_list; rest = pair 0 0; member = Memᴰ.head refl; adds = alone t e ∙ sym equal.is });
      }
  road-alone None none =
      record {
        decides = record { holds = λ f. absurd (true≢false (sym f)); fails = λ f all. uncovered (member-covers fits (covered_eq (alone t e) (all (pair 0 0) (Memᴰ.head refl)))) };
        marking = λ f. absurd (true≢false (sym f));
      }
    where
      uncovered : Somewhere fits (pair t e) → ⊥
      uncovered at_place = none at_place.place at_place.covers
