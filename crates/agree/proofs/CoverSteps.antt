-- One sum against a stored list: the next entry covers it, or the first that is no slower decides.
-- In this order: a list that fits; one entry; one sum.
use mathlib.Core.Path.{◌≡◌, refl, sym, ap, ◌∙◌}
use mathlib.Core.Logic.{◌⊎◌, inl, inr, ⊎_elim}
use mathlib.Core.Bool.{Bool, true, false, true≢false, cond, ◌&&◌}
use mathlib.Core.List.{List}
use Prim.Native.Nat.{ℕ, ◌-◌, ◌≤◌, ◌<◌}
use native.Mathlib.Decide.{dec_le, ℕ_discrete}
use native.Mathlib.Omega.{arith}
use borrow.Author.Tests.{eq-eqb}
use Rattle.std.proofs.lemmas.Bool.Decides.{nat_tests}
use lib.Dec.{eqb}
use lib.ListN.{length, get_or, set, length-set}
use lib.Seq.{get_or-set_same, get_or-set_other}
use Rattle.paths.specs.Weights.{energy, pair, time, spent, Covered}
use Rattle.lists.specs.Entries.{Weight}
use Rattle.lists.proofs.Entries.{far}
use Rattle.forest.specs.LabelFile.{count_at, time_at, energy_at}
use Rattle.stored.specs.Stored.{list_at}
use Rattle.stored.specs.working.Formed.{ListFits}
use Rattle.stored.proofs.Tabulate.{Stands, member-stands, tabulate-member}
use Rattle.agree.specs.working.Covering.{entry_of, CoversAt, EqualsAt, EntryCompared, QuickAt, Behind}

-- ---- A list that fits

-- The list at a byte fits and has so many entries
pub record ListRead (labels : List ℕ) (at count : ℕ) : Type 0 where
  pub fits : ListFits labels at
  pub counted : count ≡ count_at labels at

-- it is read once its count is
pub list_read : {labels : List ℕ} {at count : ℕ} → ListFits labels at → count ≡ count_at labels at → ListRead labels at count
list_read fits counted = record { fits = fits; counted = counted }

module _ {labels : List ℕ} {at : ℕ} (fits : ListFits labels at) where
  -- a later entry has more energy
  pub energy_rises_far : (i j : ℕ) → i < j → j < count_at labels at → energy_at labels at i < energy_at labels at j
  energy_rises_far = far (λ i j. energy_at labels at i < energy_at labels at j) (λ i j k a b. omega arith) (count_at labels at) fits.energy_rises

  -- and less time
  pub time_falls_far : (i j : ℕ) → i < j → j < count_at labels at → time_at labels at j < time_at labels at i
  time_falls_far = far (λ i j. time_at labels at j < time_at labels at i) (λ i j k a b. omega arith) (count_at labels at) fits.time_falls

  -- if an entry covers a sum, no other equals it
  pub covering_alone : {sum : Weight} {i k : ℕ} → CoversAt labels at sum i → EqualsAt labels at sum k → k ≡ i
  covering_alone {sum} {i} {k} covers equals = pick (ℕ_discrete k i) (dec_le k i)
    where
      same-time : time_at labels at k ≡ time energy sum
      same-time = ap (time energy) equals.is

      same-energy : energy_at labels at k ≡ spent energy sum
      same-energy = ap (spent energy) equals.is

      pick : Dec (k ≡ i) → Dec (k ≤ i) → k ≡ i
      pick (yes e) d = e
      pick (no apart) (yes h) = absurd (omega (arith, energy_rises_far k i (omega arith) covers.in_list, covers.no_larger, same-energy))
      pick (no apart) (no h) = absurd (omega (arith, time_falls_far i k (omega arith) equals.in_list, covers.no_larger, same-time))

  -- an entry that covers a sum is one of the list
  pub covers-member : {sum : Weight} {i : ℕ} → CoversAt labels at sum i → Covered energy (list_at labels at) sum
  covers-member {sum} {i} covers =
      record { entry = entry_of labels at i; member = tabulate-member (entry_of labels at) (count_at labels at) covers.in_list; has = covers.no_larger }

  -- and an entry of the list that does so stands at a place
  pub record Somewhere (sum : Weight) : Type 0 where
    pub place : ℕ
    pub covers : CoversAt labels at sum place

  pub member-covers : {sum : Weight} → Covered energy (list_at labels at) sum → Somewhere sum
  member-covers {sum} covered = found (member-stands (entry_of labels at) (count_at labels at) covered.member)
    where
      found : Stands (entry_of labels at) (count_at labels at) covered.entry → Somewhere sum
      found stands = record { place = stands.place; covers = record { in_list = stands.below; no_larger = rw stands.is at covered.has } }

-- equal sums are covered and equalled alike
pub covered_eq : {l : List Weight} {p q : Weight} → p ≡ q → Covered energy l p → Covered energy l q
covered_eq e covered = rw e at covered

pub equals_eq : {labels : List ℕ} {own i : ℕ} {p q : Weight} → p ≡ q → EqualsAt labels own p i → EqualsAt labels own q i
equals_eq e equals = rw e at equals

-- ---- One entry

module _ {labels : List ℕ} {own count : ℕ} (read : ListRead labels own count) {t e i : ℕ} (marks : List ℕ) where
  -- it covers the sum, and is marked if it equals it
  pub compared_covers :
      {own-time own-energy mark : ℕ} {same : Bool} →
      length marks ≡ 4096 →
      i < count →
      own-time ≡ time_at labels own i →
      own-time ≤ t →
      own-energy ≡ energy_at labels own i →
      own-energy ≤ e →
      same ≡ (eqb t own-time && eqb e own-energy) →
      mark ≡ cond same 1 (get_or marks i 0) →
      EntryCompared labels own (pair t e) i marks (set marks i mark) true
  compared_covers {own-time} {own-energy} {mark} {same} places below time_is no_slower energy_is no-dearer test mark-is =
      record {
        decides = record { holds = λ f. covers; fails = λ f. absurd (true≢false f) };
        marking =
            λ f.
            record {
              places = length-set marks i mark ∙ places;
              marked = λ k equals. rw (covering_alone read.fits covers equals) (get_or-set_same marks i mark 0 inside ∙ marks_one k equals);
              only = λ k. pick k (ℕ_discrete k i);
            };
        kept = λ f. absurd (true≢false f);
      }
    where
      covers : CoversAt labels own (pair t e) i
      covers = record { in_list = omega (arith, read.counted); no_larger = omega arith }

      inside : i < length marks
      inside = omega (arith, read.counted, read.fits.short)

      -- the entry that equals the sum passes the test
      marks_one : (k : ℕ) → EqualsAt labels own (pair t e) k → mark ≡ 1
      marks_one k equals =
          let here : i ≡ k = sym (covering_alone read.fits covers equals) in
          let same-time : t ≡ own-time = sym (time_is ∙ ap (time_at labels own) here ∙ ap (time energy) equals.is) in
          let same-energy : e ≡ own-energy = sym (energy_is ∙ ap (energy_at labels own) here ∙ ap (spent energy) equals.is) in
          mark-is ∙ rw (test, eq-eqb t own-time same-time, eq-eqb e own-energy same-energy)

      -- a mark that changed is that of an equal entry
      changed : (b : Bool) → same ≡ b → (mark ≡ get_or marks i 0) ⊎ EqualsAt labels own (pair t e) i
      changed true held = inr (record { in_list = covers.in_list; is = λ j. pair (equal-time j) (equal-energy j) })
        where
          equal-time : time_at labels own i ≡ t
          equal-time = grind (arith, nat_tests)

          equal-energy : energy_at labels own i ≡ e
          equal-energy = grind (arith, nat_tests)
      changed false failed = inl (mark-is ∙ rw failed)

      pick : (k : ℕ) → Dec (k ≡ i) → (get_or (set marks i mark) k 0 ≡ get_or marks k 0) ⊎ EqualsAt labels own (pair t e) k
      pick k (yes here) = rw here (⊎_elim (λ kept. inl (get_or-set_same marks i mark 0 inside ∙ kept)) inr (changed same refl))
      pick k (no apart) = inl (get_or-set_other marks i k mark 0 apart)

-- ---- One sum

module _ {labels : List ℕ} {own count : ℕ} (read : ListRead labels own count) {sum : Weight} {next : ℕ} (behind : Behind labels own next (spent energy sum)) where
  module _ {hint : ℕ} (hint-is : hint ≡ next - 1) where
    -- no entry from the hint on is quick enough, and earlier ones are slower still
    pub none_quick : ((i : ℕ) → hint ≤ i → i < count_at labels own → time energy sum < time_at labels own i) → (i : ℕ) → CoversAt labels own sum i → ⊥
    none_quick slow i covers = pick (dec_le hint i)
      where
        pick : Dec (hint ≤ i) → ⊥
        pick (yes from) = omega (arith, slow i from covers.in_list, covers.no_larger)
        pick (no before) =
            let inside : hint < count_at labels own = omega (arith, behind.in_list) in
            omega (arith, slow hint (omega arith) inside, time_falls_far read.fits i hint (omega arith) inside, covers.no_larger)

    -- the first that is quick enough costs more, later ones cost more still, and earlier ones are slower
    pub quick_dear : {r : ℕ} → QuickAt labels own (time energy sum) hint r → (CoversAt labels own sum r → ⊥) → (i : ℕ) → CoversAt labels own sum i → ⊥
    quick_dear {r} quick refused i covers = pick (dec_le hint i) (dec_le r i)
      where
        dearer : spent energy sum < energy_at labels own r
        dearer = side (dec_le (energy_at labels own r) (spent energy sum))
          where
            side : Dec (energy_at labels own r ≤ spent energy sum) → spent energy sum < energy_at labels own r
            side (yes low) = absurd (refused (record { in_list = quick.in_list; no_larger = (low, quick.quick) }))
            side (no high) = omega arith

        later : r ≤ i → Dec (i ≡ r) → ⊥
        later h (yes same) = omega (arith, dearer, covers.no_larger, ap (energy_at labels own) same)
        later h (no apart) = omega (arith, dearer, energy_rises_far read.fits r i (omega arith) covers.in_list, covers.no_larger)

        -- the hint costs no more than the sum, so it stands before the first that is quick enough
        near : i < hint → Dec (hint ≡ r) → ⊥
        near h (yes same) =
            let cheap : energy_at labels own hint ≤ spent energy sum = rw hint-is (behind.cheap (omega arith)) in
            omega (arith, dearer, ap (energy_at labels own) same)
        near h (no apart) =
            let inside : hint < count_at labels own = omega (arith, behind.in_list) in
            omega (arith, quick.slow hint (omega arith) (omega (arith, quick.from)), time_falls_far read.fits i hint h inside, covers.no_larger)

        pick : Dec (hint ≤ i) → Dec (r ≤ i) → ⊥
        pick (yes from) (yes h) = later h (ℕ_discrete i r)
        pick (yes from) (no before) = omega (arith, quick.slow i from (omega arith), covers.no_larger)
        pick (no before) h = near (omega arith) (ℕ_discrete hint r)
