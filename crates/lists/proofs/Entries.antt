-- Laws of lists in two slices: a member of the list of entries is an entry at a place, a later entry has more energy and less time, and
-- best places are a best sum. In this order: places; order; places of sums.
use mathlib.Core.Path.{◌≡◌, refl, sym, ap₂, ◌∙◌}
use mathlib.Core.Logic.{◌⊎◌, inl, inr}
use mathlib.Core.List.Memᴰ
use mathlib.Core.List.{List, [], ◌∷◌, Memᴰ}
use Prim.Native.Nat.{ℕ, zero, suc, ◌≤◌, ◌<◌}
use native.Mathlib.Decide.{ℕ_discrete}
use native.Mathlib.Omega.{arith}
use lib.ListN.{length, get_or}
use Rattle.paths.specs.Weights.{weights, energy, pair, Within, NotLater}
use Rattle.paths.specs.TradeOff.{IsSum}
use Rattle.paths.specs.Answer.{BestSum, NoSum}
use Rattle.lists.specs.Entries.{Weight, entries}
use Rattle.lists.specs.working.Lists.{entry_at, IsList}
use Rattle.lists.specs.working.Sums.{sum_at, BestPlaces}

-- ---- Places

-- p stands at a place
pub record AtIndex (times energies : List ℕ) (p : Weight) : Type 0 where
  pub place : ℕ
  pub in_times : place < length times
  pub in_energies : place < length energies
  pub is : entry_at times energies place ≡ p

-- a member of the entries stands at a place
pub member_index : (times energies : List ℕ) {p : Weight} → Memᴰ p (entries times energies) → AtIndex times energies p
unfolding entries
member_index [] energies m = absurd (Memᴰ.not-nil m)
member_index (t ∷ times) [] m = absurd (Memᴰ.not-nil m)
member_index (t ∷ times) (e ∷ energies) {p} m = pick (λ m'. member_index times energies m') (Memᴰ.cases_cons m)
  where
    pick : (Memᴰ p (entries times energies) → AtIndex times energies p) → (p ≡ pair t e) ⊎ Memᴰ p (entries times energies) → AtIndex (t ∷ times) (e ∷ energies) p
    pick f (inl first) = record { place = 0; in_times = omega arith; in_energies = omega arith; is = sym first }
    pick f (inr m') =
        let z = f m' in record { place = suc z.place; in_times = omega arith; in_energies = omega arith; is = z.is }

-- what stands at a place is a member of the entries
pub index_member : (times energies : List ℕ) (i : ℕ) → i < length times → i < length energies → Memᴰ (entry_at times energies i) (entries times energies)
unfolding entries
index_member [] energies i h k = absurd (omega arith)
index_member (t ∷ times) [] i h k = absurd (omega arith)
index_member (t ∷ times) (e ∷ energies) zero h k = Memᴰ.head refl
index_member (t ∷ times) (e ∷ energies) (suc i) h k = Memᴰ.tail (index_member times energies i (omega arith) (omega arith))

-- ---- Order

-- what holds from each place to the next, and passes on, holds of any two places
pub far :
    (Before : ℕ → ℕ → Type 0) → ((i j k : ℕ) → Before i j → Before j k → Before i k) → (n : ℕ) → ((i : ℕ) → suc i < n → Before i (suc i)) →
    (i j : ℕ) → i < j → j < n → Before i j
far Before passes n step i zero h k = absurd (omega arith)
far Before passes n step i (suc j) h k = pick (λ below. far Before passes n step i j below (omega arith)) (ℕ_discrete i j)
  where
    pick : (i < j → Before i j) → Dec (i ≡ j) → Before i (suc j)
    pick f (yes e) = rw e (step j k)
    pick f (no apart) = passes i j (suc j) (f (omega arith)) (step j k)

module _ {most : ℕ} {times energies : List ℕ} (right : IsList most times energies) where
  -- a later entry has more energy
  pub energy_rises_far : (i j : ℕ) → i < j → j < length energies → get_or energies i 0 < get_or energies j 0
  energy_rises_far = far (λ i j. get_or energies i 0 < get_or energies j 0) (λ i j k a b. omega arith) (length energies) right.energy_rises

  -- and less time
  pub time_falls_far : (i j : ℕ) → i < j → j < length times → get_or times j 0 < get_or times i 0
  time_falls_far = far (λ i j. get_or times j 0 < get_or times i 0) (λ i j k a b. omega arith) (length times) right.time_falls

-- numbers that are small enough are so for a larger bound
pub is_list_more : {m n : ℕ} {times energies : List ℕ} → IsList m times energies → m ≤ n → IsList n times energies
is_list_more right h =
    record {
      one_length = right.one_length;
      small_time = λ i k. omega (arith, right.small_time i k);
      small_energy = λ i k. omega (arith, right.small_energy i k);
      energy_rises = right.energy_rises;
      time_falls = right.time_falls;
    }

-- ---- Places of sums

-- equal weights are within one limit, and equally late
pub within_eq : {limit : ℕ} {p q : Weight} → p ≡ q → Within energy limit q → Within energy limit p
within_eq e w = rw e w

pub not_later_eq : {p q r : Weight} → p ≡ q → NotLater energy r p → NotLater energy r q
not_later_eq e h = rw e at h

module _ (times energies more_times more_energies : List ℕ) where
  -- The sum of two places
  pub record AtPlaces (p : Weight) : Type 0 where
    pub first_index : ℕ
    pub second_index : ℕ
    pub in_first : first_index < length times
    pub in_second : second_index < length more_times
    pub is : sum_at times energies more_times more_energies first_index second_index ≡ p

  -- a sum stands at two places
  pub sum_places : {p : Weight} → IsSum energy (entries times energies) (entries more_times more_energies) p → AtPlaces p
  sum_places s =
      let a = member_index times energies s.in_first in
      let b = member_index more_times more_energies s.in_second in
      record {
        first_index = a.place;
        second_index = b.place;
        in_first = a.in_times;
        in_second = b.in_times;
        is = ap₂ (weights energy).◌⊕◌ a.is b.is ∙ s.adds;
      }

  -- two places give a sum
  pub places_sum :
      length times ≡ length energies →
      length more_times ≡ length more_energies →
      (i j : ℕ) →
      i < length times →
      j < length more_times →
      IsSum energy (entries times energies) (entries more_times more_energies) (sum_at times energies more_times more_energies i j)
  places_sum even even' i j h k =
      record {
        left = entry_at times energies i;
        right = entry_at more_times more_energies j;
        in_first = index_member times energies i h (omega arith);
        in_second = index_member more_times more_energies j k (omega arith);
        adds = refl;
      }

  -- the best places give the best sum
  pub best_places_best_sum :
      length times ≡ length energies →
      length more_times ≡ length more_energies →
      {limit i j : ℕ} →
      BestPlaces times energies more_times more_energies limit i j →
      BestSum energy (entries times energies) (entries more_times more_energies) limit (sum_at times energies more_times more_energies i j)
  best_places_best_sum even even' {limit} {i} {j} best =
      record {
        sum = places_sum even even' i j best.first_place best.second_place;
        within = best.within;
        least =
            λ q s w.
            let z = sum_places s in
            not_later_eq z.is (best.least z.first_index z.second_index z.in_first z.in_second (within_eq z.is w));
      }

  -- no places within the limit, no sum within it
  pub nowhere_no_sum :
      {limit : ℕ} →
      ((a b : ℕ) → a < length times → b < length more_times → Within energy limit (sum_at times energies more_times more_energies a b) → ⊥) →
      NoSum energy (entries times energies) (entries more_times more_energies) limit
  nowhere_no_sum nowhere q s w =
      let z = sum_places s in
      nowhere z.first_index z.second_index z.in_first z.in_second (within_eq z.is w)
