-- The best sum of two lists under a limit, by places.
use Rattle.std.specs.Prelude.{◌≡◌, List, ℕ, Option, Some, None, ◌≤◌, ◌<◌, length, get_or}
use Rattle.paths.specs.Weights.{weights, energy, Within, NotLater}
use Rattle.lists.specs.Entries.{Weight}
use Rattle.lists.specs.working.Lists.{entry_at}

-- How many leading entries have energy at most the limit
pub record Leading (energies : List ℕ) (limit count : ℕ) : Type 0 where
  pub in_list : count ≤ length energies
  pub within : (i : ℕ) → i < count → get_or energies i 0 ≤ limit
  pub stops : count < length energies → limit < get_or energies count 0

module _ (times energies more_times more_energies : List ℕ) where
  -- The sum of entry i of the first list and entry j of the second
  abbrev pub sum_at : ℕ → ℕ → Weight
  sum_at i j = (weights energy).◌⊕◌ (entry_at times energies i) (entry_at more_times more_energies j)

  -- The places of the best sum within the limit: least time, then least energy, and the lowest place in the first list that gives it
  pub record BestPlaces (limit i j : ℕ) : Type 0 where
    pub first_place : i < length times
    pub second_place : j < length more_times
    pub within : Within energy limit (sum_at i j)
    pub least :
        (a b : ℕ) → a < length times → b < length more_times → Within energy limit (sum_at a b) → NotLater energy (sum_at i j) (sum_at a b)
    pub lowest : (a b : ℕ) → a < length times → b < length more_times → sum_at a b ≡ sum_at i j → i ≤ a

  -- What the search for the best sum hands back
  abbrev pub BestFound : ℕ → Option (ℕ × ℕ) → Type 0
  BestFound limit (Some (i, j)) = BestPlaces limit i j
  BestFound limit None = (a b : ℕ) → a < length times → b < length more_times → Within energy limit (sum_at a b) → ⊥
