-- Sums noted by their times: for each second of a span the least energy of a sum that takes so long.
use Rattle.std.specs.Prelude.{◌≡◌, ◌⊎◌, List, ℕ, ◌+◌, ◌≤◌, ◌<◌, length, get_or, set}
use Rattle.paths.specs.Weights.{energy, pair, time, Within}
use Rattle.lists.specs.Entries.{Weight}

-- How many seconds a span has
abbrev pub span_seconds : ℕ
span_seconds = 2048

-- What is noted for a second that no sum takes
abbrev pub no_energy : ℕ
no_energy = 4294967295

-- ---- Sets of sums

-- p is a sum of one entry and another list's, from place `low` up to below `high`
pub record EntrySum (sums : ℕ → Weight) (low high : ℕ) (p : Weight) : Type 0 where
  pub at : ℕ
  pub not_before : low ≤ at
  pub below : at < high
  pub adds : p ≡ sums at

-- p is a sum of one of so many near entries and one of so many far ones
pub record SumOf (sums : ℕ → ℕ → Weight) (near far : ℕ) (p : Weight) : Type 0 where
  pub i : ℕ
  pub j : ℕ
  pub in_near : i < near
  pub in_far : j < far
  pub adds : p ≡ sums i j

-- p is of the set, and within the limit
pub record PairWithin (Has : Weight → Type 0) (limit : ℕ) (p : Weight) : Type 0 where
  pub has : Has p
  pub within : Within energy limit p

-- No pair of the set takes less than the first second
pub record NoneBefore (Has : Weight → Type 0) (first : ℕ) : Type 0 where
  pub later : (p : Weight) → Has p → first ≤ time energy p

-- ---- What is noted

-- One energy is noted for a second if it is less than what was noted there
pub data LoweredAt (second energy : ℕ) (before after : List ℕ) : Type 0 where
  lowered : energy < get_or before second 0 → after ≡ set before second energy → LoweredAt second energy before after
  kept : get_or before second 0 ≤ energy → after ≡ before → LoweredAt second energy before after

-- Each second from the first on has the least of what was noted there and the energies of the set's pairs that take so long
pub record Lowered (Has : Weight → Type 0) (first : ℕ) (before after : List ℕ) : Type 0 where
  pub long : length after ≡ span_seconds
  pub no_higher : (k : ℕ) → get_or after k 0 ≤ get_or before k 0
  pub least : (k e : ℕ) → k < span_seconds → Has (pair (first + k) e) → get_or after k 0 ≤ e
  pub origin : (k : ℕ) → (get_or after k 0 ≡ get_or before k 0) ⊎ Has (pair (first + k) (get_or after k 0))

-- Nothing is noted for the first seconds
pub record Cleared (seconds : ℕ) (leasts : List ℕ) : Type 0 where
  pub long : length leasts ≡ span_seconds
  pub clear : (k : ℕ) → k < seconds → get_or leasts k 0 ≡ no_energy

-- r is the first second from one on, up to the end, for which less than the bound is noted
pub record Sought (leasts : List ℕ) (from end bound r : ℕ) : Type 0 where
  pub passed : (k : ℕ) → from ≤ k → k < r → bound ≤ get_or leasts k 0
  pub not_before : from ≤ r
  pub found : r < end → get_or leasts r 0 < bound
