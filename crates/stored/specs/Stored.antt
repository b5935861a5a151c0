-- Where each stored list stands, and what it holds (SCOPE 3.3).
use Rattle.std.specs.Prelude.{List, [], ◌∷◌, ℕ, zero, suc, ◌+◌, ◌-◌}
use Rattle.paths.specs.Weights.{weights, energy, pair}
use Rattle.network.specs.NetworkFile.{junctions_of}
use Rattle.forest.specs.LabelFile.{lists_from, count_at, time_at, energy_at, list_end}
use Rattle.forest.specs.Forest.{depth_of}

-- How many lists the junctions below v have: one for each proper ancestor
unfoldable pub lists_before : List ℕ → ℕ → ℕ
lists_before labels zero = 0
lists_before labels (suc v) = lists_before labels v + depth_of labels v

abbrev pub lists_of : List ℕ → ℕ
lists_of labels = lists_before labels (junctions_of labels)

-- The byte where list number g starts: the lists stand one after another behind the parents
unfoldable pub place_of : List ℕ → ℕ → ℕ
place_of labels zero = lists_from labels
place_of labels (suc g) = list_end labels (place_of labels g)

-- The byte where the list of v and its proper ancestor u starts
unfoldable pub list_place : List ℕ → ℕ → ℕ → ℕ
list_place labels v u = place_of labels (lists_before labels v + (depth_of labels v - depth_of labels u - 1))

-- How many entries the first g lists have
unfoldable pub entries_before : List ℕ → ℕ → ℕ
entries_before labels zero = 0
entries_before labels (suc g) = entries_before labels g + count_at labels (place_of labels g)

-- The numbers f 0, f 1, …, as many as n
unfoldable pub tabulate : {A : Type 0} → (ℕ → A) → ℕ → List A
tabulate f zero = []
tabulate f (suc n) = f 0 ∷ tabulate (λ i. f (suc i)) n

-- The entries of the list at byte `at`
abbrev pub list_at : List ℕ → ℕ → List (weights energy).Figure
list_at labels at = tabulate (λ j. pair (time_at labels at j) (energy_at labels at j)) (count_at labels at)

-- The stored list of v and its proper ancestor u
unfoldable pub stored : List ℕ → ℕ → ℕ → List (weights energy).Figure
stored labels v u = list_at labels (list_place labels v u)
