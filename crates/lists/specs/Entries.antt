-- A trade-off list as calls hold it: a slice of times and a slice of energies (SCOPE 5.4, 5.5).
use Rattle.std.specs.Prelude.{List, [], ◌∷◌, map, ℕ}
use Rattle.paths.specs.Weights.{weights, energy, pair, time, spent}

-- The pair of a path: time and energy (SCOPE 2.1)
abbrev pub Weight : Type 0
Weight = (weights energy).Figure

-- The entries, first with first (SCOPE 5.5)
unfoldable pub entries : List ℕ → List ℕ → List Weight
entries [] energies = []
entries (time ∷ times) [] = []
entries (time ∷ times) (energy ∷ energies) = pair time energy ∷ entries times energies

-- The two slices of a list (SCOPE 5.4)
abbrev pub times : List Weight → List ℕ
times l = map (time energy) l

abbrev pub energies : List Weight → List ℕ
energies l = map (spent energy) l
