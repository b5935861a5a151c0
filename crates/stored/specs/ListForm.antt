-- What the lists of a label file are refused by, 11 and 17 (SCOPE 3.3, 4.3).
use Rattle.std.specs.Prelude.{Bool, true, ◌&&◌, List, ℕ, zero, suc, leb, ltb, length}
use Rattle.refusals.specs.Order.{unless, first_fault}
use Rattle.forest.specs.LabelVersions.{least_entry_energy}
use Rattle.network.specs.NetworkFile.{version_of}
use Rattle.forest.specs.LabelFile.{count_at, time_at, energy_at, count_end, time_end, energy_end}
use Rattle.stored.specs.Stored.{lists_of, place_of}

abbrev pub most_bytes : ℕ
most_bytes = 4194304

abbrev pub most_count : ℕ
most_count = 4095

-- The most that 1,023 roads can take
abbrev pub most_figure : ℕ
most_figure = 67042305

-- Energy rises and time falls; the first entry of a list has none before it
abbrev pub time_follows : List ℕ → ℕ → ℕ → Bool
time_follows labels at zero = true
time_follows labels at (suc j) = ltb (time_at labels at (suc j)) (time_at labels at j)

abbrev pub energy_follows : List ℕ → ℕ → ℕ → Bool
energy_follows labels at zero = true
energy_follows labels at (suc j) = ltb (energy_at labels at j) (energy_at labels at (suc j))

unfoldable pub time_fits : List ℕ → ℕ → ℕ → Bool
time_fits labels at j = leb 1 (time_at labels at j) && leb (time_at labels at j) most_figure && time_follows labels at j

unfoldable pub energy_fits : List ℕ → ℕ → ℕ → Bool
energy_fits labels at j =
    leb (least_entry_energy (version_of labels)) (energy_at labels at j) && leb (energy_at labels at j) most_figure && energy_follows labels at j

-- Number by number as they stand in the file: 11 for one that is cut off, 17 for one that breaks its rule
unfoldable pub entry_number : List ℕ → ℕ → ℕ → ℕ
entry_number labels at j =
    unless (leb (time_end labels at j) (length labels)) 11
    (unless (time_fits labels at j) 17
    (unless (leb (energy_end labels at j) (length labels)) 11
    (unless (energy_fits labels at j) 17
    0)))

unfoldable pub list_number : List ℕ → ℕ → ℕ
list_number labels at =
    unless (leb (count_end at) (length labels)) 11
    (unless (leb (count_at labels at) most_count) 17
    (first_fault (entry_number labels at) 0 (count_at labels at)))

unfoldable pub lists_number : List ℕ → ℕ
lists_number labels = first_fault (λ g. list_number labels (place_of labels g)) 0 (lists_of labels)
