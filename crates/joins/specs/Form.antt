-- Join's 41 and 42 (SCOPE 4.2, 4.3).
use Rattle.std.specs.Prelude.{Bool, true, ◌&&◌, List, ℕ, zero, suc, leb, ltb, eqb, length, get_or}
use Rattle.refusals.specs.Order.{unless, every}

-- The most entries of a list, and the largest number in it (SCOPE 4.2, number 42)
abbrev pub most_entries : ℕ
most_entries = 4095

abbrev pub most_number : ℕ
most_number = 1073741823

-- Entry i keeps the order (SCOPE 4.2, 42): above the energy before it, below the time before it
abbrev pub follows : List ℕ → List ℕ → ℕ → Bool
follows times energies zero = true
follows times energies (suc i) = ltb (get_or energies i 0) (get_or energies (suc i) 0) && ltb (get_or times (suc i) 0) (get_or times i 0)

-- It has no number above the largest, and keeps the order (SCOPE 4.2, 42)
unfoldable pub entry_fits : List ℕ → List ℕ → ℕ → Bool
entry_fits times energies i = leb (get_or times i 0) most_number && leb (get_or energies i 0) most_number && follows times energies i

-- The list keeps the rules of 42 (SCOPE 4.2)
unfoldable pub well_formed : List ℕ → List ℕ → Bool
well_formed times energies = leb (length times) most_entries && every (entry_fits times energies) (length times)

-- 41 of either list before 42 of either (SCOPE 4.3); 0 if neither applies
unfoldable pub join_number : List ℕ → List ℕ → List ℕ → List ℕ → ℕ
join_number times energies more_times more_energies =
    unless (eqb (length times) (length energies)) 41
    (unless (eqb (length more_times) (length more_energies)) 41
    (unless (well_formed times energies) 42
    (unless (well_formed more_times more_energies) 42
    0)))
