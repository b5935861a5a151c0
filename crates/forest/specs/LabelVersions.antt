-- What each version of a label file asks, and how its lists lie (SCOPE 3.1, 3.3). `proofs/LabelVersionTable.antt` pins the rows; which versions
-- are served, the calls say.
use Rattle.std.specs.Prelude.{ℕ}

-- ---- What each asks

-- The least energy of an entry
abbrev pub least_entry_energy : ℕ → ℕ
least_entry_energy version = 1

-- ---- How its lists lie

-- The bytes of an entry
abbrev pub entry_bytes : ℕ → ℕ
entry_bytes version = 8

-- The order of the numbers in a list of so many entries: where its first time and its first energy stand, counted from the list's first byte,
abbrev pub first_time : ℕ → ℕ → ℕ
first_time version count = 2

abbrev pub first_energy : ℕ → ℕ → ℕ
first_energy version count = 6

-- and the bytes from a time to the next entry's time, and from an energy to the next entry's energy
abbrev pub stride : ℕ → ℕ
stride version = 8
