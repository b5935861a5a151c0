-- The rows of the table of label versions, one law each; and that a list of two entries is as long as its name says, whatever the version.
use mathlib.Core.Path.{◌≡◌, refl}
use mathlib.Core.List.{List}
use Prim.Native.Nat.{ℕ}
use Rattle.forest.specs.LabelVersions.{least_entry_energy, entry_bytes, first_time, first_energy, stride}
use Rattle.forest.specs.LabelFile.{entries_end, short_bytes}

-- ---- The rows of version 1

pub least_entry_energy_1 : least_entry_energy 1 ≡ 1
least_entry_energy_1 = refl

pub entry_bytes_1 : entry_bytes 1 ≡ 8
entry_bytes_1 = refl

pub first_time_1 : (count : ℕ) → first_time 1 count ≡ 2
first_time_1 count = refl

pub first_energy_1 : (count : ℕ) → first_energy 1 count ≡ 6
first_energy_1 count = refl

pub stride_1 : stride 1 ≡ 8
stride_1 = refl

-- ---- A list of two entries

pub short-bytes : (labels : List ℕ) → entries_end labels 0 2 ≡ short_bytes
short-bytes labels = refl
