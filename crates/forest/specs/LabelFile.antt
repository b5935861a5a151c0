-- The label file's numbers (SCOPE 3.1, 3.3).
use Rattle.std.specs.Prelude.{cond, not, ◌&&◌, List, ℕ, ◌+◌, ◌*◌, ltb, eqb}
use Rattle.std.proofs.Math.Option.{none, some}
use Rattle.paths.specs.Forest.{Parents}
use Rattle.file_bytes.specs.Bytes.{u16_at, u32_at}
use Rattle.network.specs.NetworkFile.{header_bytes, version_of, junctions_of}
use Rattle.forest.specs.LabelVersions.{entry_bytes, first_time, first_energy, stride}

-- E, in bytes 8 to 11
abbrev pub entries_of : List ℕ → ℕ
entries_of labels = u32_at labels 8

-- The parents, behind the header
abbrev pub parent_bytes : ℕ
parent_bytes = 2

abbrev pub parent_at : List ℕ → ℕ → ℕ
parent_at labels v = u16_at labels (header_bytes + parent_bytes * v)

-- The byte behind the parent of v
abbrev pub parent_end : ℕ → ℕ
parent_end v = header_bytes + parent_bytes + parent_bytes * v

abbrev pub no_parent : ℕ
no_parent = 65535

-- The byte behind the parents, where the first list starts
abbrev pub lists_from : List ℕ → ℕ
lists_from labels = header_bytes + parent_bytes * junctions_of labels

-- The parents as a function; what is no junction has none
unfoldable pub parents_of : List ℕ → Parents
parents_of labels v = cond (ltb v (junctions_of labels) && not (eqb (parent_at labels v) no_parent)) (some (parent_at labels v)) none

-- A list at byte `at`: a count of 16 bits, then entries of 32 bits for the time and 32 for the energy, as its version lays them
abbrev pub count_at : List ℕ → ℕ → ℕ
count_at labels at = u16_at labels at

abbrev pub time_at : List ℕ → ℕ → ℕ → ℕ
time_at labels at j = u32_at labels (at + first_time (version_of labels) (count_at labels at) + stride (version_of labels) * j)

abbrev pub energy_at : List ℕ → ℕ → ℕ → ℕ
energy_at labels at j = u32_at labels (at + first_energy (version_of labels) (count_at labels at) + stride (version_of labels) * j)

abbrev pub count_bytes : ℕ
count_bytes = 2

-- The bytes behind its count, behind its first entries, and behind the time and the energy of entry j
abbrev pub count_end : ℕ → ℕ
count_end at = at + count_bytes

abbrev pub entries_end : List ℕ → ℕ → ℕ → ℕ
entries_end labels at count = count_end at + entry_bytes (version_of labels) * count

abbrev pub time_end : List ℕ → ℕ → ℕ → ℕ
time_end labels at j = at + (first_time (version_of labels) (count_at labels at) + 4) + stride (version_of labels) * j

abbrev pub energy_end : List ℕ → ℕ → ℕ → ℕ
energy_end labels at j = at + (first_energy (version_of labels) (count_at labels at) + 4) + stride (version_of labels) * j

-- How many bytes a list of two entries takes
abbrev pub short_bytes : ℕ
short_bytes = 18

-- Where the next list starts
unfoldable pub list_end : List ℕ → ℕ → ℕ
list_end labels at = entries_end labels at (count_at labels at)
