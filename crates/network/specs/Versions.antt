-- Which versions of a file are served, and what each version asks of a network; version 1 alone is served (SCOPE 3.1). `proofs/VersionTable.antt` pins
-- the rows; those of labels are `LabelVersions` of `forest`.
use Rattle.std.specs.Prelude.{Bool, ◌&&◌, ℕ, leb}
use Rattle.network.specs.declared.versions.Served.{Served}

-- ---- Which are served

-- A version from the first to the last of those that are served
abbrev pub served : Served → ℕ → Bool
served serves version = leb serves.first version && leb version serves.last

-- Version 1 alone
abbrev pub version_one : Served
version_one = record { first = 1; last = 1 }

-- ---- What each asks

-- The least energy of a road
abbrev pub least_energy : ℕ → ℕ
least_energy version = 1

-- The bytes of a road's record (SCOPE 3.2)
abbrev pub record_bytes : ℕ → ℕ
record_bytes version = 8
