-- The rows of the table of versions, one law each, and what serving version 1 alone means.
-- In this order: the rows of version 1; version 1 alone.
use mathlib.Core.Path.{◌≡◌, refl}
use Prim.Native.Nat.{ℕ, ◌≤◌}
use native.Mathlib.Decide.{ℕ_discrete, dec_le}
use native.Mathlib.Omega.{arith}
use lib.Dec.{eqb}
use borrow.Author.Tests.{le-leb, lt-leb, eq-eqb, ne_eqb}
use Rattle.network.specs.Versions.{served, version_one, least_energy, record_bytes}

-- ---- The rows of version 1

pub least_energy_1 : least_energy 1 ≡ 1
least_energy_1 = refl

pub record_bytes_1 : record_bytes 1 ≡ 8
record_bytes_1 = refl

pub first-served : version_one.first ≡ 1
first-served = refl

pub last-served : version_one.last ≡ 1
last-served = refl

-- ---- Version 1 alone

-- version 1 and no other is served
pub one_alone : (version : ℕ) → served version_one version ≡ eqb version 1
one_alone version = pick (ℕ_discrete version 1) (dec_le 1 version)
  where
    pick : Dec (version ≡ 1) → Dec (1 ≤ version) → served version_one version ≡ eqb version 1
    pick (yes e) d = rw (le-leb 1 version (omega arith), le-leb version 1 (omega arith), eq-eqb version 1 e)
    pick (no apart) (yes from) = rw (le-leb 1 version from, lt-leb version 1 (omega arith), ne_eqb version 1 apart)
    pick (no apart) (no before) = rw (lt-leb 1 version (omega arith), ne_eqb version 1 apart)
