-- Sums of two lists in slices noted by their times. In this order: one entry; all sums.
use mathlib.Core.Path.{◌≡◌}
use mathlib.Core.List.{List}
use Prim.Native.Nat.{ℕ, ◌≤◌, ◌<◌}
use native.Mathlib.Decide.{ℕ_discrete}
use native.Mathlib.Omega.{arith}
use lib.ListN.{length, get_or}
use Rattle.paths.specs.Weights.{energy, time}
use Rattle.lists.specs.working.Lists.{IsList}
use Rattle.lists.specs.working.Sums.{sum_at}
use Rattle.lists.proofs.Entries.{energy_rises_far, time_falls_far}
use Rattle.spans.proofs.TableLaws.{EnergiesRise}
use Rattle.joins.specs.Form.{most_number}
use Rattle.unbeaten.specs.working.Noting.{sums_with}

-- ---- One entry

module _ {more_times more_energies : List ℕ} (second : IsList most_number more_times more_energies) where
  -- a later entry takes no longer
  no_slower : (a b : ℕ) → a ≤ b → b < length more_times → get_or more_times b 0 ≤ get_or more_times a 0
  no_slower a b h g = pick (ℕ_discrete a b)
    where
      pick : Dec (a ≡ b) → get_or more_times b 0 ≤ get_or more_times a 0
      pick (yes e) = rw e (omega arith)
      pick (no apart) = omega (arith, time_falls_far second a b (omega arith) g)

  -- and has no less energy
  no_cheaper : (a b : ℕ) → a ≤ b → b < length more_energies → get_or more_energies a 0 ≤ get_or more_energies b 0
  no_cheaper a b h g = pick (ℕ_discrete a b)
    where
      pick : Dec (a ≡ b) → get_or more_energies a 0 ≤ get_or more_energies b 0
      pick (yes e) = rw e (omega arith)
      pick (no apart) = omega (arith, energy_rises_far second a b (omega arith) g)

  -- the sums of one entry fall in time
  pub with_falls :
      (t e : ℕ) {end : ℕ} → end ≤ length more_times → (a b : ℕ) → a ≤ b → b < end →
      time energy (sums_with t e more_times more_energies b) ≤ time energy (sums_with t e more_times more_energies a)
  with_falls t e inside a b h g = omega (arith, no_slower a b h (omega arith))

-- ---- All sums

module _ {times energies more_times more_energies : List ℕ} (first : IsList most_number times energies) (second : IsList most_number more_times more_energies) where
  -- the energies of the sums rise with those of the lists
  pub sums_rise : EnergiesRise (sum_at times energies more_times more_energies) (length times) (length more_times)
  sums_rise =
      record {
        near_rise = λ a b j h g. omega (arith, no_cheaper first a b h (omega (arith, first.one_length)));
        far_rise = λ i a b h g. omega (arith, no_cheaper second a b h (omega (arith, second.one_length)));
      }
