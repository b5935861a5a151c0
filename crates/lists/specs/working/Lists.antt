-- Lists as the functions that work on them take them.
use Rattle.std.specs.Prelude.{◌≡◌, List, ℕ, suc, ◌≤◌, ◌<◌, length, get_or}
use Rattle.paths.specs.Weights.{pair}
use Rattle.lists.specs.Entries.{Weight}

-- More than the time or the energy of any sum that is asked for; two such numbers still have a sum of 32 bits
abbrev pub above_all : ℕ
above_all = 2147483647

-- Entry i
abbrev pub entry_at : List ℕ → List ℕ → ℕ → Weight
entry_at times energies i = pair (get_or times i 0) (get_or energies i 0)

-- Two slices of one length: energy rises, time falls, both strictly, and no number is above the most
pub record IsList (most : ℕ) (times energies : List ℕ) : Type 0 where
  pub one_length : length times ≡ length energies
  pub small_time : (i : ℕ) → i < length times → get_or times i 0 ≤ most
  pub small_energy : (i : ℕ) → i < length energies → get_or energies i 0 ≤ most
  pub energy_rises : (i : ℕ) → suc i < length energies → get_or energies i 0 < get_or energies (suc i) 0
  pub time_falls : (i : ℕ) → suc i < length times → get_or times (suc i) 0 < get_or times i 0
