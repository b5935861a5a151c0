-- What is counted of a list that is told, and what is left in the places lent for it. There is one such list, so that it needs no name.
use Rattle.std.specs.Prelude.{◌≡◌, List, ℕ, length}
use Rattle.refusals.specs.Lent.{filled}
use Rattle.lists.specs.Entries.{Weight, times, energies}

-- A list of this kind
pub record SomeList (Is : List Weight → Type 0) : Type 0 where
  pub list : List Weight
  pub right : Is list

-- It has so many entries
pub record Counted (Is : List Weight → Type 0) (count : ℕ) : Type 0 where
  pub list : List Weight
  pub right : Is list
  pub counted : count ≡ length list

-- It stands in the first places, later ones as before
pub record ListWritten (Is : List Weight → Type 0) (times_before energies_before : List ℕ) (count : ℕ) (times_after energies_after : List ℕ) : Type 0 where
  pub list : List Weight
  pub right : Is list
  pub counted : count ≡ length list
  pub times_filled : times_after ≡ filled times_before (times list)
  pub energies_filled : energies_after ≡ filled energies_before (energies list)
