-- Lent slices (SCOPE 5.4): the first places are filled, later ones stay.
use Rattle.std.specs.Prelude.{◌≡◌, List, ◌++◌, ℕ, length, drop}

-- What a lent slice holds after its first places were filled with `new`
unfoldable pub filled : List ℕ → List ℕ → List ℕ
filled old new = new ++ drop (length new) old

module _ (times_before energies_before : List ℕ) (number count : ℕ) (times_after energies_after : List ℕ) where
  -- A call that writes a list, refused by a number: no count beside it, and no lent place has changed
  pub record ListRefused (by : ℕ) : Type 0 where
    pub number_is : number ≡ by
    pub no_count : count ≡ 0
    pub times_stay : times_after ≡ times_before
    pub energies_stay : energies_after ≡ energies_before
