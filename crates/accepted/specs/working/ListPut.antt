-- A list known to its length, put into the lent places or not.
use Rattle.std.specs.Prelude.{◌≡◌, List, [], ◌∷◌, ℕ, ◌≤◌, ◌<◌, min, length}
use Rattle.paths.specs.Weights.{pair}
use Rattle.refusals.specs.Lent.{filled, ListRefused}
use Rattle.lists.specs.Entries.{Weight, times, energies}

-- The list of a junction and itself
abbrev pub itself : List Weight
itself = pair 0 0 ∷ []

module _ (list : List Weight) (times_before energies_before : List ℕ) (number count : ℕ) (times_after energies_after : List ℕ) where
  -- The list in the first of the lent places, or the reason why not
  pub data ListPut : Type 0 where
    too_long :
        min (length times_before) (length energies_before) < length list →
        ListRefused times_before energies_before number count times_after energies_after 24 →
        ListPut
    put :
        length list ≤ min (length times_before) (length energies_before) →
        number ≡ 0 → count ≡ length list → times_after ≡ filled times_before (times list) → energies_after ≡ filled energies_before (energies list) →
        ListPut
