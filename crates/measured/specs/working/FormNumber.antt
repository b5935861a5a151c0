-- What the form check of both files answers.
use Rattle.std.specs.Prelude.{◌≡◌, List, ℕ}
use Rattle.network.specs.Versions.{version_one}
use Rattle.network.specs.NetworkNumber.{net_number}
use Rattle.files.specs.LabelForm.{labels_number}

-- The number of the network or, where that is 0, of the labels beside it
pub data FormNumber (net labels : List ℕ) (number : ℕ) : Type 0 where
  network_refused : (net_number version_one net ≡ 0 → ⊥) → number ≡ net_number version_one net → FormNumber net labels number
  network_passed : net_number version_one net ≡ 0 → number ≡ labels_number version_one net labels → FormNumber net labels number
