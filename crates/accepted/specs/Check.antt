-- Check (SCOPE 5.1, 4.3, 4.4).
use Rattle.std.specs.Prelude.{◌≡◌, List, ℕ, ◌≤◌}
use Rattle.network.specs.Versions.{version_one}
use Rattle.network.specs.NetworkNumber.{net_number}
use Rattle.files.specs.LabelForm.{labels_number}
use Rattle.stored.specs.Right.{EveryListRight}

module _ (net labels : List ℕ) (number : ℕ) where
  -- The network's number, then the labels', then 18 exactly if some list is not right (SCOPE 4.3, 4.4)
  pub data Checked : Type 0 where
    network_refused : (net_number version_one net ≡ 0 → ⊥) → number ≡ net_number version_one net → Checked
    labels_refused : net_number version_one net ≡ 0 → (labels_number version_one net labels ≡ 0 → ⊥) → number ≡ labels_number version_one net labels → Checked
    list_wrong : net_number version_one net ≡ 0 → labels_number version_one net labels ≡ 0 → (EveryListRight net labels → ⊥) → number ≡ 18 → Checked
    accepted : net_number version_one net ≡ 0 → labels_number version_one net labels ≡ 0 → EveryListRight net labels → number ≡ 0 → Checked

  -- The check refuses, by a number of 1 to 18 (SCOPE 4.2)
  pub record CheckRefused : Type 0 where
    pub some_number : 1 ≤ number
    pub at_most : number ≤ 18
    pub checked : Checked
