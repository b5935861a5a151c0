-- What the check leaves: its number, and the tables of one call.
use Rattle.std.specs.Prelude.{◌≡◌, List, ℕ, length}
use Rattle.tables.specs.working.Layout.{table_places}
use Rattle.network.specs.Versions.{version_one}
use Rattle.network.specs.NetworkNumber.{net_number}
use Rattle.stored.specs.working.Formed.{Tables}
use Rattle.stored.specs.Right.{EveryListRight}
use Rattle.files.specs.LabelForm.{labels_number}
use Rattle.accepted.specs.Check.{Checked}

-- A network and labels that pass every test
pub record Accepted (net labels : List ℕ) : Type 0 where
  pub network_passes : net_number version_one net ≡ 0
  pub form_passes : labels_number version_one net labels ≡ 0
  pub every_list_right : EveryListRight net labels

-- The check, with the tables of one call left filled where the number is 0
pub record Accepting (net labels : List ℕ) (number : ℕ) (depths tables : List ℕ) : Type 0 where
  pub checked : Checked net labels number
  pub filled : number ≡ 0 → Tables net labels depths tables
  pub depths_length : length depths ≡ 1024
  pub tables_length : length tables ≡ table_places
