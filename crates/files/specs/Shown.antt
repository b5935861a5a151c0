-- Show (SCOPE 5.7).
use Rattle.std.specs.Prelude.{◌≡◌, List, [], ℕ, ◌-◌, ◌<◌, take, drop}
use Rattle.paths.specs.Forest.{Above}
use Rattle.network.specs.Versions.{version_one}
use Rattle.network.specs.NetworkFile.{junctions_of}
use Rattle.forest.specs.LabelFile.{parents_of, list_end}
use Rattle.stored.specs.Stored.{list_place}
use Rattle.files.specs.LabelForm.{labels_number_alone}

-- What must hold for a list to be handed out
pub record Shows (labels : List ℕ) (v u : ℕ) : Type 0 where
  pub formed : labels_number_alone version_one labels ≡ 0
  pub junction : v < junctions_of labels
  pub ancestor_junction : u < junctions_of labels
  pub proper_ancestor : Above (parents_of labels) u v

pub data Shown (labels : List ℕ) (v u : ℕ) (part : List ℕ) : Type 0 where
  nothing : (Shows labels v u → ⊥) → part ≡ [] → Shown labels v u part
  bytes : Shows labels v u → part ≡ take (list_end labels (list_place labels v u) - list_place labels v u) (drop (list_place labels v u) labels) → Shown labels v u part
