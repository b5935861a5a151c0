-- What the functions that test a label file hand back.
use Rattle.std.specs.Prelude.{◌≡◌, Bool, true, List, ℕ, length, Option, MatchOption}
use Rattle.std.specs.Borrow.{Bor}
use Rattle.tables.specs.working.Layout.{table_places}
use Rattle.network.specs.declared.versions.Served.{Served}
use Rattle.refusals.specs.Order.{every}
use Rattle.network.specs.NetworkFile.{roads_of}
use Rattle.forest.specs.Forest.{road_joins}
use Rattle.files.specs.LabelForm.{same_network, junctions_fit, parents_form, lists_form, labels_number, labels_number_alone}
use Rattle.forest.specs.working.Fits.{DepthsFilled}
use Rattle.stored.specs.working.Formed.{Formed, FilesFit, StartsFilled}

-- What 14 and 16 ask, beside a network or alone
abbrev pub FitsTested : Option (Bor (List ℕ)) → List ℕ → Bool → Type 0
FitsTested net labels r = MatchOption net (r ≡ junctions_fit labels) (λ beside. r ≡ same_network beside.now labels)

abbrev pub RoadsTested : Option (Bor (List ℕ)) → List ℕ → Bool → Type 0
RoadsTested net labels r = MatchOption net (r ≡ true) (λ beside. r ≡ every (road_joins beside.now labels) (roads_of beside.now))

-- r is the number of the parents; where it is 0 the depths are filled
pub record ParentsNumbered (labels depths : List ℕ) (r : ℕ) : Type 0 where
  pub number : r ≡ parents_form labels
  pub filled : r ≡ 0 → DepthsFilled labels depths
  pub places : length depths ≡ 1024

-- r is the number of the lists; where it is 0 the starts are filled
pub record ListsNumbered (labels tables : List ℕ) (r : ℕ) : Type 0 where
  pub number : r ≡ lists_form labels
  pub filled : r ≡ 0 → StartsFilled labels tables
  pub places : length tables ≡ table_places

-- r is the file's number, `form`; where it is 0 both tables are filled, and they keep their lengths
pub record FormRead (labels depths tables : List ℕ) (form r : ℕ) : Type 0 where
  pub number : r ≡ form
  pub depths_filled : r ≡ 0 → DepthsFilled labels depths
  pub starts_filled : r ≡ 0 → StartsFilled labels tables
  pub depth_places : length depths ≡ 1024
  pub has_table_places : length tables ≡ table_places

-- What is told of labels alone
pub record LabelsNumberedAlone (serves : Served) (labels depths tables : List ℕ) (r : ℕ) : Type 0 where
  pub read : FormRead labels depths tables (labels_number_alone serves labels) r
  pub formed : r ≡ 0 → Formed labels

-- What is told of labels beside a network
pub record LabelsNumbered (serves : Served) (net labels depths tables : List ℕ) (r : ℕ) : Type 0 where
  pub read : FormRead labels depths tables (labels_number serves net labels) r
  pub fit : r ≡ 0 → FilesFit net labels

-- What `test_labels` tells by its number r
abbrev pub LabelsTested : Served → Option (Bor (List ℕ)) → List ℕ → List ℕ → List ℕ → ℕ → Type 0
LabelsTested serves net labels depths tables r =
    MatchOption net
    (LabelsNumberedAlone serves labels depths tables r)
    (λ beside. LabelsNumbered serves beside.now labels depths tables r)
