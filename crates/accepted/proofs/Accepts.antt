-- The ways through the check: refused by the network, refused by the labels' form, a wrong list, accepted.
use mathlib.Core.Path.{◌≡◌, refl, sym, ◌∙◌}
use mathlib.Core.Bool.{Bool, true, false}
use mathlib.Core.List.{List}
use Prim.Native.Nat.{ℕ}
use native.Mathlib.Omega.{arith}
use lib.ListN.{length}
use Rattle.tables.specs.working.Layout.{firsts_from, order_from, table_places, StaysBelow}
use Rattle.tables.proofs.Stays.{stays-lower}
use Rattle.refusals.specs.working.Decides.{Decides}
use Rattle.network.specs.Versions.{version_one}
use Rattle.network.specs.NetworkNumber.{net_number}
use Rattle.network.specs.working.Fits.{NetworkFits}
use Rattle.network.specs.working.Roads.{Grouped}
use Rattle.network.specs.declared.versions.Served.{Served}
use Rattle.network.proofs.Accepted.{network-fits}
use Rattle.network.proofs.GroupedRoads.{grouped-stays}
use Rattle.forest.specs.working.Fits.{DepthsFilled}
use Rattle.preorder.specs.working.Numbered.{Numbered}
use Rattle.stored.specs.working.Formed.{StartsFilled, Tables, FilesFit}
use Rattle.stored.proofs.Places.{starts_stay}
use Rattle.files.specs.working.FormRead.{LabelsNumbered}
use Rattle.stored.specs.Right.{EveryListRight}
use Rattle.accepted.specs.Check.{Checked, network_refused, labels_refused, list_wrong, accepted}
use Rattle.accepted.specs.working.Accepting.{Accepting}

-- the check serves version 1
pub serves_one : (net : List ℕ) {number : ℕ} {serves : Served} → serves ≡ version_one → number ≡ net_number serves net → number ≡ net_number version_one net
serves_one net one is = rw one at is

pub labels_serve_one :
    {net labels depths tables : List ℕ} {r : ℕ} {serves : Served} → serves ≡ version_one → LabelsNumbered serves net labels depths tables r →
    LabelsNumbered version_one net labels depths tables r
labels_serve_one one told = rw one at told

-- a network that passed has no number
pub network_passes : {net : List ℕ} {number : ℕ} → number ≡ net_number version_one net → number ≡ 0 → NetworkFits net
network_passes {net} is none = network-fits version_one net (sym is ∙ none)

-- starts, then roads, then the numbering: what is filled later leaves what was filled before
pub all_filled :
    {net labels depths started grouped tables : List ℕ} → FilesFit net labels → DepthsFilled labels depths → StartsFilled labels started →
    Grouped net grouped → StaysBelow firsts_from started grouped → Numbered labels tables → StaysBelow order_from grouped tables →
    Tables net labels depths tables
all_filled fit depths_filled starts roads starts-kept numbered roads-kept =
    record {
      depths_filled = depths_filled;
      starts_filled =
          starts_stay fit.formed.parents.few_junctions (stays-lower (omega arith) roads-kept)
          (starts_stay fit.formed.parents.few_junctions starts-kept starts);
      grouped = grouped-stays fit.network roads-kept roads;
      numbered = numbered;
    }

module _ {net labels depths tables : List ℕ} where
  pub network_refuses :
      {r : ℕ} → r ≡ net_number version_one net → (r ≡ 0 → ⊥) → length depths ≡ 1024 → length tables ≡ table_places → Accepting net labels r depths tables
  network_refuses is some d t =
      record { checked = network_refused (λ z. some (is ∙ z)) is; filled = λ z. absurd (some z); depths_length = d; tables_length = t }

  pub labels_refuse :
      {r : ℕ} (number : ℕ) → number ≡ net_number version_one net → number ≡ 0 → LabelsNumbered version_one net labels depths tables r → (r ≡ 0 → ⊥) →
      Accepting net labels r depths tables
  labels_refuse number is none form some =
      record {
        checked = labels_refused (sym is ∙ none) (λ z. some (form.read.number ∙ z)) form.read.number;
        filled = λ z. absurd (some z);
        depths_length = form.read.depth_places;
        tables_length = form.read.has_table_places;
      }

module _
    {net labels depths started tables : List ℕ}
    (number r : ℕ)
    (is : number ≡ net_number version_one net)
    (none : number ≡ 0)
    (form : LabelsNumbered version_one net labels depths started r)
    (passes : r ≡ 0)
    (filled : Tables net labels depths tables)
  where
    accepting : {answer : ℕ} → Checked net labels answer → Accepting net labels answer depths tables
    accepting checked =
        record { checked = checked; filled = λ z. filled; depths_length = form.read.depth_places; tables_length = filled.grouped.places }

    pub all_right : {b : Bool} → Decides (EveryListRight net labels) b → b ≡ true → Accepting net labels 0 depths tables
    all_right decides yes-right =
        accepting (accepted (sym is ∙ none) (sym form.read.number ∙ passes) (decides.holds yes-right) refl)

    pub some_wrong : {b : Bool} → Decides (EveryListRight net labels) b → b ≡ false → Accepting net labels 18 depths tables
    some_wrong decides wrong =
        accepting (list_wrong (sym is ∙ none) (sym form.read.number ∙ passes) (decides.fails wrong) refl)
