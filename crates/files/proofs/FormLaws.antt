-- A label file that passed its form is formed.
-- In this order: the parts; the header; the parents; the lists; labels alone; labels beside a network.
use mathlib.Core.Path.{◌≡◌, sym}
use mathlib.Core.Bool.{Bool, true, ◌&&◌}
use mathlib.Core.List.{List}
use Prim.Native.Nat.{ℕ, ◌≤◌, ◌<◌}
use native.Mathlib.Omega.{arith}
use lib.Dec.{leb, eqb}
use lib.ListN.{length}
use borrow.Author.Tests.{leb-true, eqb-true}
use Rattle.refusals.specs.Order.{every}
use Rattle.refusals.proofs.Order.{unless-passed, decided-none, and_both}
use Rattle.network.specs.declared.versions.Served.{Served}
use Rattle.network.specs.NetworkFile.{junctions_of, roads_of, identity_of}
use Rattle.network.specs.working.Fits.{NetworkFits}
use Rattle.forest.specs.LabelFile.{entries_of, lists_from}
use Rattle.forest.specs.Forest.{parents_pass, road_joins}
use Rattle.stored.specs.Stored.{lists_of, place_of, entries_before}
use Rattle.stored.specs.ListForm.{most_bytes, lists_number}
use Rattle.files.specs.LabelForm.{header_form, parents_form, lists_form, label_form, same_network, labels_number, junctions_fit, labels_number_alone}
use Rattle.forest.specs.working.Fits.{ParentsFit}
use Rattle.stored.specs.working.Formed.{ListFits, Formed, FilesFit}
use Rattle.forest.proofs.Chains.{parents_fit}
use Rattle.stored.proofs.Lists.{lists_fit}

-- ---- The parts

-- Every part gives 0, and 14 and 16 are passed
pub record PartsPass (serves : Served) (fits joins : Bool) (labels : List ℕ) : Type 0 where
  pub header : header_form serves labels ≡ 0
  pub fits-passed : fits ≡ true
  pub parents : parents_form labels ≡ 0
  pub joins-passed : joins ≡ true
  pub lists : lists_form labels ≡ 0

pub parts_pass : (serves : Served) (fits joins : Bool) (labels : List ℕ) → label_form serves fits joins labels ≡ 0 → PartsPass serves fits joins labels
unfolding label_form
parts_pass serves fits joins labels e =
    let header = decided-none (header_form serves labels) _ e in
    let fourteen = unless-passed {test = fits} (λ z. omega arith) header.1 in
    let parents = decided-none (parents_form labels) _ fourteen.1 in
    let sixteen = unless-passed {test = joins} (λ z. omega arith) parents.1 in
    record {
      header = header.0;
      fits-passed = fourteen.0;
      parents = parents.0;
      joins-passed = sixteen.0;
      lists = sixteen.1;
    }

-- ---- The header

-- What a header that passed says
pub record HeaderFits (labels : List ℕ) : Type 0 where
  pub long : 16 ≤ length labels
  pub few_bytes : length labels ≤ most_bytes

pub header-fits : (serves : Served) (labels : List ℕ) → header_form serves labels ≡ 0 → HeaderFits labels
unfolding header_form
header-fits serves labels e =
    let size = unless-passed {test = leb 16 (length labels) && leb (length labels) most_bytes} (λ z. omega arith) e in
    let both = and_both (leb 16 (length labels)) (leb (length labels) most_bytes) size.0 in
    record {
      long = leb-true _ _ both.0;
      few_bytes = leb-true _ _ both.1;
    }

-- ---- The parents

-- parents whose number is 0 are fit to be read further
pub parents_form_fit : {labels : List ℕ} → junctions_of labels ≤ 1024 → parents_form labels ≡ 0 → ParentsFit labels
unfolding parents_form
parents_form_fit {labels} few e =
    let inside = unless-passed {test = leb (lists_from labels) (length labels)} (λ z. omega arith) e in
    let passes = unless-passed {test = parents_pass labels} {next = 0} (λ z. omega arith) inside.1 in
    parents_fit (record { few_junctions = few; inside = leb-true _ _ inside.0 }) passes.0

-- ---- The lists

-- What lists that passed say
pub record AllListsFit (labels : List ℕ) : Type 0 where
  pub lists : (g : ℕ) → g < lists_of labels → ListFits labels (place_of labels g)
  pub tile : place_of labels (lists_of labels) ≡ length labels
  pub all_entries : entries_before labels (lists_of labels) ≡ entries_of labels

pub lists_form_fit : (labels : List ℕ) → lists_form labels ≡ 0 → AllListsFit labels
unfolding lists_form
lists_form_fit labels e =
    let number = decided-none (lists_number labels) _ e in
    let tile = unless-passed {test = eqb (place_of labels (lists_of labels)) (length labels)} (λ z. omega arith) number.1 in
    let entries = unless-passed {test = eqb (entries_before labels (lists_of labels)) (entries_of labels)} {next = 0} (λ z. omega arith) tile.1 in
    record {
      lists = λ g h. lists_fit labels number.0 h;
      tile = eqb-true _ _ tile.0;
      all_entries = eqb-true _ _ entries.0;
    }

-- what all parts say together
pub parts_formed : {serves : Served} {fits joins : Bool} {labels : List ℕ} → PartsPass serves fits joins labels → 1 ≤ junctions_of labels → junctions_of labels ≤ 1024 → Formed labels
parts_formed {serves} {labels = labels} p some few =
    let lists = lists_form_fit labels p.lists in
    record {
      few_bytes = (header-fits serves labels p.header).few_bytes;
      some_junction = some;
      parents = parents_form_fit few p.parents;
      lists = lists.lists;
      tile = lists.tile;
      all_entries = lists.all_entries;
    }

-- ---- Labels alone

-- n is 1 to 1,024
pub junctions_fit_few : (labels : List ℕ) → junctions_fit labels ≡ true → (1 ≤ junctions_of labels) × (junctions_of labels ≤ 1024)
junctions_fit_few labels e =
    let both = and_both (leb 1 (junctions_of labels)) (leb (junctions_of labels) 1024) e in (leb-true _ _ both.0, leb-true _ _ both.1)

-- labels that pass alone are formed
pub alone-formed : (serves : Served) (labels : List ℕ) → labels_number_alone serves labels ≡ 0 → Formed labels
unfolding labels_number_alone
alone-formed serves labels e =
    let parts = parts_pass serves (junctions_fit labels) true labels e in
    let few = junctions_fit_few labels parts.fits-passed in
    parts_formed parts few.0 few.1

-- ---- Labels beside a network

-- the two files have one n
pub same-network-size : (net labels : List ℕ) → same_network net labels ≡ true → junctions_of net ≡ junctions_of labels
unfolding same_network
same-network-size net labels e =
    let both = and_both (eqb (junctions_of labels) (junctions_of net)) (eqb (identity_of labels) (identity_of net)) e in sym (eqb-true _ _ both.0)

-- labels that pass beside a network stand beside it
pub files_fit : (serves : Served) {net : List ℕ} (labels : List ℕ) → NetworkFits net → labels_number serves net labels ≡ 0 → FilesFit net labels
unfolding labels_number
files_fit serves {net} labels network e =
    let parts = parts_pass serves (same_network net labels) (every (road_joins net labels) (roads_of net)) labels e in
    let same = same-network-size net labels parts.fits-passed in
    record {
      network = network;
      formed = parts_formed parts (omega (arith, network.some_junction, same)) (omega (arith, network.few_junctions, same));
      one_map = same;
      joins = parts.joins-passed;
    }
