-- The tests of a label file one by one, in the shape in which the code meets them.
-- In this order: the header; 14, beside a network; the parents; the lists; the parts together; beside a network, or alone.
use Rattle.std.specs.Prelude.{Option, IfSome, Ok, Err}
use Rattle.std.specs.declared.option.Option.TheVariants.{Some, None}
use Rattle.std.proofs.Common.{Bor}
use mathlib.Core.Path.{◌≡◌, refl, sym, ◌∙◌}
use mathlib.Core.Bool.{Bool, true, false}
use mathlib.Core.List.{List}
use Prim.Native.Nat.{ℕ, ◌≤◌, ◌<◌}
use native.Mathlib.Omega.{arith}
use lib.Dec.{eqb}
use lib.ListN.{length}
use borrow.Author.Tests.{le-leb, lt-leb, eq-eqb, ne_eqb}
use Rattle.tables.specs.working.Layout.{table_places}
use Rattle.refusals.specs.Order.{unless, every}
use Rattle.refusals.proofs.Order.{decided-more}
use Rattle.file_bytes.specs.Bytes.{marked}
use Rattle.network.specs.declared.versions.Served.{Served}
use Rattle.network.specs.Versions.{served}
use Rattle.file_bytes.specs.working.Reads.{Read16}
use Rattle.network.specs.NetworkFile.{version_of, junctions_of, roads_of, identity_of}
use Rattle.network.specs.working.Fits.{NetworkFits}
use Rattle.forest.specs.LabelFile.{entries_of, lists_from}
use Rattle.forest.specs.Forest.{road_joins}
use Rattle.stored.specs.ListForm.{most_bytes}
use Rattle.files.specs.LabelForm.{header_form, parents_form, lists_form, label_form, same_network, labels_number, junctions_fit, labels_number_alone}
use Rattle.forest.specs.working.Fits.{ParentsFit}
use Rattle.forest.specs.working.ParentsRead.{ParentsTested}
use Rattle.stored.specs.declared.refusal.LabelRefusal.{LabelRefusal}
use Rattle.stored.specs.declared.stored.Scanned.{Scanned}
use Rattle.stored.specs.Refusal.{refusal_number}
use Rattle.stored.specs.working.Scanned.{ScannedAll}
use Rattle.stored.proofs.Refusals.{refuses}
use Rattle.files.specs.working.FormRead.{FitsTested, RoadsTested, ParentsNumbered, ListsNumbered, FormRead, LabelsTested}
use Rattle.files.proofs.FormLaws.{
  header-fits,
  parents_form_fit,
  junctions_fit_few,
  alone-formed,
  same-network-size,
  files_fit,
}

-- ---- The header

module _ (serves : Served) (labels : List ℕ) where
  -- 11, under 16 bytes
  pub header_short : length labels < 16 → 11 ≡ header_form serves labels
  unfolding header_form
  header_short h = rw (lt-leb 16 (length labels) h)

  module _ (long : 16 ≤ length labels) where
    -- 11, over the most
    pub header_huge : most_bytes < length labels → 11 ≡ header_form serves labels
    unfolding header_form
    header_huge h = rw (le-leb 16 (length labels) long, lt-leb (length labels) most_bytes h)

    module _ (few : length labels ≤ most_bytes) where
      -- 12
      pub header_unmarked : false ≡ marked 84 76 66 labels → 12 ≡ header_form serves labels
      unfolding header_form
      header_unmarked mark = rw (le-leb 16 (length labels) long, le-leb (length labels) most_bytes few, ← mark)

      module _ (mark : true ≡ marked 84 76 66 labels) {version : ℕ} (version-is : Read16 (version_of labels) version) where
        -- 13
        pub header_unserved : false ≡ served serves version → 13 ≡ header_form serves labels
        unfolding header_form
        header_unserved known = rw (le-leb 16 (length labels) long, le-leb (length labels) most_bytes few, ← mark, ← version-is.is, ← known)

        -- no fault
        pub header_passes : true ≡ served serves version → 0 ≡ header_form serves labels
        unfolding header_form
        header_passes known = rw (le-leb 16 (length labels) long, le-leb (length labels) most_bytes few, ← mark, ← version-is.is, ← known)

-- a header that passed can be read, and says that the file is not too long
module _ (serves : Served) (labels : List ℕ) (passes : 0 ≡ header_form serves labels) where
  pub header_long : 16 ≤ length labels
  header_long = (header-fits serves labels (sym passes)).long

  pub header_few : length labels ≤ most_bytes
  header_few = (header-fits serves labels (sym passes)).few_bytes

-- ---- 14, beside a network

module _ (net labels : List ℕ) {n junctions : ℕ} (n-is : Read16 (junctions_of labels) n) (junctions-is : Read16 (junctions_of net) junctions) where
  -- n differs
  pub other_size : (n ≡ junctions → ⊥) → eqb n junctions ≡ same_network net labels
  unfolding same_network
  other_size apart = rw (← n-is.is, ← junctions-is.is, ne_eqb n junctions apart)

  -- one n, and the identity decides
  pub same_size : {identity asked : ℕ} → n ≡ junctions → identity ≡ identity_of labels → asked ≡ identity_of net → eqb identity asked ≡ same_network net labels
  unfolding same_network
  same_size e identity-is asked_is = rw (← n-is.is, ← junctions-is.is, eq-eqb n junctions e, ← identity-is, ← asked_is)

-- ---- The parents

module _ (labels : List ℕ) {from : ℕ} (from_is : from ≡ lists_from labels) where
  -- 11, cut off
  pub parents_cut : {depths : List ℕ} → length labels < from → length depths ≡ 1024 → ParentsNumbered labels depths 11
  unfolding parents_form
  parents_cut h places =
      record {
        number = rw (lt-leb (lists_from labels) (length labels) (omega arith));
        filled = λ z. absurd (omega arith);
        places = places;
      }

  module _ (inside : from ≤ length labels) {depths : List ℕ} where
    -- 15
    pub parents_misfit : ParentsTested labels depths false → ParentsNumbered labels depths 15
    unfolding parents_form
    parents_misfit tested =
        record {
          number = rw (le-leb (lists_from labels) (length labels) (omega arith), ← tested.is);
          filled = λ z. absurd (omega arith);
          places = tested.places;
        }

    -- no fault
    pub parents_pass_lem : ParentsTested labels depths true → ParentsNumbered labels depths 0
    unfolding parents_form
    parents_pass_lem tested =
        record {
          number = rw (le-leb (lists_from labels) (length labels) (omega arith), ← tested.is);
          filled = λ z. tested.filled refl;
          places = tested.places;
        }

-- parents whose number is 0 are fit to be read further
pub numbered_fit : {labels depths : List ℕ} → junctions_of labels ≤ 1024 → ParentsNumbered labels depths 0 → ParentsFit labels
numbered_fit few numbered = parents_form_fit few (sym numbered.number)

-- ---- The lists

module _ {labels : List ℕ} {starts : List ℕ} where
  -- 11 or 17 among the lists
  pub lists_fault : {refusal : LabelRefusal} → ScannedAll labels starts (Err refusal) → ListsNumbered labels starts (refusal_number refusal)
  unfolding lists_form
  lists_fault {refusal} scanned =
      record {
        number = rw (← scanned.is) (sym (decided-more _ (refuses refusal)));
        filled = λ z. absurd (refuses refusal z);
        places = scanned.places;
      }

  module _ {scan : Scanned} (scanned : ScannedAll labels starts (Ok scan)) where
    -- what is left after the lists
    after-lists : lists_form labels ≡ unless (eqb scan.at (length labels)) 11 (unless (eqb scan.total (entries_of labels)) 17 0)
    unfolding lists_form
    after-lists = rw (← scanned.is, ← scanned.passed.behind, ← scanned.passed.sum)

    -- 11, bytes left
    pub lists_bytes_left : (scan.at ≡ length labels → ⊥) → ListsNumbered labels starts 11
    lists_bytes_left apart =
        record { number = rw (after-lists, ne_eqb scan.at (length labels) apart); filled = λ z. absurd (omega arith); places = scanned.places }

    module _ (ends : scan.at ≡ length labels) {entries : ℕ} (entries-is : entries ≡ entries_of labels) where
      -- 17, wrong E
      pub lists_entries : (scan.total ≡ entries → ⊥) → ListsNumbered labels starts 17
      lists_entries apart =
          record {
            number = rw (after-lists, eq-eqb scan.at (length labels) ends, ← entries-is, ne_eqb scan.total entries apart);
            filled = λ z. absurd (omega arith);
            places = scanned.places;
          }

      -- no fault
      pub lists_pass : scan.total ≡ entries → ListsNumbered labels starts 0
      lists_pass e =
          record {
            number = rw (after-lists, eq-eqb scan.at (length labels) ends, ← entries-is, eq-eqb scan.total entries e);
            filled = λ z. scanned.passed.starts_filled;
            places = scanned.places;
          }

-- ---- The parts together

-- a number that refuses is the file's, whatever the tables hold
refused :
    {labels depths starts : List ℕ} {form r : ℕ} → r ≡ form → (r ≡ 0 → ⊥) → length depths ≡ 1024 → length starts ≡ table_places →
    FormRead labels depths starts form r
refused is fails depth_places start-places =
    record {
      number = is;
      depths_filled = λ z. absurd (fails z);
      starts_filled = λ z. absurd (fails z);
      depth_places = depth_places;
      has_table_places = start-places;
    }

module _ (serves : Served) (labels : List ℕ) (fits joins : Bool) where
  -- the header refuses
  pub read_header :
      {header : ℕ} {depths starts : List ℕ} → header ≡ header_form serves labels → (header ≡ 0 → ⊥) → length depths ≡ 1024 → length starts ≡ table_places →
      FormRead labels depths starts (label_form serves fits joins labels) header
  unfolding label_form
  read_header is fails = refused (rw (← is) (sym (decided-more _ fails))) fails

  module _ (header : 0 ≡ header_form serves labels) where
    -- 14
    pub read_misfit :
        {depths starts : List ℕ} → false ≡ fits → length depths ≡ 1024 → length starts ≡ table_places →
        FormRead labels depths starts (label_form serves fits joins labels) 14
    unfolding label_form
    read_misfit fails = refused (rw (← header, ← fails)) (λ z. omega arith)

    module _ (holds : true ≡ fits) {depths : List ℕ} where
      -- the parents refuse
      pub read_parents :
          {parents : ℕ} {starts : List ℕ} → ParentsNumbered labels depths parents → (parents ≡ 0 → ⊥) → length starts ≡ table_places →
          FormRead labels depths starts (label_form serves fits joins labels) parents
      unfolding label_form
      read_parents numbered fails = refused (rw (← header, ← holds, ← numbered.number) (sym (decided-more _ fails))) fails numbered.places

      module _ (numbered : ParentsNumbered labels depths 0) {starts : List ℕ} where
        -- 16
        pub read_unjoined : false ≡ joins → length starts ≡ table_places → FormRead labels depths starts (label_form serves fits joins labels) 16
        unfolding label_form
        read_unjoined fails = refused (rw (← header, ← holds, ← numbered.number, ← fails)) (λ z. omega arith) numbered.places

        -- the lists decide
        pub read_lists : {r : ℕ} → true ≡ joins → ListsNumbered labels starts r → FormRead labels depths starts (label_form serves fits joins labels) r
        unfolding label_form
        read_lists joined lists =
            record {
              number = rw (← header, ← holds, ← numbered.number, ← joined) lists.number;
              depths_filled = λ z. numbered.filled refl;
              starts_filled = lists.filled;
              depth_places = numbered.places;
              has_table_places = lists.places;
            }

-- ---- Beside a network, or alone

module _ (labels : List ℕ) where
  -- 14 and 16 have one answer
  pub one_fit : (net : Option (Bor (List ℕ))) {a b : Bool} → FitsTested net labels a → FitsTested net labels b → a ≡ b
  one_fit None e f = e ∙ sym f
  one_fit (Some beside) e f = e ∙ sym f

  pub one_join : (net : Option (Bor (List ℕ))) {a b : Bool} → RoadsTested net labels a → RoadsTested net labels b → a ≡ b
  one_join None e f = e ∙ sym f
  one_join (Some beside) e f = e ∙ sym f

  -- where 14 is passed there are at most 1,024 junctions, and as many as the network has
  pub fit_few : (net : Option (Bor (List ℕ))) → IfSome net (λ beside. NetworkFits beside.now) → FitsTested net labels true → junctions_of labels ≤ 1024
  fit_few None network fit = (junctions_fit_few labels (sym fit)).1
  fit_few (Some beside) network fit = omega (arith, same-network-size beside.now labels (sym fit), network.few_junctions)

  pub fit_size :
      (net : Option (Bor (List ℕ))) → IfSome net (λ beside. NetworkFits beside.now) → FitsTested net labels true →
      IfSome net (λ beside. NetworkFits beside.now × (junctions_of beside.now ≡ junctions_of labels))
  fit_size None network fit = tt
  fit_size (Some beside) network fit = (network, same-network-size beside.now labels (sym fit))

  -- what is read of a file's form, whatever stands beside it, says what it holds
  pub told :
      (serves : Served) {depths starts : List ℕ} {r : ℕ} (net : Option (Bor (List ℕ))) → IfSome net (λ beside. NetworkFits beside.now) →
      ((fits joins : Bool) → FitsTested net labels fits → RoadsTested net labels joins → FormRead labels depths starts (label_form serves fits joins labels) r) →
      LabelsTested serves net labels depths starts r
  unfolding labels_number labels_number_alone
  told serves None network read =
      record { read = read (junctions_fit labels) true refl refl; formed = λ z. alone-formed serves labels (sym (read (junctions_fit labels) true refl refl).number ∙ z) }
  told serves {depths} {starts} {r} (Some beside) network read = record { read = form; fit = λ z. files_fit serves labels network (sym form.number ∙ z) }
    where
      form : FormRead labels depths starts (labels_number serves beside.now labels) r
      form = read (same_network beside.now labels) (every (road_joins beside.now labels) (roads_of beside.now)) refl refl
