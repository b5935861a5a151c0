-- What a label file is refused by, 11 to 17 (SCOPE 4.3).
use Rattle.std.specs.Prelude.{Bool, true, ◌&&◌, List, ℕ, leb, eqb, length}
use Rattle.refusals.specs.Order.{unless, decided, every}
use Rattle.file_bytes.specs.Bytes.{marked}
use Rattle.network.specs.declared.versions.Served.{Served}
use Rattle.network.specs.Versions.{served}
use Rattle.network.specs.NetworkFile.{header_bytes, version_of, junctions_of, roads_of, identity_of}
use Rattle.forest.specs.LabelFile.{entries_of, lists_from}
use Rattle.forest.specs.Forest.{parents_pass, road_joins}
use Rattle.stored.specs.Stored.{lists_of, place_of, entries_before}
use Rattle.stored.specs.ListForm.{most_bytes, lists_number}

-- ---- The parts, between which 14 and 16 stand

-- The header's tests: 11, 12, 13
unfoldable pub header_form : Served → List ℕ → ℕ
header_form serves labels =
    unless (leb header_bytes (length labels) && leb (length labels) most_bytes) 11
    (unless (marked 84 76 66 labels) 12
    (unless (served serves (version_of labels)) 13
    0))

-- The parents' tests: 11 if they are cut off, 15
unfoldable pub parents_form : List ℕ → ℕ
parents_form labels =
    unless (leb (lists_from labels) (length labels)) 11
    (unless (parents_pass labels) 15
    0)

-- The lists' tests, then bytes left over, 11, and a wrong E, 17
unfoldable pub lists_form : List ℕ → ℕ
lists_form labels =
    decided (lists_number labels)
    (unless (eqb (place_of labels (lists_of labels)) (length labels)) 11
    (unless (eqb (entries_before labels (lists_of labels)) (entries_of labels)) 17
    0))

-- ---- The whole

-- The labels' number (SCOPE 4.3), for the versions that are served. What 14 and 16 ask depends on whether there is a network.
unfoldable pub label_form : Served → Bool → Bool → List ℕ → ℕ
label_form serves fits joins labels =
    decided (header_form serves labels)
    (unless fits 14
    (decided (parents_form labels)
    (unless joins 16
    (lists_form labels))))

-- 14: of one network
unfoldable pub same_network : List ℕ → List ℕ → Bool
same_network net labels = eqb (junctions_of labels) (junctions_of net) && eqb (identity_of labels) (identity_of net)

-- The number of labels beside a network that passed
unfoldable pub labels_number : Served → List ℕ → List ℕ → ℕ
labels_number serves net labels = label_form serves (same_network net labels) (every (road_joins net labels) (roads_of net)) labels

-- Labels without a network: 14 asks for their own n
abbrev pub junctions_fit : List ℕ → Bool
junctions_fit labels = leb 1 (junctions_of labels) && leb (junctions_of labels) 1024

unfoldable pub labels_number_alone : Served → List ℕ → ℕ
labels_number_alone serves labels = label_form serves (junctions_fit labels) true labels
