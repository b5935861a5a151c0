-- The check's number is at most 18. In this order: a bound through the order of tests; the network; the labels; the check.
use mathlib.Core.Bool.{Bool, true, false, ◌&&◌}
use mathlib.Core.Path.{◌≡◌}
use mathlib.Core.List.{List}
use Prim.Native.Nat.{ℕ, zero, suc, ◌≤◌}
use native.Mathlib.Omega.{arith}
use lib.Dec.{leb, eqb}
use lib.ListN.{length}
use Rattle.refusals.specs.Order.{unless, decided, every, first_fault}
use Rattle.file_bytes.specs.Bytes.{marked}
use Rattle.network.specs.declared.versions.Served.{Served}
use Rattle.network.specs.Versions.{version_one, served}
use Rattle.network.specs.NetworkFile.{version_of, roads_of, record_at}
use Rattle.network.specs.NetworkNumber.{ends_fit, figures_fit, record_number, sizes_fit, header_number, net_number}
use Rattle.forest.specs.LabelFile.{entries_of, lists_from, count_at, count_end, time_end, energy_end}
use Rattle.forest.specs.Forest.{parents_pass, road_joins}
use Rattle.stored.specs.Stored.{lists_of, place_of, entries_before}
use Rattle.stored.specs.ListForm.{most_bytes, most_count, time_fits, energy_fits, entry_number, list_number, lists_number}
use Rattle.files.specs.LabelForm.{header_form, parents_form, lists_form, label_form, same_network, labels_number}
use Rattle.accepted.specs.Check.{Checked, network_refused, labels_refused, list_wrong, accepted, CheckRefused}

-- ---- A bound through the order of tests

module _ {most : ℕ} where
  none-most : 0 ≤ most
  none-most = omega arith

  unless-most : (test : Bool) (number : ℕ) {next : ℕ} → number ≤ most → next ≤ most → unless test number next ≤ most
  unless-most true number h k = k
  unless-most false number h k = h

  decided-most : (first : ℕ) {next : ℕ} → first ≤ most → next ≤ most → decided first next ≤ most
  decided-most zero h k = k
  decided-most (suc first) h k = h

  first-fault-most : (fault : ℕ → ℕ) → ((k : ℕ) → fault k ≤ most) → (k left : ℕ) → first_fault fault k left ≤ most
  unfolding first_fault
  first-fault-most fault each k zero = omega arith
  first-fault-most fault each k (suc left) = decided-most (fault k) (each k) (first-fault-most fault each (suc k) left)

-- ---- The network

record-most : (net : List ℕ) (k : ℕ) → record_number net k ≤ 18
unfolding record_number
record-most net k = unless-most (ends_fit net k) 5 (omega arith) (unless-most (figures_fit net k) 6 (omega arith) none-most)

header-most : (serves : Served) (net : List ℕ) → header_number serves net ≤ 18
unfolding header_number
header-most serves net =
    unless-most (leb 16 (length net)) 1 (omega arith)
    (unless-most (marked 84 82 78 net) 2 (omega arith)
    (unless-most (served serves (version_of net)) 3 (omega arith)
    (unless-most (sizes_fit net) 4 (omega arith)
    (unless-most (eqb (length net) (record_at net (roads_of net) 0)) 1 (omega arith) none-most))))

network-most : (serves : Served) (net : List ℕ) → net_number serves net ≤ 18
unfolding net_number
network-most serves net = decided-most (header_number serves net) (header-most serves net) (first-fault-most (record_number net) (record-most net) 0 (roads_of net))

-- ---- The labels

entry-most : (labels : List ℕ) (at j : ℕ) → entry_number labels at j ≤ 18
unfolding entry_number
entry-most labels at j =
    unless-most (leb (time_end labels at j) (length labels)) 11 (omega arith)
    (unless-most (time_fits labels at j) 17 (omega arith)
    (unless-most (leb (energy_end labels at j) (length labels)) 11 (omega arith)
    (unless-most (energy_fits labels at j) 17 (omega arith) none-most)))

list-most : (labels : List ℕ) (at : ℕ) → list_number labels at ≤ 18
unfolding list_number
list-most labels at =
    unless-most (leb (count_end at) (length labels)) 11 (omega arith)
    (unless-most (leb (count_at labels at) most_count) 17 (omega arith)
    (first-fault-most (entry_number labels at) (entry-most labels at) 0 (count_at labels at)))

lists-most : (labels : List ℕ) → lists_form labels ≤ 18
unfolding lists_form lists_number
lists-most labels =
    decided-most (lists_number labels)
    (first-fault-most (λ g. list_number labels (place_of labels g)) (λ g. list-most labels (place_of labels g)) 0 (lists_of labels))
    (unless-most (eqb (place_of labels (lists_of labels)) (length labels)) 11 (omega arith)
    (unless-most (eqb (entries_before labels (lists_of labels)) (entries_of labels)) 17 (omega arith) none-most))

parents-most : (labels : List ℕ) → parents_form labels ≤ 18
unfolding parents_form
parents-most labels =
    unless-most (leb (lists_from labels) (length labels)) 11 (omega arith) (unless-most (parents_pass labels) 15 (omega arith) none-most)

label_header_most : (serves : Served) (labels : List ℕ) → header_form serves labels ≤ 18
unfolding header_form
label_header_most serves labels =
    unless-most (leb 16 (length labels) && leb (length labels) most_bytes) 11 (omega arith)
    (unless-most (marked 84 76 66 labels) 12 (omega arith)
    (unless-most (served serves (version_of labels)) 13 (omega arith) none-most))

form_most : (serves : Served) (fits joins : Bool) (labels : List ℕ) → label_form serves fits joins labels ≤ 18
unfolding label_form
form_most serves fits joins labels =
    decided-most (header_form serves labels) (label_header_most serves labels)
    (unless-most fits 14 (omega arith)
    (decided-most (parents_form labels) (parents-most labels)
    (unless-most joins 16 (omega arith) (lists-most labels))))

labels-most : (serves : Served) (net labels : List ℕ) → labels_number serves net labels ≤ 18
unfolding labels_number
labels-most serves net labels = form_most serves (same_network net labels) (every (road_joins net labels) (roads_of net)) labels

-- ---- The check

module _ {net labels : List ℕ} {number : ℕ} where
  check_most : Checked net labels number → number ≤ 18
  check_most (network_refused n e) = omega (arith, network-most version_one net)
  check_most (labels_refused z n e) = omega (arith, labels-most version_one net labels)
  check_most (list_wrong z y w e) = omega arith
  check_most (accepted z y w e) = omega arith

  -- a number of the check that is not 0 is one of 1 to 18
  pub check_refused : Checked net labels number → (number ≡ 0 → ⊥) → CheckRefused net labels number
  check_refused checked some = record { some_number = omega arith; at_most = check_most checked; checked = checked }
