-- The tests of a network file: which of them decides.
-- In this order: a refusal; what a header that passed says; the header decides, or the records do.
use mathlib.Core.Path.{◌≡◌, sym, ◌∙◌}
use mathlib.Core.Bool.{◌&&◌}
use mathlib.Core.List.{List}
use Prim.Native.Nat.{ℕ, ◌≤◌, ◌<◌}
use native.Mathlib.Omega.{arith}
use lib.Dec.{leb, eqb}
use lib.ListN.{length}
use borrow.Author.Tests.{leb-true, eqb-true}
use Rattle.refusals.specs.Order.{first_fault}
use Rattle.refusals.proofs.Order.{unless-passed, decided-more, and_both}
use Rattle.refusals.proofs.FaultLoop.{FaultsLeft, faults_here}
use Rattle.file_bytes.specs.Bytes.{marked}
use Rattle.network.specs.declared.versions.Served.{Served}
use Rattle.network.specs.declared.refusal.NetworkRefusal.{NetworkRefusal}
use Rattle.network.specs.declared.refusal.NetworkRefusal.TheVariants.{Length, Mark, Version, Counts, Ends, Figures}
use Rattle.network.specs.Versions.{served}
use Rattle.network.specs.NetworkFile.{version_of, junctions_of, roads_of, record_at}
use Rattle.network.specs.NetworkNumber.{record_number, sizes_fit, header_number, net_number}
use Rattle.network.specs.NetworkRefusal.{refusal_number}

-- ---- A refusal

-- none has the number of a file that is accepted
refusal_not_0 : (refusal : NetworkRefusal) → refusal_number refusal ≡ 0 → ⊥
refusal_not_0 Length e = omega arith
refusal_not_0 Mark e = omega arith
refusal_not_0 Version e = omega arith
refusal_not_0 Counts e = omega arith
refusal_not_0 Ends e = omega arith
refusal_not_0 Figures e = omega arith

-- the first of the records is the first fault
pub refused_here :
    (refusal : NetworkRefusal) {fault : ℕ → ℕ} {n k : ℕ} →
    FaultsLeft fault n k → k < n → refusal_number refusal ≡ fault k → refusal_number refusal ≡ first_fault fault 0 n
refused_here refusal left h e = faults_here left h e (refusal_not_0 refusal)

-- ---- What a header that passed says

-- The sizes are within their limits, and the file is whole
pub record HeaderFits (net : List ℕ) : Type 0 where
  pub some_junction : 1 ≤ junctions_of net
  pub few_junctions : junctions_of net ≤ 1024
  pub few_roads : roads_of net ≤ 4096
  pub whole : length net ≡ record_at net (roads_of net) 0

-- a header's number 0 says so
pub header-fits : (serves : Served) (net : List ℕ) → header_number serves net ≡ 0 → HeaderFits net
unfolding header_number sizes_fit
header-fits serves net passes =
    let after-length = (unless-passed {test = leb 16 (length net)} (λ e. omega arith) passes).1 in
    let after_mark = (unless-passed {test = marked 84 82 78 net} (λ e. omega arith) after-length).1 in
    let after-version = (unless-passed {test = served serves (version_of net)} (λ e. omega arith) after_mark).1 in
    let sizes = unless-passed {test = leb 1 (junctions_of net) && leb (junctions_of net) 1024 && leb (roads_of net) 4096} (λ e. omega arith) after-version in
    let whole = (unless-passed {test = eqb (length net) (record_at net (roads_of net) 0)} (λ e. omega arith) sizes.1).0 in
    let roads = and_both (leb 1 (junctions_of net) && leb (junctions_of net) 1024) (leb (roads_of net) 4096) sizes.0 in
    let junctions = and_both (leb 1 (junctions_of net)) (leb (junctions_of net) 1024) roads.0 in
    record {
      some_junction = leb-true _ _ junctions.0;
      few_junctions = leb-true _ _ junctions.1;
      few_roads = leb-true _ _ roads.1;
      whole = eqb-true _ _ whole;
    }

-- ---- The header decides, or the records do

module _ (serves : Served) (net : List ℕ) where
  -- the header's refusal is the file's
  pub refused_by_header : (refusal : NetworkRefusal) → refusal_number refusal ≡ header_number serves net → refusal_number refusal ≡ net_number serves net
  unfolding net_number
  refused_by_header refusal e =
      e ∙ sym (decided-more (first_fault (record_number net) 0 (roads_of net)) (λ passes. refusal_not_0 refusal (e ∙ passes)))

  -- else the records decide
  pub records-decide : {r roads : ℕ} → 0 ≡ header_number serves net → roads ≡ roads_of net → r ≡ first_fault (record_number net) 0 roads → r ≡ net_number serves net
  unfolding net_number
  records-decide passes roads-is e = rw (← passes, ← roads-is) e
