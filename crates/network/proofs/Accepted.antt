-- A network file has number 0 exactly if it is marked, of a version that is served, and fits.
-- In this order: a record, and back; the whole file, and back.
use mathlib.Core.Path.{◌≡◌}
use mathlib.Core.Bool.{true, ◌&&◌}
use mathlib.Core.List.{List}
use Prim.Native.Nat.{ℕ, ◌≤◌, ◌<◌}
use native.Mathlib.Omega.{arith}
use lib.Dec.{leb, ltb}
use lib.ListN.{length}
use borrow.Author.Tests.{ltb-true, lt-ltb, leb-true, le-leb, eq-eqb}
use Rattle.refusals.proofs.Order.{unless-passed, decided-none, and_both, no_fault, all_pass}
use Rattle.file_bytes.specs.Bytes.{marked}
use Rattle.network.specs.declared.versions.Served.{Served}
use Rattle.network.specs.Versions.{served, least_energy}
use Rattle.network.specs.NetworkFile.{
  version_of,
  junctions_of,
  roads_of,
  record_at,
  road_low,
  road_high,
  road_time,
  road_energy,
}
use Rattle.network.specs.NetworkNumber.{record_rises, ends_fit, figures_fit, record_number, sizes_fit, header_number, net_number}
use Rattle.network.specs.working.Fits.{NetworkFits}
use Rattle.network.proofs.NetworkTests.{header-fits}

-- ---- A record

-- What a record that passed says
pub record RecordFits (net : List ℕ) (k : ℕ) : Type 0 where
  pub low_below_high : road_low net k < road_high net k
  pub high_on_map : road_high net k < junctions_of net
  pub rises : record_rises net k ≡ true
  pub takes_time : 1 ≤ road_time net k
  pub takes_energy : least_energy (version_of net) ≤ road_energy net k

-- a record's number 0 says so
record-fits : (net : List ℕ) (k : ℕ) → record_number net k ≡ 0 → RecordFits net k
unfolding record_number ends_fit figures_fit
record-fits net k passes =
    let low = ltb (road_low net k) (road_high net k) in
    let high = ltb (road_high net k) (junctions_of net) in
    let some-time = leb 1 (road_time net k) in
    let some-energy = leb (least_energy (version_of net)) (road_energy net k) in
    let ends = unless-passed {test = low && high && record_rises net k} (λ e. omega arith) passes in
    let figures = and_both some-time some-energy (unless-passed {test = some-time && some-energy} (λ e. omega arith) ends.1).0 in
    let rises = and_both (low && high) (record_rises net k) ends.0 in
    let on_map = and_both low high rises.0 in
    record {
      low_below_high = ltb-true _ _ on_map.0;
      high_on_map = ltb-true _ _ on_map.1;
      rises = rises.1;
      takes_time = leb-true _ _ figures.0;
      takes_energy = leb-true _ _ figures.1;
    }

-- and back
record-back : (net : List ℕ) (k : ℕ) → RecordFits net k → record_number net k ≡ 0
unfolding record_number ends_fit figures_fit
record-back net k fits =
    rw (
      lt-ltb (road_low net k) (road_high net k) fits.low_below_high,
      lt-ltb (road_high net k) (junctions_of net) fits.high_on_map,
      fits.rises,
      le-leb 1 (road_time net k) fits.takes_time,
      le-leb (least_energy (version_of net)) (road_energy net k) fits.takes_energy,
    )

-- ---- The whole file

-- an accepted network fits
pub network-fits : (serves : Served) (net : List ℕ) → net_number serves net ≡ 0 → NetworkFits net
unfolding net_number
network-fits serves net passes =
    let parts = decided-none (header_number serves net) _ passes in
    let header = header-fits serves net parts.0 in
    let each : (k : ℕ) → k < roads_of net → RecordFits net k = λ k h. record-fits net k (no_fault (record_number net) (roads_of net) parts.1 (omega arith) (omega arith)) in
    record {
      some_junction = header.some_junction;
      few_junctions = header.few_junctions;
      few_roads = header.few_roads;
      whole = header.whole;
      low_below_high = λ k h. (each k h).low_below_high;
      high_on_map = λ k h. (each k h).high_on_map;
      rises = λ k h. (each k h).rises;
      takes_time = λ k h. (each k h).takes_time;
      takes_energy = λ k h. (each k h).takes_energy;
    }

-- and back: what is marked, of a version that is served, and fits, has number 0
pub fits-passes : (serves : Served) (net : List ℕ) → marked 84 82 78 net ≡ true → served serves (version_of net) ≡ true → NetworkFits net → net_number serves net ≡ 0
unfolding net_number header_number sizes_fit
fits-passes serves net mark version fits =
    rw (
      le-leb 16 (length net) (omega arith),
      mark,
      version,
      le-leb 1 (junctions_of net) fits.some_junction,
      le-leb (junctions_of net) 1024 fits.few_junctions,
      le-leb (roads_of net) 4096 fits.few_roads,
      eq-eqb (length net) (record_at net (roads_of net) 0) fits.whole,
    )
    (all_pass (record_number net) (roads_of net) (λ k from below. record-back net k (record {
      low_below_high = fits.low_below_high k (omega arith);
      high_on_map = fits.high_on_map k (omega arith);
      rises = fits.rises k (omega arith);
      takes_time = fits.takes_time k (omega arith);
      takes_energy = fits.takes_energy k (omega arith);
    })))
