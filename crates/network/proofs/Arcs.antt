-- The arcs of a network file that fits.
-- In this order: one arc; two records; all arcs.
use mathlib.Core.Path.{◌≡◌, refl, sym, ap, ◌∙◌}
use mathlib.Core.Logic.{◌⊎◌, inl, inr, ⊎_elim}
use mathlib.Core.Bool.{Bool, true, false, ◌&&◌, ◌||◌}
use mathlib.Core.List.Memᴰ
use mathlib.Core.List.{List, [], ◌∷◌, Memᴰ}
use Prim.Native.Nat.{ℕ, zero, suc, ◌+◌, ◌*◌, ◌≤◌, ◌<◌}
use native.Mathlib.Decide.{dec_le, ℕ_discrete}
use native.Mathlib.Omega.{arith}
use lib.Dec.{ltb, eqb}
use lib.ListN.{get_or}
use borrow.Author.Tests.{ltb-true, eqb-true}
use Rattle.paths.specs.Weights.{weights, energy, pair, time, spent}
use Rattle.paths.specs.Network.{Hop, Finite}
use Rattle.refusals.proofs.Order.{and_both}
use Rattle.network.specs.Versions.{least_energy}
use Rattle.network.specs.NetworkFile.{
  version_of,
  junctions_of,
  roads_of,
  road_low,
  road_high,
  road_time,
  road_energy,
  RoadArc,
  network_of,
}
use Rattle.network.specs.NetworkNumber.{record_rises}
use Rattle.network.specs.working.Fits.{NetworkFits}
use Rattle.file_bytes.proofs.Numbers.{u16_small}

-- ---- One arc

-- a road is used both ways
pub two_way : {s : List ℕ} {x y k : ℕ} {w : (weights energy).Figure} → RoadArc s x y k w → RoadArc s y x k w
two_way arc =
    record {
      stands = arc.stands;
      ends = ⊎_elim (λ e. inr (e.1, e.0)) (λ e. inl (e.1, e.0)) arc.ends;
      weighs = arc.weighs;
      slow = arc.slow;
    }

module _ {s : List ℕ} (fits : NetworkFits s) {x y k : ℕ} {w : (weights energy).Figure} (arc : RoadArc s x y k w) where
  -- both ends are junctions
  pub arc_on_map : (x < junctions_of s) × (y < junctions_of s)
  arc_on_map =
      let low = fits.low_below_high k arc.stands in
      let high = fits.high_on_map k arc.stands in
      ⊎_elim (λ e. omega arith) (λ e. omega arith) arc.ends

  -- time and energy are of 16 bits, and no smaller than the version lets them be
  pub arc_figures : ((i : ℕ) → get_or s i 0 < 256) → (1 ≤ time energy w) × (time energy w ≤ 65535) × (least_energy (version_of s) ≤ spent energy w) × (spent energy w ≤ 65535)
  arc_figures bytes =
      rw arc.weighs (
        fits.takes_time k arc.stands,
        omega (arith, u16_small s bytes (20 + 8 * k)),
        fits.takes_energy k arc.stands,
        omega (arith, u16_small s bytes (22 + 8 * k)),
      )

-- ---- Two records

-- Record j comes before record k: by its lower junction, or by its higher where the lower is the same
pub data Earlier (s : List ℕ) (j k : ℕ) : Type 0 where
  by_low : road_low s j < road_low s k → Earlier s j k
  by_high : road_low s j ≡ road_low s k → road_high s j < road_high s k → Earlier s j k

-- before what is before
earlier_trans : {s : List ℕ} {i j k : ℕ} → Earlier s i j → Earlier s j k → Earlier s i k
earlier_trans (by_low p) (by_low q) = by_low (omega arith)
earlier_trans (by_low p) (by_high same q) = by_low (omega arith)
earlier_trans (by_high same p) (by_low q) = by_low (omega arith)
earlier_trans (by_high same p) (by_high alike q) = by_high (omega arith) (omega arith)

-- one of two tests holds
or_either : (a b : Bool) → (a || b) ≡ true → (a ≡ true) ⊎ (b ≡ true)
or_either true b e = inl refl
or_either false b e = inr e

-- a record that rises stands after the one before
next-earlier : (s : List ℕ) (k : ℕ) → record_rises s (suc k) ≡ true → Earlier s k (suc k)
next-earlier s k e =
    let same_low = eqb (road_low s k) (road_low s (suc k)) in
    let higher = ltb (road_high s k) (road_high s (suc k)) in
    ⊎_elim
    (λ p. by_low (ltb-true _ _ p))
    (λ p. by_high (eqb-true _ _ (and_both same_low higher p).0) (ltb-true _ _ (and_both same_low higher p).1))
    (or_either (ltb (road_low s k) (road_low s (suc k))) (same_low && higher) e)

-- every record stands after all before it
pub roads_rise_far : {s : List ℕ} → NetworkFits s → (j k : ℕ) → j < k → k < roads_of s → Earlier s j k
roads_rise_far fits j zero h stands = absurd (omega arith)
roads_rise_far {s} fits j (suc k) h stands =
    pick (λ below. roads_rise_far fits j k below (omega arith)) (next-earlier s k (fits.rises (suc k) stands)) (ℕ_discrete j k)
  where
    pick : (j < k → Earlier s j k) → Earlier s k (suc k) → Dec (j ≡ k) → Earlier s j (suc k)
    pick before last (yes e) = rw e last
    pick before last (no apart) = earlier_trans (before (omega arith)) last

-- records with the same ends are one
same_ends : {s : List ℕ} → NetworkFits s → (j k : ℕ) → j < roads_of s → k < roads_of s → road_low s j ≡ road_low s k → road_high s j ≡ road_high s k → j ≡ k
same_ends {s} fits j k stands-j stands-k low high = pick (ℕ_discrete j k) (dec_le j k)
  where
    not_earlier : {i l : ℕ} → Earlier s i l → road_low s i ≡ road_low s l → road_high s i ≡ road_high s l → ⊥
    not_earlier (by_low p) e f = omega arith
    not_earlier (by_high same p) e f = omega arith

    pick : Dec (j ≡ k) → Dec (j ≤ k) → j ≡ k
    pick (yes e) d = e
    pick (no apart) (yes below) = absurd (not_earlier (roads_rise_far fits j k (omega arith) stands-k) low high)
    pick (no apart) (no above) = absurd (not_earlier (roads_rise_far fits k j (omega arith) stands-j) (sym low) (sym high))

-- two junctions share at most one road
pub one_road : {s : List ℕ} {x y j k : ℕ} {w z : (weights energy).Figure} → NetworkFits s → RoadArc s x y j w → RoadArc s x y k z → j ≡ k
one_road {s} {x} {y} {j} {k} fits a b =
    let ordered-j = fits.low_below_high j a.stands in
    let ordered-k = fits.low_below_high k b.stands in
    ⊎_elim
    (λ p. ⊎_elim (λ q. same (omega arith) (omega arith)) (λ q. absurd (omega arith)) b.ends)
    (λ p. ⊎_elim (λ q. absurd (omega arith)) (λ q. same (omega arith) (omega arith)) b.ends)
    a.ends
  where
    same : road_low s j ≡ road_low s k → road_high s j ≡ road_high s k → j ≡ k
    same = same_ends fits j k a.stands b.stands

-- and so it has one weight
pub one_weight : {s : List ℕ} {x y j k : ℕ} {w z : (weights energy).Figure} → NetworkFits s → RoadArc s x y j w → RoadArc s x y k z → w ≡ z
one_weight {s} fits a b = a.weighs ∙ (ap (λ (i : ℕ). pair (road_time s i) (road_energy s i)) (one_road fits a b) ∙ sym b.weighs)

-- ---- All arcs

-- The arcs of the first n records, listed
record Listed (s : List ℕ) (n : ℕ) : Type 0 where
  hops : List (Hop energy)
  real : (h : Hop energy) → Memᴰ h hops → RoadArc s h.from h.to h.number h.weighs
  listed : {x y k : ℕ} {w : (weights energy).Figure} → k < n → RoadArc s x y k w → Memᴰ (record { from = x; to = y; number = k; weighs = w }) hops

-- Record k as an arc from x to y, as data
hop : List ℕ → ℕ → ℕ → ℕ → Hop energy
hop s x y k = record { from = x; to = y; number = k; weighs = pair (road_time s k) (road_energy s k) }

-- no record, no arc
listed-none : (s : List ℕ) → Listed s 0
listed-none s = record { hops = []; real = λ h m. absurd (Memᴰ.not-nil m); listed = λ below arc. absurd (omega arith) }

-- one record more gives its two arcs, or none if it takes no time
listed_more : (s : List ℕ) (n : ℕ) → n < roads_of s → Listed s n → Listed s (suc n)
unfolding hop
listed_more s n stands before = pick (dec_le 1 (road_time s n))
  where
    forth : Hop energy
    forth = hop s (road_low s n) (road_high s n) n

    back : Hop energy
    back = hop s (road_high s n) (road_low s n) n

    pick : Dec (1 ≤ road_time s n) → Listed s (suc n)
    pick (yes slow) = record { hops = forth ∷ back ∷ before.hops; real = real; listed = listed }
      where
        road : RoadArc s (road_low s n) (road_high s n) n (pair (road_time s n) (road_energy s n))
        road = record { stands = stands; ends = inl (refl, refl); weighs = refl; slow = slow }

        real : (h : Hop energy) → Memᴰ h (forth ∷ back ∷ before.hops) → RoadArc s h.from h.to h.number h.weighs
        real h m = ⊎_elim (λ e. rw e road) (λ later. ⊎_elim (λ e. rw e (two_way road)) (λ old. before.real h old) (Memᴰ.cases_cons later)) (Memᴰ.cases_cons m)

        listed : {x y k : ℕ} {w : (weights energy).Figure} → k < suc n → RoadArc s x y k w → Memᴰ (record { from = x; to = y; number = k; weighs = w }) (forth ∷ back ∷ before.hops)
        listed {x} {y} {k} {w} below arc = which (ℕ_discrete k n)
          where
            which : Dec (k ≡ n) → Memᴰ (record { from = x; to = y; number = k; weighs = w }) (forth ∷ back ∷ before.hops)
            which (yes e) = ⊎_elim (λ p. Memᴰ.head (cc)) (λ p. Memᴰ.tail (Memᴰ.head (cc))) arc.ends
            which (no apart) = Memᴰ.tail (Memᴰ.tail (before.listed (omega arith) arc))
    pick (no quick) = record { hops = before.hops; real = before.real; listed = λ {x} {y} {k} {w} below arc. before.listed (older below arc) arc }
      where
        older : {x y k : ℕ} {w : (weights energy).Figure} → k < suc n → RoadArc s x y k w → k < n
        older {k = k} below arc = which (ℕ_discrete k n)
          where
            which : Dec (k ≡ n) → k < n
            which (yes e) = absurd (quick (rw (← e) (rw arc.weighs at arc.slow)))
            which (no apart) = omega arith

-- as many records as the file has
listed_below : (s : List ℕ) (n : ℕ) → n ≤ roads_of s → Listed s n
listed_below s zero h = listed-none s
listed_below s (suc n) h = listed_more s n (omega arith) (listed_below s n (omega arith))

-- the network of any file has finitely many arcs
pub network_finite : (s : List ℕ) → Finite (network_of s)
network_finite s =
    let all = listed_below s (roads_of s) (omega arith) in
    record { hops = all.hops; real = all.real; listed = λ arc. all.listed arc.stands arc }
