-- The roads of a junction in file order.
-- In this order: the first road from k on; the roads as arcs; the order of the other ends.
use mathlib.Core.Path.{◌≡◌, refl, sym, ◌∙◌}
use mathlib.Core.Logic.{◌⊎◌, inl, inr, ⊎_elim}
use mathlib.Core.Bool.{Bool, true, false, cond}
use mathlib.Core.List.{List}
use Prim.Native.Nat.{ℕ, zero, suc, ◌+◌, ◌-◌, ◌≤◌, ◌<◌}
use native.Mathlib.Decide.{dec_le, ℕ_discrete}
use native.Mathlib.Omega.{arith}
use borrow.Author.Tests.{eqb-true, eq-eqb, ne_eqb}
use Rattle.paths.specs.Weights.{weights, energy, pair}
use Rattle.network.specs.NetworkFile.{junctions_of, roads_of, road_low, road_high, road_time, road_energy, RoadArc}
use Rattle.network.specs.working.Roads.{touches, other_end, search_road, next_road}
use Rattle.network.specs.working.Fits.{NetworkFits}
use Rattle.network.proofs.Arcs.{Earlier, by_low, by_high, roads_rise_far, arc_on_map}

-- ---- The first road from k on

module _ (s : List ℕ) (v : ℕ) where
  -- What is known of the first of `left` roads from k on
  record Sought (k left r : ℕ) : Type 0 where
    not_before : k ≤ r
    within : r ≤ k + left
    found : r < k + left → touches s v r ≡ true
    none_between : (j : ℕ) → k ≤ j → j < r → touches s v j ≡ false

  -- the search finds the first
  sought : (k left : ℕ) → Sought k left (search_road s v k left)
  unfolding search_road
  sought k zero = record { not_before = omega arith; within = omega arith; found = λ h. absurd (omega arith); none_between = λ j from below. absurd (omega arith) }
  sought k (suc left) = pick (touches s v k) refl (sought (suc k) left)
    where
      pick : (b : Bool) → touches s v k ≡ b → Sought (suc k) left (search_road s v (suc k) left) → Sought k (suc left) (cond b k (search_road s v (suc k) left))
      pick true e later = record { not_before = omega arith; within = omega arith; found = λ h. e; none_between = λ j from below. absurd (omega arith) }
      pick false e later =
          record {
            not_before = omega arith;
            within = omega arith;
            found = λ h. later.found (omega arith);
            none_between = λ j from below. between j from below (ℕ_discrete j k);
          }
        where
          between : (j : ℕ) → k ≤ j → j < search_road s v (suc k) left → Dec (j ≡ k) → touches s v j ≡ false
          between j from below (yes same) = rw same e
          between j from below (no apart) = later.none_between j (omega arith) below

  -- behind the last road there is none
  pub next_road_end : next_road s v (roads_of s) ≡ roads_of s
  unfolding next_road search_road
  next_road_end = rw none
    where
      none : roads_of s - roads_of s ≡ 0
      none = omega arith

  module _ (k : ℕ) where
    -- a road is the first itself, or the first is the first from the road behind it
    step : k < roads_of s → next_road s v k ≡ cond (touches s v k) k (next_road s v (suc k))
    unfolding next_road search_road
    step h = rw left
      where
        left : roads_of s - k ≡ suc (roads_of s - suc k)
        left = omega arith

    -- the road itself
    pub next_road-here : k < roads_of s → touches s v k ≡ true → next_road s v k ≡ k
    next_road-here h e = rw (step h, e)

    -- not the road itself
    pub next_road_skip : k < roads_of s → touches s v k ≡ false → next_road s v k ≡ next_road s v (suc k)
    next_road_skip h e = rw (step h, e)

    -- the search of the definition
    whole : Sought k (roads_of s - k) (next_road s v k)
    unfolding next_road
    whole = sought k (roads_of s - k)

    -- it is not before k
    pub next_road_low : k ≤ next_road s v k
    next_road_low = whole.not_before

    -- it has v for an end
    pub next_road-touches : next_road s v k < roads_of s → touches s v (next_road s v k) ≡ true
    next_road-touches h = let low = whole.not_before in whole.found (omega arith)

    -- no road before it, from k on, has v for an end
    pub next_road-none-between : (j : ℕ) → k ≤ j → j < next_road s v k → touches s v j ≡ false
    next_road-none-between = whole.none_between

    -- a loop over the roads of v has passed those before k when it comes to the next
    pub next_road-passed : (j : ℕ) → touches s v j ≡ true → j < next_road s v k → j < k
    next_road-passed j here below = pick (dec_le k j)
      where
        pick : Dec (k ≤ j) → j < k
        pick (yes from) = let none = next_road-none-between j from below in let z : ◌≡◌ {A = ℕ} 0 1 = cc in absurd (omega arith)
        pick (no before) = omega arith

-- ---- The roads as arcs

module _ (s : List ℕ) (v k : ℕ) where
  -- v is the lower end
  pub other_of_low : road_low s k ≡ v → other_end s v k ≡ road_high s k
  unfolding other_end
  other_of_low e = rw (eq-eqb (road_low s k) v e)

  -- v is not the lower end
  pub other_of_high : (road_low s k ≡ v → ⊥) → other_end s v k ≡ road_low s k
  unfolding other_end
  other_of_high apart = rw (ne_eqb (road_low s k) v apart)

  -- a road touches its lower end
  pub touches_low : road_low s k ≡ v → touches s v k ≡ true
  unfolding touches
  touches_low e = rw (eq-eqb (road_low s k) v e)

  -- a road touches its higher end
  pub touches-high : (road_low s k ≡ v → ⊥) → road_high s k ≡ v → touches s v k ≡ true
  unfolding touches
  touches-high apart e = rw (ne_eqb (road_low s k) v apart, eq-eqb (road_high s k) v e)

  -- a road touches no other junction
  pub touches-neither : (road_low s k ≡ v → ⊥) → (road_high s k ≡ v → ⊥) → touches s v k ≡ false
  unfolding touches
  touches-neither apart_low apart-high = rw (ne_eqb (road_low s k) v apart_low, ne_eqb (road_high s k) v apart-high)

  -- a road that does not have v for its lower end and touches it has v for its higher end
  pub high_if_not_low : (road_low s k ≡ v → ⊥) → touches s v k ≡ true → road_high s k ≡ v
  unfolding touches
  high_if_not_low apart e = eqb-true (road_high s k) v (rw (ne_eqb (road_low s k) v apart) at e)

  -- of a road that touches v, one end is v and the other the other
  pub touches-ends : touches s v k ≡ true → ((v ≡ road_low s k) × (other_end s v k ≡ road_high s k)) ⊎ ((v ≡ road_high s k) × (other_end s v k ≡ road_low s k))
  touches-ends e = pick (ℕ_discrete (road_low s k) v)
    where
      pick : Dec (road_low s k ≡ v) → ((v ≡ road_low s k) × (other_end s v k ≡ road_high s k)) ⊎ ((v ≡ road_high s k) × (other_end s v k ≡ road_low s k))
      pick (yes same) = inl (sym same, other_of_low same)
      pick (no apart) = inr (sym (high_if_not_low apart e), other_of_high apart)

module _ {s : List ℕ} (fits : NetworkFits s) where
  -- a road that touches v is an arc from v to the other end
  pub touches_arc : (v k : ℕ) → k < roads_of s → touches s v k ≡ true → RoadArc s v (other_end s v k) k (pair (road_time s k) (road_energy s k))
  touches_arc v k stands e = record { stands = stands; ends = touches-ends s v k e; weighs = refl; slow = fits.takes_time k stands }

  -- and the other end is a junction
  pub other_on_map : (v k : ℕ) → k < roads_of s → touches s v k ≡ true → other_end s v k < junctions_of s
  other_on_map v k stands e = (arc_on_map fits (touches_arc v k stands e)).1

  -- every arc from v is a road that touches v
  pub arc_touches : {v w k : ℕ} {p : (weights energy).Figure} → RoadArc s v w k p → (touches s v k ≡ true) × (w ≡ other_end s v k) × (p ≡ pair (road_time s k) (road_energy s k))
  arc_touches {v} {w} {k} arc =
      let low = fits.low_below_high k arc.stands in
      ⊎_elim
      (λ e. (touches_low s v k (sym e.0), e.1 ∙ sym (other_of_low s v k (sym e.0)), arc.weighs))
      (λ e. (touches-high s v k (λ same. omega arith) (sym e.0), e.1 ∙ sym (other_of_high s v k (λ same. omega arith)), arc.weighs))
      arc.ends

  -- ---- The order of the other ends

  -- the arcs of one junction come in the order of the junctions that they lead to
  pub arcs_rise : {v x y j k : ℕ} {w z : (weights energy).Figure} → j < k → RoadArc s v x j w → RoadArc s v y k z → x < y
  arcs_rise {v} {x} {y} {j} {k} h a b =
      which (fits.low_below_high j a.stands) (fits.low_below_high k b.stands) (roads_rise_far fits j k h b.stands) a.ends b.ends
    where
      which : road_low s j < road_high s j → road_low s k < road_high s k → Earlier s j k → ((v ≡ road_low s j) × (x ≡ road_high s j)) ⊎ ((v ≡ road_high s j) × (x ≡ road_low s j)) → ((v ≡ road_low s k) × (y ≡ road_high s k)) ⊎ ((v ≡ road_high s k) × (y ≡ road_low s k)) → x < y
      which m n (by_low p) (inl d) (inl e) = omega arith
      which m n (by_low p) (inl d) (inr e) = omega arith
      which m n (by_low p) (inr d) (inl e) = omega arith
      which m n (by_low p) (inr d) (inr e) = omega arith
      which m n (by_high same p) (inl d) (inl e) = omega arith
      which m n (by_high same p) (inl d) (inr e) = omega arith
      which m n (by_high same p) (inr d) (inl e) = omega arith
      which m n (by_high same p) (inr d) (inr e) = omega arith

  -- file order is the order of the other ends
  pub others_rise : (v j k : ℕ) → j < k → k < roads_of s → touches s v j ≡ true → touches s v k ≡ true → other_end s v j < other_end s v k
  others_rise v j k h stands p q = arcs_rise h (touches_arc v j (omega arith) p) (touches_arc v k stands q)
