-- The depths and ancestors that are counted in a label file are those of its parents as a forest.
-- In this order: the parents as a function; ancestors are counted; the forest; `is_ancestor` decides; roads.
use mathlib.Core.Path.{◌≡◌, refl, ap, ◌∙◌}
use mathlib.Core.Logic.{◌⊎◌, inl, inr, ⊎_elim}
use mathlib.Core.Bool.{Bool, true, false, cond, ◌&&◌, or-true}
use mathlib.Core.List.{List}
use mathlib.Core.Option.{none, some}
use Prim.Native.Nat.{ℕ, zero, suc, ◌-◌, ◌≤◌, ◌<◌}
use native.Mathlib.Decide.{dec_lt}
use native.Mathlib.Omega.{arith}
use lib.Dec.{leb, ltb, eqb}
use borrow.Author.Tests.{lt-ltb, le-ltb, le-leb, eqb-true, eq-eqb, ne_eqb}
use Rattle.paths.specs.Weights.{pair}
use Rattle.paths.specs.Forest.{Above, parent_is, parent_has, Ancestor, Depth, root, child, IsForest, Related, RoadsJoinRelated}
use Rattle.paths.proofs.Forest.{above-child}
use Rattle.refusals.specs.Order.{every}
use Rattle.refusals.proofs.Order.{and_both, and_true, every_holds, every_all}
use Rattle.network.specs.NetworkFile.{junctions_of, roads_of, road_low, road_high, road_time, road_energy, RoadArc, network_of}
use Rattle.forest.specs.LabelFile.{parent_at, no_parent, parents_of}
use Rattle.forest.specs.Forest.{depth_of, ancestor_of, is_ancestor, road_joins}
use Rattle.forest.specs.working.Fits.{ParentsFit}
use Rattle.network.specs.working.Fits.{NetworkFits}
use Rattle.forest.proofs.Chains.{or_either, IsRoot, AllEnd, root?, depth-parent, depth-none, depth-some}
use Rattle.forest.proofs.Chains.{Climbed, ancestor-none, ancestor-below, one_up, climbed}

-- ---- The parents as a function

-- v is a junction, and u is its parent in the file
pub record HasParent (labels : List ℕ) (v u : ℕ) : Type 0 where
  pub on_map : v < junctions_of labels
  pub no_root : IsRoot labels v → ⊥
  pub parent : parent_at labels v ≡ u

module _ (labels : List ℕ) where
  -- what is no junction has no parent, nor has a root
  pub parents_off_map : (v : ℕ) → junctions_of labels ≤ v → parents_of labels v ≡ none
  unfolding parents_of
  parents_off_map v h = rw (le-ltb v (junctions_of labels) h)

  pub parents-root : (v : ℕ) → IsRoot labels v → parents_of labels v ≡ none
  unfolding parents_of
  parents-root v h = rw (eq-eqb (parent_at labels v) no_parent h) (neither (ltb v (junctions_of labels)))
    where
      neither : (b : Bool) → cond (b && false) (some (parent_at labels v)) none ≡ none
      neither true = refl
      neither false = refl

  -- any other junction has its parent
  pub parents-child : (v : ℕ) → v < junctions_of labels → (IsRoot labels v → ⊥) → parents_of labels v ≡ some (parent_at labels v)
  unfolding parents_of
  parents-child v below h = rw (lt-ltb v (junctions_of labels) below, ne_eqb (parent_at labels v) no_parent h)

  -- and no other has one
  pub parents-some : {v u : ℕ} → parents_of labels v ≡ some u → HasParent labels v u
  parents-some {v} {u} e = pick (dec_lt v (junctions_of labels)) (root? labels v)
    where
      pick : Dec (v < junctions_of labels) → Dec (IsRoot labels v) → HasParent labels v u
      pick (no h) r = let f = parents_off_map v (omega arith) in let z : ◌≡◌ {A = ℕ} 0 1 = cc in absurd (omega arith)
      pick (yes h) (yes r) = let f = parents-root v r in let z : ◌≡◌ {A = ℕ} 0 1 = cc in absurd (omega arith)
      pick (yes h) (no r) = let f = parents-child v h r in record { on_map = h; no_root = r; parent = cc }

  -- a junction that has none is a root
  pub parents-none : {v : ℕ} → v < junctions_of labels → parents_of labels v ≡ none → IsRoot labels v
  parents-none {v} below e = pick (root? labels v)
    where
      pick : Dec (IsRoot labels v) → IsRoot labels v
      pick (yes r) = r
      pick (no r) = let f = parents-child v below r in let z : ◌≡◌ {A = ℕ} 0 1 = cc in absurd (omega arith)

-- where 15 was passed, a parent is a junction one step above
pub parent_up : {labels : List ℕ} {v u : ℕ} → ParentsFit labels → parents_of labels v ≡ some u → Climbed labels v 1 u
parent_up {labels} {v} fit e = let has = parents-some labels e in rw (← has.parent) (one_up fit v has.on_map has.no_root)

-- ---- Ancestors are counted

-- u stands above v, as many steps as their depths differ by
pub record AncestorAt (labels : List ℕ) (u v : ℕ) : Type 0 where
  pub on_map : u < junctions_of labels
  pub no_deeper : depth_of labels u ≤ depth_of labels v
  pub is : ancestor_of labels v (depth_of labels v - depth_of labels u) ≡ u

-- where chains end, a proper ancestor has a smaller depth
pub above_shallower : (labels : List ℕ) {u v : ℕ} → AllEnd labels → Above (parents_of labels) u v → depth_of labels u < depth_of labels v
above_shallower labels ends (parent_is {v} e) =
    let h = parents-some labels e in
    omega (arith, depth-parent labels v h.no_root (ends v h.on_map), ap (depth_of labels) h.parent)
above_shallower labels ends (parent_has {v} {w} e above) =
    let h = parents-some labels e in
    omega (arith, depth-parent labels v h.no_root (ends v h.on_map), ap (depth_of labels) h.parent, above_shallower labels ends above)

module _ {labels : List ℕ} (fit : ParentsFit labels) where
  -- v stands no step above itself
  itself_at : (v : ℕ) → v < junctions_of labels → AncestorAt labels v v
  itself_at v below = record { on_map = below; no_deeper = omega arith; is = rw none (ancestor-none labels v) }
    where
      none : depth_of labels v - depth_of labels v ≡ 0
      none = omega arith

  -- what stands above the parent stands one step further above the child
  child_at : {u v w : ℕ} → HasParent labels v w → AncestorAt labels u w → AncestorAt labels u v
  child_at {u} {v} {w} h at =
      record {
        on_map = at.on_map;
        no_deeper = omega (arith, deeper, at.no_deeper);
        is = rw more (ancestor-below labels v (depth_of labels w - depth_of labels u) ∙ rw h.parent at.is);
      }
    where
      deeper : depth_of labels v ≡ suc (depth_of labels w)
      deeper = rw (← h.parent) (depth-parent labels v h.no_root (fit.ends v h.on_map))

      more : depth_of labels v - depth_of labels u ≡ suc (depth_of labels w - depth_of labels u)
      more = omega (arith, deeper, at.no_deeper)

  -- an ancestor is found by climbing
  pub above_at : {u v : ℕ} → Above (parents_of labels) u v → AncestorAt labels u v
  above_at {u} (parent_is {v} e) =
      let h = parents-some labels e in
      child_at h (itself_at u (rw h.parent at (one_up fit v h.on_map h.no_root).on_map))
  above_at (parent_has e above) = child_at (parents-some labels e) (above_at above)

  pub ancestor_at : {u v : ℕ} → v < junctions_of labels → Ancestor (parents_of labels) u v → AncestorAt labels u v
  ancestor_at {u} {v} below (inl e) = rw e (itself_at v below)
  ancestor_at below (inr above) = above_at above

  -- what is found by climbing is an ancestor, and a proper one after a step
  pub ancestor_is_up : (k v : ℕ) → v < junctions_of labels → k ≤ depth_of labels v → Ancestor (parents_of labels) (ancestor_of labels v k) v
  unfolding ancestor_of
  ancestor_is_up zero v below h = inl refl
  ancestor_is_up (suc k) v below h =
      let other = depth-some labels v (omega arith) in
      let here = one_up fit v below other in
      inr (above-child (parents-child labels v below other) (ancestor_is_up k (parent_at labels v) here.on_map (omega arith)))

  pub above_is_up : (k v : ℕ) → v < junctions_of labels → 1 ≤ k → k ≤ depth_of labels v → Above (parents_of labels) (ancestor_of labels v k) v
  above_is_up k v below stepped h = ⊎_elim (λ e. absurd (itself e)) (λ above. above) (ancestor_is_up k v below h)
    where
      itself : ancestor_of labels v k ≡ v → ⊥
      itself e = omega (arith, (climbed fit k v below h).depth, ap (depth_of labels) e)

  -- ---- The forest

  -- the counted depth is the depth
  pub depth_is : (v : ℕ) → v < junctions_of labels → Depth (parents_of labels) v (depth_of labels v)
  depth_is v below = count (depth_of labels v) v below refl
    where
      count : (d v : ℕ) → v < junctions_of labels → depth_of labels v ≡ d → Depth (parents_of labels) v d
      count zero v below e = root (parents-root labels v (depth-none labels v e (fit.ends v below)))
      count (suc d) v below e =
          let other = depth-some labels v (omega arith) in
          let here = one_up fit v below other in
          child (parents-child labels v below other) (count d (parent_at labels v) here.on_map (omega arith))

  -- Parents that passed are those of a forest; what is no junction is a root
  pub forest : IsForest (parents_of labels)
  forest = record { depth = λ v. cond (ltb v (junctions_of labels)) (depth_of labels v) 0; ends = λ v. ended v (dec_lt v (junctions_of labels)) }
    where
      ended : (v : ℕ) → Dec (v < junctions_of labels) → Depth (parents_of labels) v (cond (ltb v (junctions_of labels)) (depth_of labels v) 0)
      ended v (yes below) = rw (lt-ltb v (junctions_of labels) below) (depth_is v below)
      ended v (no off) =
          let beyond : junctions_of labels ≤ v = omega arith in
          rw (le-ltb v (junctions_of labels) beyond) (root (parents_off_map labels v beyond))

  -- ---- `is_ancestor` decides

  -- true means an ancestor, and false none
  pub is_ancestor_sound : (u v : ℕ) → v < junctions_of labels → is_ancestor labels u v ≡ true → Ancestor (parents_of labels) u v
  unfolding is_ancestor
  is_ancestor_sound u v below e =
      let both = and_both (leb (depth_of labels u) (depth_of labels v)) (eqb (ancestor_of labels v (depth_of labels v - depth_of labels u)) u) e in
      rw (eqb-true (ancestor_of labels v (depth_of labels v - depth_of labels u)) u both.1) at (ancestor_is_up (depth_of labels v - depth_of labels u) v below (omega arith))

  pub is_ancestor_complete : {u v : ℕ} → v < junctions_of labels → Ancestor (parents_of labels) u v → is_ancestor labels u v ≡ true
  unfolding is_ancestor
  is_ancestor_complete {u} {v} below h =
      let at = ancestor_at below h in
      and_true (le-leb (depth_of labels u) (depth_of labels v) at.no_deeper) (eq-eqb (ancestor_of labels v (depth_of labels v - depth_of labels u)) u at.is)

-- ---- Roads

-- both ends of a road are junctions of the labels
module _ (net labels : List ℕ) (sound : NetworkFits net) (same : junctions_of net ≡ junctions_of labels) (k : ℕ) (road : k < roads_of net) where
  pub high_on_map : {high : ℕ} → high ≡ road_high net k → high < junctions_of labels
  high_on_map is = omega (arith, sound.high_on_map k road)

  pub low_on_map : {low : ℕ} → low ≡ road_low net k → low < junctions_of labels
  low_on_map is = omega (arith, sound.high_on_map k road, sound.low_below_high k road)

module _ {net labels : List ℕ} (fit : ParentsFit labels) (sound : NetworkFits net) (same : junctions_of net ≡ junctions_of labels) where
  -- the test of road k is the relation of its ends
  pub joined-related : (k : ℕ) → k < roads_of net → road_joins net labels k ≡ true → Related (parents_of labels) (road_low net k) (road_high net k)
  unfolding road_joins
  joined-related k h e =
      ⊎_elim
      (λ up. inl (is_ancestor_sound fit (road_low net k) (road_high net k) (high_on_map net labels sound same k h refl) up))
      (λ down. inr (is_ancestor_sound fit (road_high net k) (road_low net k) (low_on_map net labels sound same k h refl) down))
      (or_either (is_ancestor labels (road_low net k) (road_high net k)) (is_ancestor labels (road_high net k) (road_low net k)) e)

  pub related-joined : (k : ℕ) → k < roads_of net → Related (parents_of labels) (road_low net k) (road_high net k) → road_joins net labels k ≡ true
  unfolding road_joins
  related-joined k h (inl up) = rw (is_ancestor_complete fit (high_on_map net labels sound same k h refl) up)
  related-joined k h (inr down) =
      rw (is_ancestor_complete fit (low_on_map net labels sound same k h refl) down) (or-true (is_ancestor labels (road_low net k) (road_high net k)))

  -- 16 is passed exactly where every road joins a junction with an ancestor of it
  pub roads_related : every (road_joins net labels) (roads_of net) ≡ true → RoadsJoinRelated (network_of net) (parents_of labels)
  roads_related all = record { joined = λ {x} {y} {r = k} a. turned k a.ends (tested k a.stands) }
    where
      tested : (k : ℕ) → k < roads_of net → Related (parents_of labels) (road_low net k) (road_high net k)
      tested k h = joined-related k h (every_holds (road_joins net labels) (roads_of net) all h)

      turned :
          (k : ℕ) {x y : ℕ} →
          ((x ≡ road_low net k) × (y ≡ road_high net k)) ⊎ ((x ≡ road_high net k) × (y ≡ road_low net k)) →
          Related (parents_of labels) (road_low net k) (road_high net k) →
          Related (parents_of labels) x y
      turned k (inl e) h = rw (e.0, e.1) h
      turned k (inr e) h = rw (e.0, e.1) (⊎_elim inr inl h)

  pub related_roads : RoadsJoinRelated (network_of net) (parents_of labels) → every (road_joins net labels) (roads_of net) ≡ true
  related_roads all = every_all (road_joins net labels) (roads_of net) (λ k h. related-joined k h (all.joined (arc k h)))
    where
      arc : (k : ℕ) → k < roads_of net → RoadArc net (road_low net k) (road_high net k) k (pair (road_time net k) (road_energy net k))
      arc k h = record { stands = h; ends = inl (refl, refl); weighs = refl; slow = sound.takes_time k h }
