-- Laws of walks: joined end to end, taken apart at a junction met, taken apart at either end.
-- In this order: joining; splitting at a junction; the last arc; a part of an unbeaten walk is unbeaten.
use mathlib.Core.Path.{◌≡◌, refl, sym, ap, ◌∙◌}
use mathlib.Core.Logic.{◌⊎◌, inl, inr}
use mathlib.Core.List.Memᴰ
use mathlib.Core.List.{Memᴰ}
use Prim.Native.Nat.{ℕ, zero, suc, ◌<◌}
use native.Mathlib.Omega.{arith}
use Rattle.paths.specs.Figures.{Figures, Lawful}
use Rattle.paths.specs.Weights.{weights, Beats}
use Rattle.paths.specs.Network.{Network, Walk, stay, go, weight, junctions}
use Rattle.paths.specs.TradeOff.{Skyline}
use Rattle.paths.proofs.Weights.{weights_lawful, unit_⊕, beats_sum_right}

module _ {𝓛 : Figures} (𝓝 : Network 𝓛) where
  -- p is the weight of a walk from s to t
  pub record WalkOf (s t : ℕ) (p : (weights 𝓛).Figure) : Type 0 where
    pub walk : Walk 𝓝 s t
    pub weighs : weight walk ≡ p

  -- one arc
  unfoldable pub single : {s v r : ℕ} {p : (weights 𝓛).Figure} → 𝓝.Arc s v r p → Walk 𝓝 s v
  single a = go a stay

module _ {𝓛 : Figures} {𝓝 : Network 𝓛} where
  -- one walk after another
  unfoldable pub ◌then◌ : {s v t : ℕ} → Walk 𝓝 s v → Walk 𝓝 v t → Walk 𝓝 s t

  infixr 50 ◌then◌
  stay then k = k
  go a w then k = go a (w then k)

  -- how many arcs a walk has
  unfoldable pub arcs : {s t : ℕ} → Walk 𝓝 s t → ℕ
  arcs stay = zero
  arcs (go a w) = suc (arcs w)

  -- a junction on a walk cuts it in two
  pub record Split {s t : ℕ} (w : Walk 𝓝 s t) (h : ℕ) : Type 0 where
    pub before : Walk 𝓝 s h
    pub after : Walk 𝓝 h t
    pub whole : before then after ≡ w

  pub start_met : {s t : ℕ} (w : Walk 𝓝 s t) → Memᴰ s (junctions w)
  unfolding junctions
  start_met stay = Memᴰ.head refl
  start_met (go a w) = Memᴰ.head refl

  pub split : {s t h : ℕ} (w : Walk 𝓝 s t) → Memᴰ h (junctions w) → Split w h
  unfolding junctions ◌then◌
  split stay m = rw (Memᴰ.eq_of_singleton m) (record { before = stay; after = stay; whole = refl })
  split {h = h} (go {s = s} {v = v} {t = t} a w) m = pick (λ m'. split w m') (Memᴰ.cases_cons m)
    where
      pick : (Memᴰ h (junctions w) → Split w h) → (h ≡ s) ⊎ Memᴰ h (junctions w) → Split (go a w) h
      pick f (inl e) = rw e (record { before = stay; after = go a w; whole = refl })
      pick f (inr m') =
          let z = f m' in record { before = go a z.before; after = z.after; whole = ap (λ k. go a k) z.whole }

  -- a walk of one arc or more has a last arc
  pub record Last {s t : ℕ} (w : Walk 𝓝 s t) : Type 0 where
    pub from : ℕ
    pub number : ℕ
    pub weighs : (weights 𝓛).Figure
    pub front : Walk 𝓝 s from
    pub arc : 𝓝.Arc from t number weighs
    pub whole : front then single 𝓝 arc ≡ w
    pub shorter : arcs front < arcs w

  pub last : {s v t r : ℕ} {p : (weights 𝓛).Figure} (a : 𝓝.Arc s v r p) (w : Walk 𝓝 v t) → Last (go a w)
  unfolding ◌then◌ arcs single
  last {s = s} {r = r} {p = p} a stay = record { from = _; number = r; weighs = p; front = stay; arc = a; whole = refl; shorter = omega arith }
  last {s = s} {r = r} {p = p} a (go {s = s'} {v = v} b w) =
      let z = last {s = s'} b w in
      record {
        from = z.from;
        number = z.number;
        weighs = z.weighs;
        front = go a z.front;
        arc = z.arc;
        whole = ap (λ k. go a k) z.whole;
        shorter = let y = z.shorter in omega arith;
      }

module _ {𝓛 : Figures} (lawful : Lawful 𝓛) where
  abbrev W : Lawful (weights 𝓛)
  W = weights_lawful lawful

  pub weight_one : (𝓝 : Network 𝓛) {s v r : ℕ} {p : (weights 𝓛).Figure} (a : 𝓝.Arc s v r p) → weight (single 𝓝 a) ≡ p
  unfolding weight single
  weight_one 𝓝 {p = p} a = W.⊕_unit p

  module _ {𝓝 : Network 𝓛} where
    pub weight_then : {s v t : ℕ} (w : Walk 𝓝 s v) (k : Walk 𝓝 v t) → weight (w then k) ≡ (weights 𝓛).◌⊕◌ (weight w) (weight k)
    unfolding weight ◌then◌
    weight_then stay k = sym (unit_⊕ W (weight k))
    weight_then (go {w = p} a w) k = ap (λ q. (weights 𝓛).◌⊕◌ p q) (weight_then w k) ∙ sym (W.⊕_assoc p (weight w) (weight k))

    pub split-weighs : {s t h : ℕ} {w : Walk 𝓝 s t} (z : Split w h) → (weights 𝓛).◌⊕◌ (weight z.before) (weight z.after) ≡ weight w
    split-weighs z = sym (weight_then z.before z.after) ∙ ap weight z.whole

    pub last-weighs : {s t : ℕ} {w : Walk 𝓝 s t} (z : Last w) → (weights 𝓛).◌⊕◌ (weight z.front) z.weighs ≡ weight w
    last-weighs z =
        ap (λ q. (weights 𝓛).◌⊕◌ (weight z.front) q) (sym (weight_one 𝓝 z.arc))
        ∙ sym (weight_then z.front (single 𝓝 z.arc))
        ∙ ap weight z.whole

    -- what is left of an unbeaten walk is unbeaten, if all that might be left makes a whole walk
    pub rest-unbeaten :
        {s t x y : ℕ} (c : (weights 𝓛).Figure) (k : Walk 𝓝 x y) →
        ((j : Walk 𝓝 x y) → WalkOf 𝓝 s t ((weights 𝓛).◌⊕◌ c (weight j))) →
        ((other : Walk 𝓝 s t) → Beats 𝓛 (weight other) ((weights 𝓛).◌⊕◌ c (weight k)) → ⊥) →
        Skyline 𝓝 x y (weight k)
    rest-unbeaten c k whole unbeaten =
        record {
          walk = k;
          weighs = refl;
          unbeaten = λ other b. let z = whole other in unbeaten z.walk (rw z.weighs (beats_sum_right lawful c b));
        }

    -- so are both parts of an unbeaten walk
    module _ {s v t : ℕ} (w : Walk 𝓝 s v) (k : Walk 𝓝 v t) (unbeaten : (other : Walk 𝓝 s t) → Beats 𝓛 (weight other) (weight (w then k)) → ⊥) where
      pub before-unbeaten : Skyline 𝓝 s v (weight w)
      before-unbeaten =
          rest-unbeaten (weight k) w
          (λ j. record { walk = j then k; weighs = weight_then j k ∙ W.⊕_comm (weight j) (weight k) })
          (λ other b. unbeaten other (rw (weight_then w k, W.⊕_comm (weight w) (weight k)) b))

      pub after-unbeaten : Skyline 𝓝 v t (weight k)
      after-unbeaten =
          rest-unbeaten (weight w) k
          (λ j. record { walk = w then j; weighs = weight_then w j })
          (λ other b. unbeaten other (rw (weight_then w k) b))
