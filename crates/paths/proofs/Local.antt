-- The local test is exact: lists are the trade-off lists of their pairs if and only if each agrees with the lists one arc on.
-- So labels are their own certificate. Each pair has a side, the end at which its walks are taken apart, so that one theorem
-- serves two-way labels (the deeper end) and one-way labels (up-lists at their start, down-lists at their finish).
-- In this order: an arc taken off at a side; the test; what it shows; what shows it.
use mathlib.Core.Path.{◌≡◌, refl, sym, ap, ◌∙◌, subst}
use mathlib.Core.Logic.{◌↔◌, by_cases}
use mathlib.Core.List.Memᴰ
use mathlib.Core.List.{List, [], ◌∷◌, Memᴰ}
use Prim.Native.Nat.{ℕ, zero, suc, ◌≤◌, ◌<◌}
use native.Mathlib.Decide.{ℕ_discrete}
use native.Mathlib.Omega.{arith}
use Rattle.paths.specs.Figures.{Figures, Lawful}
use Rattle.paths.specs.Weights.{Covered, weights, time, Beats, Rising, one}
use Rattle.paths.specs.Network.{Network, Walk, stay, go, weight}
use Rattle.paths.specs.TradeOff.{IsTradeOff}
use Rattle.paths.proofs.Weights.{weights_lawful, ⊑_of_eq, ⊕_mono_right, beats_cast}
use Rattle.paths.proofs.Walks.{WalkOf, ◌then◌, arcs, single, last, weight_then, weight_one, last-weighs, rest-unbeaten}
use Rattle.paths.proofs.Covering.{covered_more, walk-covered, trade_off_none_beaten, covering_is_trade_off}

-- the end at which a walk is taken apart
pub data Side : Type 0 where
  start finish : Side

module _ {𝓛 : Figures} (𝓝 : Network 𝓛) where
  open weights 𝓛 use {Figure as Weight, ◌⊕◌, 𝟘}

  infixl 60 ◌⊕◌
  -- an arc of weight w at one side of walks from s to t; what is left goes from x to y
  pub data Peel (side : Side) (s t x y : ℕ) (w : Weight) : Type 0 where
    first : {r : ℕ} → side ≡ start → y ≡ t → 𝓝.Arc s x r w → Peel side s t x y w
    last_one : {r : ℕ} → side ≡ finish → x ≡ s → 𝓝.Arc y t r w → Peel side s t x y w

  -- p is an arc's weight and an entry of the list that is left
  pub record Met (L : ℕ → ℕ → List Weight) (side : Side) (s t : ℕ) (p : Weight) : Type 0 where
    pub from : ℕ
    pub to : ℕ
    pub arc : Weight
    pub rest : Weight
    pub peel : Peel side s t from to arc
    pub member : Memᴰ rest (L from to)
    pub adds : arc ⊕ rest ≡ p

  -- The test of the list of two different junctions
  pub record LocallyRight (L : ℕ → ℕ → List Weight) (side : Side) (s t : ℕ) : Type 0 where
    pub rising : Rising 𝓛 (L s t)
    pub unbeaten : {p q : Weight} → Memᴰ p (L s t) → Memᴰ q (L s t) → Beats 𝓛 p q → ⊥
    -- sound: every entry is met
    pub sound : {p : Weight} → Memᴰ p (L s t) → Met L side s t p
    -- complete: every sum is covered
    pub complete : {x y : ℕ} {w q : Weight} → Peel side s t x y w → Memᴰ q (L x y) → Covered 𝓛 (L s t) (w ⊕ q)

  -- Pairs of junctions, a side for each, and a list for each; what is left of a pair is a pair again
  pub record Labels (P : ℕ → ℕ → Type 0) (side : ℕ → ℕ → Side) (L : ℕ → ℕ → List Weight) : Type 0 where
    pub closed : {s t x y : ℕ} {w : Weight} → P s t → (s ≡ t → ⊥) → Peel (side s t) s t x y w → P x y
    pub alone : {s t : ℕ} → P s t → s ≡ t → L s t ≡ 𝟘 ∷ []

  -- The test passes at every pair
  pub record AllLocallyRight (P : ℕ → ℕ → Type 0) (side : ℕ → ℕ → Side) (L : ℕ → ℕ → List Weight) : Type 0 where
    pub test : {s t : ℕ} → P s t → (s ≡ t → ⊥) → LocallyRight L (side s t) s t

  -- Every list is the trade-off list of its pair
  pub record AllTradeOffs (P : ℕ → ℕ → Type 0) (L : ℕ → ℕ → List Weight) : Type 0 where
    pub right : {s t : ℕ} → P s t → IsTradeOff 𝓝 s t (L s t)

  -- a walk of one arc or more, with the arc at a side taken off
  record Peeled (side : Side) {s t : ℕ} (k : Walk 𝓝 s t) : Type 0 where
    from : ℕ
    to : ℕ
    arc : Weight
    peel : Peel side s t from to arc
    rest : Walk 𝓝 from to
    adds : arc ⊕ weight rest ≡ weight k
    shorter : arcs rest < arcs k

module _ {𝓛 : Figures} (lawful : Lawful 𝓛) where
  abbrev W : Lawful (weights 𝓛)
  W = weights_lawful lawful

  open weights 𝓛 use {Figure as Weight, ◌⊕◌, 𝟘, ◌⊑◌}

  infixl 60 ◌⊕◌
  infix 40 ◌⊑◌
  module _ (𝓝 : Network 𝓛) where
    -- an arc put back on a walk
    attach : {side : Side} {s t x y : ℕ} {w : Weight} → Peel 𝓝 side s t x y w → (k : Walk 𝓝 x y) → WalkOf 𝓝 s t (w ⊕ weight k)
    unfolding weight
    attach {s = s} {w = w} (first e f a) k = subst (λ z. WalkOf 𝓝 s z (w ⊕ weight k)) f (record { walk = go a k; weighs = refl })
    attach {t = t} {w = w} (last_one e f a) k =
        subst (λ z. WalkOf 𝓝 z t (w ⊕ weight k)) f
        (record {
          walk = k then single 𝓝 a;
          weighs = weight_then lawful k (single 𝓝 a) ∙ ap (λ z. weight k ⊕ z) (weight_one lawful 𝓝 a) ∙ W.⊕_comm (weight k) w;
        })

    -- a walk between different junctions has an arc at either side
    peeled : (side : Side) {s t : ℕ} (k : Walk 𝓝 s t) → (s ≡ t → ⊥) → Peeled 𝓝 side k
    unfolding weight arcs
    peeled side stay apart = absurd (apart refl)
    peeled start (go {w = w} a k) apart =
        record { from = _; to = _; arc = w; peel = first refl refl a; rest = k; adds = refl; shorter = omega arith }
    peeled finish (go a k) apart =
        let z = last a k in
        record {
          from = _;
          to = z.from;
          arc = z.weighs;
          peel = last_one refl refl z.arc;
          rest = z.front;
          adds = W.⊕_comm z.weighs (weight z.front) ∙ last-weighs lawful z;
          shorter = z.shorter;
        }

    peel-takes-time : {side : Side} {s t x y : ℕ} {w : Weight} → Peel 𝓝 side s t x y w → 1 ≤ time 𝓛 w
    peel-takes-time (first e f a) = 𝓝.takes_time a
    peel-takes-time (last_one e f a) = 𝓝.takes_time a

    module _ (P : ℕ → ℕ → Type 0) (side : ℕ → ℕ → Side) (L : ℕ → ℕ → List Weight) (labels : Labels 𝓝 P side L) where
      -- ---- What the test shows

      only : {s t : ℕ} {p : Weight} → P s t → s ≡ t → Memᴰ p (L s t) → p ≡ 𝟘
      only pair e m = Memᴰ.eq_of_singleton (rw (labels.alone pair e) at m)

      module _ (all : AllLocallyRight 𝓝 P side L) where
        -- every entry is a walk's weight: each arc takes a second, so taking arcs off ends
        member_walks : (n s t : ℕ) (p : Weight) → P s t → Memᴰ p (L s t) → time 𝓛 p < n → WalkOf 𝓝 s t p
        unfolding weight
        member_walks zero s t p pair m h = absurd (omega arith)
        member_walks (suc n) s t p pair m h =
            by_cases (ℕ_discrete s t) here (λ apart. step (member_walks n) apart ((all.test pair apart).sound m))
          where
            step : ((x y : ℕ) (q : Weight) → P x y → Memᴰ q (L x y) → time 𝓛 q < n → WalkOf 𝓝 x y q) → (s ≡ t → ⊥) → Met 𝓝 L (side s t) s t p → WalkOf 𝓝 s t p
            step below apart met =
                let shorter : time 𝓛 met.rest < n = omega (arith, peel-takes-time met.peel, ap (time 𝓛) met.adds) in
                let rest = below met.from met.to met.rest (labels.closed pair apart met.peel) met.member shorter in
                let whole = attach met.peel rest.walk in
                record { walk = whole.walk; weighs = whole.weighs ∙ ap (λ z. met.arc ⊕ z) rest.weighs ∙ met.adds }

            here : s ≡ t → WalkOf 𝓝 s t p
            here e = let z = only pair e m in rw e (record { walk = stay; weighs = sym z })

        -- every walk's weight is covered
        walks_covered : (n s t : ℕ) → P s t → (k : Walk 𝓝 s t) → arcs k < n → Covered 𝓛 (L s t) (weight k)
        walks_covered zero s t pair k h = absurd (omega arith)
        walks_covered (suc n) s t pair k h =
            by_cases (ℕ_discrete s t) here (λ apart. step (walks_covered n) apart (peeled (side s t) k apart))
          where
            step : ((x y : ℕ) → P x y → (j : Walk 𝓝 x y) → arcs j < n → Covered 𝓛 (L x y) (weight j)) → (s ≡ t → ⊥) → Peeled 𝓝 (side s t) k → Covered 𝓛 (L s t) (weight k)
            step below apart z =
                let rest = below z.from z.to (labels.closed pair apart z.peel) z.rest (omega (arith, z.shorter)) in
                let met = (all.test pair apart).complete z.peel rest.member in
                covered_more lawful met (W.⊑_trans (⊕_mono_right W z.arc rest.has) (⊑_of_eq W z.adds))

            here : s ≡ t → Covered 𝓛 (L s t) (weight k)
            here e = record { entry = 𝟘; member = rw (labels.alone pair e) (Memᴰ.head refl); has = W.𝟘_least (weight k) }

        -- no entry beats another, whichever way a pair stands
        entries-unbeaten : {s t : ℕ} → P s t → {p q : Weight} → Memᴰ p (L s t) → Memᴰ q (L s t) → Beats 𝓛 p q → ⊥
        entries-unbeaten {s} {t} pair m k b =
            by_cases (ℕ_discrete s t) (λ e. b.smaller (only pair e m ∙ sym (only pair e k))) (λ apart. (all.test pair apart).unbeaten m k b)

        lists_rise : {s t : ℕ} → P s t → Rising 𝓛 (L s t)
        lists_rise {s} {t} pair = by_cases (ℕ_discrete s t) (λ e. rw (labels.alone pair e) one) (λ apart. (all.test pair apart).rising)

        -- Lists that pass the local test are the trade-off lists of their pairs
        pub local_test_shows : {s t : ℕ} → P s t → IsTradeOff 𝓝 s t (L s t)
        local_test_shows {s} {t} pair =
            covering_is_trade_off lawful (lists_rise pair)
            (λ p m. member_walks (suc (time 𝓛 p)) s t p pair m (omega arith))
            (λ p q m k b. entries-unbeaten pair m k b)
            (λ k. walks_covered (suc (arcs k)) s t pair k (omega arith))

      -- ---- What shows the test

      -- Trade-off lists pass the local test
      pub trade_offs_pass : AllTradeOffs 𝓝 P L → {s t : ℕ} → P s t → (s ≡ t → ⊥) → LocallyRight 𝓝 L (side s t) s t
      trade_offs_pass lists {s} {t} pair apart =
          record {
            rising = (lists.right pair).rising;
            unbeaten = trade_off_none_beaten lawful (lists.right pair);
            sound = sound;
            complete = complete;
          }
        where
          -- an unbeaten walk less an arc is unbeaten
          sound : {p : Weight} → Memᴰ p (L s t) → Met 𝓝 L (side s t) s t p
          sound {p} m =
              let sky = (lists.right pair).real m in
              let z = peeled (side s t) sky.walk apart in
              let rest =
              rest-unbeaten lawful z.arc z.rest (attach z.peel) (λ other b. sky.unbeaten other (beats_cast lawful refl b (z.adds ∙ sky.weighs))) in
              record {
                from = z.from;
                to = z.to;
                arc = z.arc;
                rest = weight z.rest;
                peel = z.peel;
                member = (lists.right (labels.closed pair apart z.peel)).complete rest;
                adds = z.adds ∙ sky.weighs;
              }

          complete : {x y : ℕ} {w q : Weight} → Peel 𝓝 (side s t) s t x y w → Memᴰ q (L x y) → Covered 𝓛 (L s t) (w ⊕ q)
          complete {w = w} peel m =
              let rest = (lists.right (labels.closed pair apart peel)).real m in
              let whole = attach peel rest.walk in
              covered_more lawful (walk-covered lawful (lists.right pair) whole.walk) (⊑_of_eq W (whole.weighs ∙ ap (λ z. w ⊕ z) rest.weighs))

      -- The local test is exact
      pub local_test_exact : AllLocallyRight 𝓝 P side L ↔ AllTradeOffs 𝓝 P L
      local_test_exact = (λ all. record { right = local_test_shows all }, λ lists. record { test = trade_offs_pass lists })
