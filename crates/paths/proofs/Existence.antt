-- In a network of finitely many arcs every two junctions have a trade-off list.
-- In this order: walks by their inner junctions; a covering list is enough; no inner junction; one junction more; all junctions;
-- networks of listed roads.
use mathlib.Core.Path.{◌≡◌, refl, sym, ap, ap₂, ◌∙◌}
use mathlib.Core.Logic.Dec
use mathlib.Core.Logic.{◌⊎◌, inl, inr, ⊎_elim}
use mathlib.Core.List.Memᴰ
use mathlib.Core.List.{List, [], ◌∷◌, ◌++◌, map, Memᴰ}
use Prim.Native.Nat.{ℕ, ◌≤◌}
use native.Mathlib.Decide.{ℕ_discrete, dec_le}
use Rattle.paths.specs.Figures.{Figures, Lawful}
use Rattle.paths.specs.Weights.{Found, Covered, weights, energy, time}
use Rattle.paths.specs.Network.{Network, Hop, Walk, stay, go, Finite, weight}
use Rattle.paths.specs.TradeOff.{IsSum}
use Rattle.paths.specs.Examples.{Road, both_ways, network_of}
use Rattle.paths.proofs.Weights.{weights_lawful, ⊑_of_eq, ⊕_mono_both, ⊕_mono_right, part_⊑_right}
use Rattle.paths.proofs.Walks.{WalkOf, single, ◌then◌, weight_one, weight_then}
use Rattle.paths.proofs.Covering.{TradeOffs, covered_more, covering_is_trade_off}
use Rattle.paths.proofs.Skyline.{Listing, listing_if, listing_gather, listing_chosen, listing_sums, skyline_of}

module _ {𝓛 : Figures} (𝓝 : Network 𝓛) where
  open weights 𝓛 use {Figure as Weight}
  open 𝓝 use {Arc}

  -- a walk, each of whose inner junctions stands in vs
  data Via (vs : List ℕ) : ℕ → ℕ → Type 0 where
    here : {s : ℕ} → Via vs s s
    arc : {s t r : ℕ} {w : Weight} → Arc s t r w → Via vs s t
    by : {s v t r : ℕ} {w : Weight} → Arc s v r w → Memᴰ v vs → Via vs v t → Via vs s t

module _ {𝓛 : Figures} {𝓝 : Network 𝓛} where
  -- the sum over its arcs
  weigh : {vs : List ℕ} {s t : ℕ} → Via 𝓝 vs s t → (weights 𝓛).Figure
  weigh here = (weights 𝓛).𝟘
  weigh (arc {w = w} a) = w
  weigh (by {w = w} a m rest) = (weights 𝓛).◌⊕◌ w (weigh rest)

module _ {𝓛 : Figures} (𝓝 : Network 𝓛) where
  -- weights of walks from s to t, one below each walk with inner junctions in vs
  record Cover (vs : List ℕ) (s t : ℕ) : Type 0 where
    list : List (weights 𝓛).Figure
    real : {p : (weights 𝓛).Figure} → Memᴰ p list → WalkOf 𝓝 s t p
    covers : (w : Via 𝓝 vs s t) → Covered 𝓛 list (weigh w)

  -- a walk with inner junctions in v ∷ vs avoids v inside, or it passes v
  data Around (vs : List ℕ) (v s t : ℕ) (p : (weights 𝓛).Figure) : Type 0 where
    avoids : (w : Via 𝓝 vs s t) → (weights 𝓛).◌⊑◌ (weigh w) p → Around vs v s t p
    passes : (w : Via 𝓝 vs s v) (k : Via 𝓝 vs v t) → (weights 𝓛).◌⊑◌ ((weights 𝓛).◌⊕◌ (weigh w) (weigh k)) p → Around vs v s t p

  -- a walk with inner junctions in vs, of the weight of w
  record Followed (vs : List ℕ) {s t : ℕ} (w : Walk 𝓝 s t) : Type 0 where
    via : Via 𝓝 vs s t
    weighs : weigh via ≡ weight w

module _ {𝓛 : Figures} (lawful : Lawful 𝓛) where
  abbrev W : Lawful (weights 𝓛)
  W = weights_lawful lawful

  open weights 𝓛 use {Figure as Weight, ◌⊕◌, 𝟘, ◌⊑◌}

  infixl 60 ◌⊕◌
  infix 40 ◌⊑◌
  module _ {𝓝 : Network 𝓛} where
    -- weights of walks that cover every walk are enough: their skyline is the trade-off list
    pub trade_off_of_cover :
        {s t : ℕ} (m : List Weight) → ((p : Weight) → Memᴰ p m → WalkOf 𝓝 s t p) → ((w : Walk 𝓝 s t) → Covered 𝓛 m (weight w)) →
        TradeOffs 𝓝 s t
    trade_off_of_cover m taken covers =
        let z = skyline_of lawful m in
        record {
          list = z.list;
          is_trade_off =
              covering_is_trade_off lawful z.rising
              (λ p k. taken p (z.from k))
              (λ p q j k b. z.unbeaten k (z.from j) b)
              (λ w. let f = covers w in covered_more lawful (z.covers f.member) f.has);
        }

    -- no inner junction: to stay, or one arc
    module _ (finite : Finite 𝓝) where
      -- an arc from s to t
      abbrev Leads : ℕ → ℕ → Hop 𝓛 → Type 0
      Leads s t h = (h.from ≡ s) × (h.to ≡ t)

      leads? : (s t : ℕ) (h : Hop 𝓛) → Dec (Leads s t h)
      leads? s t h = Dec.and (ℕ_discrete h.from s) (ℕ_discrete h.to t)

      staying : (s t : ℕ) → Listing (λ p. (s ≡ t) × (p ≡ 𝟘))
      staying s t = listing_if (ℕ_discrete s t) 𝟘

      single-arcs : (s t : ℕ) → Listing (λ p. Found (λ h. Leads s t h × (p ≡ h.weighs)) finite.hops)
      single-arcs s t = listing_gather (λ h p. Leads s t h × (p ≡ h.weighs)) (λ h. listing_if (leads? s t h) h.weighs) finite.hops

      cover_direct : (s t : ℕ) → Cover 𝓝 [] s t
      unfolding weigh weight
      cover_direct s t =
          record {
            list = (staying s t).list ++ (single-arcs s t).list;
            real =
                λ m.
                ⊎_elim
                (λ k. stayed ((staying s t).only k))
                (λ k. gone ((single-arcs s t).only k))
                (Memᴰ.append_cases (staying s t).list m);
            covers = λ w. covered w;
          }
        where
          stayed : {p : Weight} → (s ≡ t) × (p ≡ 𝟘) → WalkOf 𝓝 s t p
          stayed h = rw h.0 (record { walk = stay; weighs = sym h.1 })

          gone : {p : Weight} → Found (λ h. Leads s t h × (p ≡ h.weighs)) finite.hops → WalkOf 𝓝 s t p
          gone f =
              let a = finite.real f.entry f.member in
              rw (← f.has.0.0, ← f.has.0.1) (record { walk = single 𝓝 a; weighs = weight_one lawful 𝓝 a ∙ sym f.has.1 })

          covered : {x y : ℕ} (w : Via 𝓝 [] x y) → Covered 𝓛 ((staying x y).list ++ (single-arcs x y).list) (weigh w)
          covered (here {s = x}) =
              record { entry = 𝟘; member = Memᴰ.append_left (single-arcs x x).list ((staying x x).all (refl, refl)); has = W.⊑_refl 𝟘 }
          covered (arc {s = x} {t = y} {w = p} a) =
              record {
                entry = p;
                member =
                    Memᴰ.append_right (staying x y).list
                    ((single-arcs x y).all (record { entry = _; member = finite.listed a; has = ((refl, refl), refl) }));
                has = W.⊑_refl p;
              }
          covered (by a m rest) = absurd (Memᴰ.not-nil m)

    -- an arc to v, then a walk from v
    arc_passes :
        {vs : List ℕ} {u v s t r : ℕ} {p q : Weight} (k : Via 𝓝 vs u t) → weigh k ⊑ q → 𝓝.Arc s u r p → u ≡ v → Around 𝓝 vs v s t (p ⊕ q)
    unfolding weigh
    arc_passes {p = p} k h a e = rw (sym e) (passes (arc a) k (⊕_mono_right W p h))

    -- the first visit of v and the last one leave a walk to v and a walk from v
    around : {vs : List ℕ} {v s t : ℕ} (w : Via 𝓝 (v ∷ vs) s t) → Around 𝓝 vs v s t (weigh w)
    unfolding weigh
    around here = avoids here (W.⊑_refl _)
    around (arc a) = avoids (arc a) (W.⊑_refl _)
    around {vs} {v} (by {s = s} {v = u} {t = t} {w = p} a m rest) = pick (Memᴰ.cases_cons m) (around rest)
      where
        pick : (u ≡ v) ⊎ Memᴰ u vs → Around 𝓝 vs v u t (weigh rest) → Around 𝓝 vs v s t (p ⊕ weigh rest)
        pick (inl e) (avoids w h) = arc_passes w h a e
        pick (inl e) (passes w k h) = arc_passes k (W.⊑_trans (part_⊑_right W (weigh w) (weigh k)) h) (rw e at a) refl
        pick (inr m') (avoids w h) = avoids (by a m' w) (⊕_mono_right W p h)
        pick (inr m') (passes w k h) = passes (by a m' w) k (W.⊑_trans (⊑_of_eq W (W.⊕_assoc p (weigh w) (weigh k))) (⊕_mono_right W p h))

    -- one inner junction more: sums of what leads to it and what leads on
    cover-more : {vs : List ℕ} {v s t : ℕ} → Cover 𝓝 vs s t → Cover 𝓝 vs s v → Cover 𝓝 vs v t → Cover 𝓝 (v ∷ vs) s t
    cover-more {vs} {v} {s} {t} straight toward onward =
        record {
          list = straight.list ++ sums.list;
          real = λ m. ⊎_elim (λ k. straight.real k) (λ k. joined (sums.only k)) (Memᴰ.append_cases straight.list m);
          covers = λ w. pick (around w);
        }
      where
        sums : Listing (IsSum 𝓛 toward.list onward.list)
        sums = listing_sums 𝓛 toward.list onward.list

        joined : {p : Weight} → IsSum 𝓛 toward.list onward.list p → WalkOf 𝓝 s t p
        joined i =
            let first = toward.real i.in_first in
            let second = onward.real i.in_second in
            record {
              walk = first.walk then second.walk;
              weighs = weight_then lawful first.walk second.walk ∙ ap₂ ◌⊕◌ first.weighs second.weighs ∙ i.adds;
            }

        pick : {p : Weight} → Around 𝓝 vs v s t p → Covered 𝓛 (straight.list ++ sums.list) p
        pick (avoids w h) =
            let f = straight.covers w in
            record { entry = f.entry; member = Memᴰ.append_left sums.list f.member; has = W.⊑_trans f.has h }
        pick (passes w k h) =
            let f = toward.covers w in
            let g = onward.covers k in
            record {
              entry = f.entry ⊕ g.entry;
              member =
                  Memᴰ.append_right straight.list
                  (sums.all (record { left = f.entry; right = g.entry; in_first = f.member; in_second = g.member; adds = refl }));
              has = W.⊑_trans (⊕_mono_both W f.has g.has) h;
            }

    -- one list for each two junctions and each list of allowed inner junctions
    cover : Finite 𝓝 → (vs : List ℕ) (s t : ℕ) → Cover 𝓝 vs s t
    cover finite [] s t = cover_direct finite s t
    cover finite (v ∷ vs) s t = cover-more (cover finite vs s t) (cover finite vs s v) (cover finite vs v t)

    -- every inner junction of a walk is the end of an arc
    followed : (finite : Finite 𝓝) {s t : ℕ} (w : Walk 𝓝 s t) → Followed 𝓝 (map (λ h. h.to) finite.hops) w
    unfolding weigh weight
    followed finite stay = record { via = here; weighs = refl }
    followed finite (go {w = p} a w) =
        let z = followed finite w in
        record { via = by a (Memᴰ.map (λ h. h.to) (finite.listed a)) z.via; weighs = ap (λ q. p ⊕ q) z.weighs }

    -- Every two junctions have a trade-off list
    pub trade_off_exists : Finite 𝓝 → (s t : ℕ) → TradeOffs 𝓝 s t
    trade_off_exists finite s t =
        let c = cover finite (map (λ h. h.to) finite.hops) s t in
        trade_off_of_cover c.list (λ p m. c.real m) (λ w. let z = followed finite w in rw z.weighs at (c.covers z.via))

-- A network of listed roads has finitely many arcs: those of its list that take time
unfoldable pub listed_finite : (roads : List Road) → Finite (network_of roads)
unfolding network_of both_ways listing_chosen dec_le
listed_finite roads =
    let slow = listing_chosen (λ h. 1 ≤ time energy h.weighs) (λ h. dec_le 1 (time energy h.weighs)) (both_ways 0 roads) in
    record {
      hops = slow.list;
      real = λ h m. let c = slow.only m in record { stands = c.member; slow = c.has };
      listed = λ a. slow.all (record { member = a.stands; has = a.slow });
    }
