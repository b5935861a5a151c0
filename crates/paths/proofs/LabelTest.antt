-- The local test of two-way labels: lists stored for each junction and each of its proper ancestors are all right exactly if each
-- agrees, road by road of its junction, with the lists one road further. One test for each stored list is enough.
-- In this order: what is shown of all lists; how two junctions stand; the test is exact.
use mathlib.Core.Path.{◌≡◌, refl, sym, ◌∙◌}
use mathlib.Core.Logic.{◌⊎◌, inl, inr, ⊎_elim, ◌↔◌}
use mathlib.Core.List.Memᴰ
use mathlib.Core.List.{List, [], ◌∷◌, Memᴰ}
use Prim.Native.Nat.{ℕ}
use native.Mathlib.Decide.{ℕ_discrete}
use native.Mathlib.Omega.{arith}
use Rattle.paths.specs.Figures.{Figures, Lawful}
use Rattle.paths.specs.Weights.{weights, Beats, Covered, Rising, one}
use Rattle.paths.specs.Network.{Network, stay, weight}
use Rattle.paths.specs.TradeOff.{Skyline, IsTradeOff}
use Rattle.paths.specs.Forest.{Parents, Above, IsForest, Related, RoadsJoinRelated}
use Rattle.paths.specs.LocalTest.{Rest, arrived, below, above, MetFrom, ListAgrees}
use Rattle.paths.proofs.Weights.{weights_lawful, unbeaten-below}
use Rattle.paths.proofs.Local.{Side, start, finish, Peel, first, last_one, Met, LocallyRight, Labels, AllLocallyRight, AllTradeOffs, local_test_exact}
use Rattle.paths.proofs.Forest.{above_irrefl, above?, above_trans, ancestor_trans, ancestors_related}
use Rattle.paths.proofs.TwoWay.{TwoWay, trade_off_back}

module _ {𝓛 : Figures} (𝓝 : Network 𝓛) (parent : Parents) (stored : ℕ → ℕ → List (weights 𝓛).Figure) where
  open weights 𝓛 use {Figure as Weight}

  -- every stored list agrees with those one road further
  pub record AllAgree : Type 0 where
    pub agrees : {v u : ℕ} → Above parent u v → ListAgrees 𝓝 parent stored v u

  -- every stored list is the trade-off list of its two junctions
  pub record AllRight : Type 0 where
    pub right : {v u : ℕ} → Above parent u v → IsTradeOff 𝓝 v u (stored v u)

  -- every stored list rises and has no beaten entry: the form of a label file sees to it
  pub record AllOrdered : Type 0 where
    pub rises : {v u : ℕ} → Above parent u v → Rising 𝓛 (stored v u)
    pub unbeaten : {v u : ℕ} → Above parent u v → (p q : Weight) → Memᴰ p (stored v u) → Memᴰ q (stored v u) → Beats 𝓛 p q → ⊥

-- the list of a junction and itself is 𝟘 alone
pub alone_trade_off : {𝓛 : Figures} (lawful : Lawful 𝓛) {𝓝 : Network 𝓛} (s : ℕ) → IsTradeOff 𝓝 s s ((weights 𝓛).𝟘 ∷ [])
unfolding weight
alone_trade_off {𝓛} lawful {𝓝} s = record { rising = one; real = real; complete = complete }
  where
    real : {p : (weights 𝓛).Figure} → Memᴰ p ((weights 𝓛).𝟘 ∷ []) → Skyline 𝓝 s s p
    real {p} m =
        let e = Memᴰ.eq_of_singleton m in
        record {
          walk = stay;
          weighs = sym e;
          unbeaten = λ other b. b.smaller ((weights_lawful lawful).⊑_antisym b.no_larger (⊑_cast e ((weights_lawful lawful).𝟘_least (weight other))));
        }
      where
        ⊑_cast : {a b c : (weights 𝓛).Figure} → a ≡ b → (weights 𝓛).◌⊑◌ b c → (weights 𝓛).◌⊑◌ a c
        ⊑_cast f h = rw f h

    complete : {p : (weights 𝓛).Figure} → Skyline 𝓝 s s p → Memᴰ p ((weights 𝓛).𝟘 ∷ [])
    complete {p} sky = Memᴰ.head (sym (unbeaten-below lawful ((weights_lawful lawful).𝟘_least p) (λ b. sky.unbeaten stay b)))

module _ {𝓛 : Figures} (lawful : Lawful 𝓛) {𝓝 : Network 𝓛} {parent : Parents} {stored : ℕ → ℕ → List (weights 𝓛).Figure}
    (two_way : TwoWay 𝓝) (joined : RoadsJoinRelated 𝓝 parent) (forest : IsForest parent) (ordered : AllOrdered 𝓝 parent stored) where
  open weights 𝓛 use {Figure as Weight, ◌⊕◌, 𝟘}

  infixl 60 ◌⊕◌
  -- how two junctions stand to each other
  data Stand (x y : ℕ) : Type 0 where
    here : x ≡ y → Stand x y
    under : Above parent y x → Stand x y
    over : Above parent x y → Stand x y
    unrelated : (Related parent x y → ⊥) → Stand x y

  stand : (x y : ℕ) → Stand x y
  stand x y = pick (ℕ_discrete x y) (above? forest y x) (above? forest x y)
    where
      pick : Dec (x ≡ y) → Dec (Above parent y x) → Dec (Above parent x y) → Stand x y
      pick (yes e) k l = here e
      pick (no e) (yes k) l = under k
      pick (no e) (no k) (yes l) = over l
      pick (no e) (no k) (no l) = unrelated (⊎_elim (⊎_elim (λ z. e z) l) (⊎_elim (λ z. e (sym z)) k))

  list_for : {x y : ℕ} → Stand x y → List Weight
  list_for {x} {y} (here e) = 𝟘 ∷ []
  list_for {x} {y} (under k) = stored x y
  list_for {x} {y} (over k) = stored y x
  list_for {x} {y} (unrelated n) = []

  side_for : {x y : ℕ} → Stand x y → Side
  side_for (here e) = start
  side_for (under k) = start
  side_for (over k) = finish
  side_for (unrelated n) = start

  L : ℕ → ℕ → List Weight
  L x y = list_for (stand x y)

  side : ℕ → ℕ → Side
  side x y = side_for (stand x y)

  -- no junction is above itself, nor two above each other
  not_both : {x y : ℕ} → Above parent x y → Above parent y x → ⊥
  not_both h k = above_irrefl forest (above_trans h k)

  not_same : {x y : ℕ} → x ≡ y → Above parent x y → ⊥
  not_same e h = above_irrefl forest (rw e at h)

  at_same : {x y : ℕ} → x ≡ y → (L x y ≡ 𝟘 ∷ [])
  unfolding L list_for
  at_same {x} {y} e = pick (stand x y)
    where
      pick : (z : Stand x y) → list_for z ≡ 𝟘 ∷ []
      pick (here f) = refl
      pick (under k) = absurd (not_same (sym e) k)
      pick (over k) = absurd (not_same e k)
      pick (unrelated n) = absurd (n (inl (inl e)))

  at_under : {x y : ℕ} → Above parent y x → (L x y ≡ stored x y) × (side x y ≡ start)
  unfolding L side list_for side_for
  at_under {x} {y} h = pick (stand x y)
    where
      pick : (z : Stand x y) → (list_for z ≡ stored x y) × (side_for z ≡ start)
      pick (here f) = absurd (not_same (sym f) h)
      pick (under k) = (refl, refl)
      pick (over k) = absurd (not_both k h)
      pick (unrelated n) = absurd (n (inr (inr h)))

  at_over : {x y : ℕ} → Above parent x y → (L x y ≡ stored y x) × (side x y ≡ finish)
  unfolding L side list_for side_for
  at_over {x} {y} h = pick (stand x y)
    where
      pick : (z : Stand x y) → (list_for z ≡ stored y x) × (side_for z ≡ finish)
      pick (here f) = absurd (not_same f h)
      pick (under k) = absurd (not_both h k)
      pick (over k) = (refl, refl)
      pick (unrelated n) = absurd (n (inl (inr h)))

  -- the list of two related junctions holds what is left
  in_list : {x y : ℕ} {q : Weight} → Rest 𝓝 parent stored x y q → Memᴰ q (L x y)
  in_list (arrived e f) = rw (at_same e) (Memᴰ.head f)
  in_list (below k m) = rw (at_under k).0 m
  in_list (above k m) = rw (at_over k).0 m

  in_rest : {x y : ℕ} {q : Weight} → Related parent x y → Memᴰ q (L x y) → Rest 𝓝 parent stored x y q
  in_rest (inl (inl e)) m = arrived e (Memᴰ.eq_of_singleton (rw (at_same e) at m))
  in_rest (inl (inr k)) m = above k (rw (at_over k).0 at m)
  in_rest (inr (inl e)) m = arrived (sym e) (Memᴰ.eq_of_singleton (rw (at_same (sym e)) at m))
  in_rest (inr (inr k)) m = below k (rw (at_under k).0 at m)

  -- what is left from w to u is what is left from u to w
  rest_back : {x y : ℕ} {q : Weight} → Rest 𝓝 parent stored x y q → Rest 𝓝 parent stored y x q
  rest_back (arrived e f) = arrived (sym e) f
  rest_back (below k m) = above k m
  rest_back (above k m) = below k m

  -- a neighbour of a junction is related to each ancestor of that junction
  neighbour_related : {v u w : ℕ} → Above parent u v → Related parent v w → Related parent w u
  neighbour_related h (inl k) = inr (ancestor_trans (inr h) k)
  neighbour_related h (inr k) = ancestors_related k (inr h)

  related-back : {x y : ℕ} → Related parent x y → Related parent y x
  related-back (inl k) = inr k
  related-back (inr k) = inl k

  start_not_finish : start ≡ finish → ⊥
  start_not_finish e = let z : ◌≡◌ {A = ℕ} 0 1 = cc in omega arith

  -- a pair of different related junctions stands one way or the other
  different : {x y : ℕ} → Related parent x y → (x ≡ y → ⊥) → Above parent y x ⊎ Above parent x y
  different (inl (inl e)) apart = absurd (apart e)
  different (inl (inr k)) apart = inr k
  different (inr (inl e)) apart = absurd (apart (sym e))
  different (inr (inr k)) apart = inl k

  labels : Labels 𝓝 (Related parent) side L
  labels = record { closed = λ pair apart peel. closed (different pair apart) peel; alone = λ pair e. at_same e }
    where
      closed : {s t x y : ℕ} {w : Weight} → Above parent t s ⊎ Above parent s t → Peel 𝓝 (side s t) s t x y w → Related parent x y
      closed (inl k) (first e f a) = rw f (neighbour_related k (joined.joined a))
      closed (inl k) (last_one e f a) = absurd (start_not_finish (sym (at_under k).1 ∙ e))
      closed (inr k) (first e f a) = absurd (start_not_finish (sym e ∙ (at_over k).1))
      closed (inr k) (last_one e f a) = rw f (related-back (neighbour_related k (related-back (joined.joined a))))

  -- ---- One test for each stored list is enough

  module _ (all : AllAgree 𝓝 parent stored) {s t : ℕ} where
    under-right : Above parent t s → LocallyRight 𝓝 L (side s t) s t
    under-right k =
        record {
          rising = rw (at_under k).0 (ordered.rises k);
          unbeaten = λ {p} {q} m n b. ordered.unbeaten k p q (rw (at_under k).0 at m) (rw (at_under k).0 at n) b;
          sound = sound;
          complete = complete;
        }
      where
        sound : {p : Weight} → Memᴰ p (L s t) → Met 𝓝 L (side s t) s t p
        sound m =
            let z = (all.agrees k).met (rw (at_under k).0 at m) in
            record {
              from = z.to;
              to = t;
              arc = z.road;
              rest = z.rest;
              peel = first (at_under k).1 refl z.arc;
              member = in_list z.left;
              adds = z.adds;
            }

        complete : {x y : ℕ} {w q : Weight} → Peel 𝓝 (side s t) s t x y w → Memᴰ q (L x y) → Covered 𝓛 (L s t) (w ⊕ q)
        complete (first e f a) m =
            rw (at_under k).0 ((all.agrees k).covers a (in_rest (neighbour_related k (joined.joined a)) (rw f at m)))
        complete (last_one e f a) m = absurd (start_not_finish (sym (at_under k).1 ∙ e))

    over-right : Above parent s t → LocallyRight 𝓝 L (side s t) s t
    over-right k =
        record {
          rising = rw (at_over k).0 (ordered.rises k);
          unbeaten = λ {p} {q} m n b. ordered.unbeaten k p q (rw (at_over k).0 at m) (rw (at_over k).0 at n) b;
          sound = sound;
          complete = complete;
        }
      where
        sound : {p : Weight} → Memᴰ p (L s t) → Met 𝓝 L (side s t) s t p
        sound m =
            let z = (all.agrees k).met (rw (at_over k).0 at m) in
            record {
              from = s;
              to = z.to;
              arc = z.road;
              rest = z.rest;
              peel = last_one (at_over k).1 refl (two_way.back z.arc);
              member = in_list (rest_back z.left);
              adds = z.adds;
            }

        complete : {x y : ℕ} {w q : Weight} → Peel 𝓝 (side s t) s t x y w → Memᴰ q (L x y) → Covered 𝓛 (L s t) (w ⊕ q)
        complete (first e f a) m = absurd (start_not_finish (sym e ∙ (at_over k).1))
        complete (last_one e f a) m =
            let near = neighbour_related k (joined.joined (two_way.back a)) in
            rw (at_over k).0 ((all.agrees k).covers (two_way.back a) (rest_back (in_rest (related-back near) (rw f at m))))

  agree_locally : AllAgree 𝓝 parent stored → AllLocallyRight 𝓝 (Related parent) side L
  agree_locally all = record { test = λ pair apart. ⊎_elim (under-right all) (over-right all) (different pair apart) }

  locally_agree : AllLocallyRight 𝓝 (Related parent) side L → AllAgree 𝓝 parent stored
  locally_agree all = record { agrees = λ {v} {u} k. record { covers = covers k; met = met k } }
    where
      here-right : {v u : ℕ} → Above parent u v → LocallyRight 𝓝 L (side v u) v u
      here-right k = all.test (inr (inr k)) (λ e. not_same (sym e) k)

      covers : {v u : ℕ} → Above parent u v → {w r : ℕ} {a q : Weight} → 𝓝.Arc v w r a → Rest 𝓝 parent stored w u q → Covered 𝓛 (stored v u) (a ⊕ q)
      covers k a left = rw (at_under k).0 at ((here-right k).complete (first (at_under k).1 refl a) (in_list left))

      met : {v u : ℕ} → Above parent u v → {p : Weight} → Memᴰ p (stored v u) → MetFrom 𝓝 parent stored v u p
      met {v} {u} k {p} m = found ((here-right k).sound (rw (at_under k).0 m))
        where
          found : Met 𝓝 L (side v u) v u p → MetFrom 𝓝 parent stored v u p
          found z = open_up z.peel z.member
            where
              open_up : Peel 𝓝 (side v u) v u z.from z.to z.arc → Memᴰ z.rest (L z.from z.to) → MetFrom 𝓝 parent stored v u p
              open_up (first {r} e f a) n =
                  record {
                    to = z.from;
                    number = r;
                    road = z.arc;
                    arc = a;
                    rest = z.rest;
                    left = in_rest (neighbour_related k (joined.joined a)) (rw f at n);
                    adds = z.adds;
                  }
              open_up (last_one e f a) n = absurd (start_not_finish (sym (at_under k).1 ∙ e))

  -- ---- Every list, whichever way its pair stands

  all_pairs_right : AllRight 𝓝 parent stored → AllTradeOffs 𝓝 (Related parent) L
  all_pairs_right all = record { right = pick }
    where
      pick : {s t : ℕ} → Related parent s t → IsTradeOff 𝓝 s t (L s t)
      pick {s} {t} (inl (inl e)) = rw (at_same e) (rw e (alone_trade_off lawful t))
      pick (inl (inr k)) = rw (at_over k).0 (trade_off_back lawful two_way (all.right k))
      pick {s} {t} (inr (inl e)) = rw (at_same (sym e)) (rw (← e) (alone_trade_off lawful t))
      pick (inr (inr k)) = rw (at_under k).0 (all.right k)

  stored-right : AllTradeOffs 𝓝 (Related parent) L → AllRight 𝓝 parent stored
  stored-right all = record { right = λ k. rw (at_under k).0 at (all.right (inr (inr k))) }

  -- Every stored list is right exactly if every stored list agrees with those one road further
  pub label_test_exact : AllAgree 𝓝 parent stored ↔ AllRight 𝓝 parent stored
  label_test_exact = (
    λ all. stored-right ((local_test_exact lawful 𝓝 (Related parent) side L labels).0 (agree_locally all)),
    λ all. locally_agree ((local_test_exact lawful 𝓝 (Related parent) side L labels).1 (all_pairs_right all)),
  )
