-- Tests of a closed network of finitely many arcs that compute, and what follows where they pass.
-- In this order: ordered lists; a best entry; a join; the local test; the test of a first route; what follows.
use mathlib.Core.Path.{◌≡◌, refl, sym, subst}
use mathlib.Core.Logic.Dec
use mathlib.Core.Logic.{◌⊎◌, inl, inr}
use mathlib.Core.List.Memᴰ
use mathlib.Core.List.{List, [], ◌∷◌, Memᴰ}
use Prim.Native.Nat.{ℕ, ◌≤◌, ◌<◌}
use native.Mathlib.Decide.{ℕ_discrete, dec_le, dec_lt}
use native.Mathlib.Omega.{arith}
use Rattle.paths.specs.Figures.{Lawful}
use Rattle.paths.specs.Weights.{Found, Covered, weights, energy, spent, time, Within, Sooner, NotLater, sooner}
use Rattle.paths.specs.Network.{Network, Hop, Finite, weight}
use Rattle.paths.specs.TradeOff.{IsTradeOff, UnbeatenSum, IsSum, IsJoin, Ordered, none, one, more}
use Rattle.paths.specs.Route.{FirstRoute}
use Rattle.paths.proofs.Decisions.{map?, if?, all?, below?}
use Rattle.paths.proofs.Figures.{number_lawful}
use Rattle.paths.proofs.Weights.{weights_lawful, same?, ⊑_of_eq, ⊕_mono_right, ⊑_then_beats, sooner_irrefl, not_later_antisym, compare_answers}
use Rattle.paths.proofs.Covering.{found?, covered?, covered-stands, walk-covered}
use Rattle.paths.proofs.Answers.{BestEntry}
use Rattle.paths.proofs.Local.{start, Peel, first, last_one, Met, LocallyRight, local_test_shows}
use Rattle.paths.proofs.OneLimit.{ordered-rises, ordered_none_beaten}
use Rattle.paths.proofs.RouteStep.{stay-route, first_among_same, first_step, rest_of_only_arc}
open weights energy use {Figure as Weight, ◌⊕◌, 𝟘, ◌⊑◌}

infixl 60 ◌⊕◌
infix 40 ◌⊑◌
abbrev W : Lawful (weights energy)
W = weights_lawful number_lawful

-- energy rises and time falls from each entry to the next
unfoldable pub ordered? : (l : List Weight) → Dec (Ordered l)
unfolding map? Dec.and dec_lt
ordered? [] = yes none
ordered? (p ∷ []) = yes one
ordered? (p ∷ q ∷ l) =
    map? (λ z. more z.0 z.1.0 z.1.1) back
    (Dec.and (dec_lt (spent energy p) (spent energy q)) (Dec.and (dec_lt (time energy q) (time energy p)) (ordered? (q ∷ l))))
  where
    back : Ordered (p ∷ q ∷ l) → (spent energy p < spent energy q) × ((time energy q < time energy p) × Ordered (q ∷ l))
    back (more h k o) = (h, (k, o))

-- ---- The test of a best entry

-- p comes no later than q as an answer
unfoldable pub not_later? : (p q : Weight) → Dec (NotLater energy p q)
unfolding compare_answers number_lawful
not_later? p q = pick (compare_answers number_lawful p q)
  where
    pick : NotLater energy p q ⊎ Sooner energy q p → Dec (NotLater energy p q)
    pick (inl h) = yes h
    pick (inr k) = no (λ h. sooner_irrefl number_lawful k (sym (not_later_antisym number_lawful h (sooner k))))

-- p stands in l, within the limit, and no entry within it comes sooner
unfoldable pub best_entry? : (l : List Weight) (limit : ℕ) (p : Weight) → Dec (BestEntry energy l limit p)
unfolding map? Dec.and if? all? found? not_later? same? weights_lawful number_lawful dec_le
best_entry? l limit p =
    map?
    (λ z. record { member = Memᴰ.cast (sym z.0.has) z.0.member; within = z.1.0; least = λ {q} m h. z.1.1 q m h })
    (λ b. (record { entry = p; member = b.member; has = refl }, (b.within, λ q m h. b.least m h)))
    (Dec.and (found? _ (λ q. same? W q p) l)
    (Dec.and (dec_le (spent energy p) limit)
    (all? (λ q. if? (dec_le (spent energy q) limit) (not_later? p q)) l)))

-- no entry of l is within the limit
abbrev pub NoneWithin : List Weight → ℕ → Type 0
NoneWithin l limit = (q : Weight) → Memᴰ q l → Within energy limit q → ⊥

unfoldable pub none_within? : (l : List Weight) (limit : ℕ) → Dec (NoneWithin l limit)
unfolding all? Dec.not dec_le
none_within? l limit = all? (λ q. Dec.not (dec_le (spent energy q) limit)) l

-- ---- The test of a join

-- r is ordered, each of its entries is a sum of an entry of k and one of l, and each such sum is covered
pub record JoinAgrees (k l r : List Weight) : Type 0 where
  pub ordered : Ordered r
  pub met : (p : Weight) → Memᴰ p r → Found (λ a. Found (λ b. a ⊕ b ≡ p) l) k
  pub covers : (a : Weight) → Memᴰ a k → (b : Weight) → Memᴰ b l → Covered energy r (a ⊕ b)

unfoldable pub join-agrees? : (k l r : List Weight) → Dec (JoinAgrees k l r)
unfolding map? Dec.and all? found? ordered? covered? same? weights_lawful number_lawful
join-agrees? k l r =
    map? (λ z. record { ordered = z.0; met = z.1.0; covers = z.1.1 }) (λ j. (j.ordered, (j.met, j.covers)))
    (Dec.and (ordered? r)
    (Dec.and
    (all? (λ p. found? _ (λ a. found? _ (λ b. same? W (a ⊕ b) p) l) k) r)
    (all? (λ a. all? (λ b. covered? number_lawful r (a ⊕ b)) l) k)))

-- then it is their join: what beats an entry lies above another, and an ordered list has no two such
pub agrees-join : {k l r : List Weight} → JoinAgrees k l r → IsJoin energy k l r
agrees-join {k} {l} {r} agrees = record { rising = ordered-rises agrees.ordered; real = real; complete = complete }
  where
    is_sum : {p : Weight} → Memᴰ p r → IsSum energy k l p
    is_sum {p} m =
        let f = agrees.met p m in
        record { left = f.entry; right = f.has.entry; in_first = f.member; in_second = f.has.member; adds = f.has.has }

    covered : {p : Weight} → IsSum energy k l p → Covered energy r p
    covered s = subst (Covered energy r) s.adds (agrees.covers s.left s.in_first s.right s.in_second)

    real : {p : Weight} → Memᴰ p r → UnbeatenSum energy k l p
    real {p} m =
        record {
          sum = is_sum m;
          unbeaten = λ q s b. let f = covered s in ordered_none_beaten agrees.ordered f.entry p f.member m (⊑_then_beats number_lawful f.has b);
        }

    complete : {p : Weight} → UnbeatenSum energy k l p → Memᴰ p r
    complete u = covered-stands number_lawful (covered u.sum) (λ q m b. u.unbeaten q (is_sum m) b)

module _ {𝓝 : Network energy} (finite : Finite 𝓝) (L : ℕ → ℕ → List Weight) where
  -- ---- The local test at the start of every two junctions, over the list of arcs

  pub record Agrees (s t : ℕ) : Type 0 where
    pub ordered : Ordered (L s t)
    -- each entry is an arc from s and an entry of what is left
    pub met :
        (p : Weight) → Memᴰ p (L s t) → Found (λ h. (h.from ≡ s) × Found (λ q. h.weighs ⊕ q ≡ p) (L h.to t)) finite.hops
    -- and each such sum is covered
    pub covers :
        (h : Hop energy) → Memᴰ h finite.hops → h.from ≡ s →
        (q : Weight) → Memᴰ q (L h.to t) → Covered energy (L s t) (h.weighs ⊕ q)

  -- arcs lead to junctions below n, and the list of each two of those agrees
  pub record AllAgree (n : ℕ) : Type 0 where
    pub inside : (h : Hop energy) → Memᴰ h finite.hops → h.to < n
    pub agrees : (s : ℕ) → s < n → (t : ℕ) → t < n → (s ≡ t → ⊥) → Agrees s t

  unfoldable pub agrees? : (s t : ℕ) → Dec (Agrees s t)
  unfolding map? Dec.and if? all? found? ordered? covered? same? weights_lawful number_lawful ℕ_discrete
  agrees? s t =
      map? (λ z. record { ordered = z.0; met = z.1.0; covers = z.1.1 }) (λ a. (a.ordered, (a.met, a.covers)))
      (Dec.and (ordered? (L s t))
      (Dec.and
      (all? (λ p. found? _ (λ h. Dec.and (ℕ_discrete h.from s) (found? _ (λ q. same? W (h.weighs ⊕ q) p) (L h.to t))) finite.hops) (L s t))
      (all? (λ h. if? (ℕ_discrete h.from s) (all? (λ q. covered? number_lawful (L s t) (h.weighs ⊕ q)) (L h.to t))) finite.hops)))

  unfoldable pub all_agree? : (n : ℕ) → Dec (AllAgree n)
  unfolding map? Dec.and Dec.not if? all? below? agrees? dec_lt ℕ_discrete
  all_agree? n =
      map? (λ z. record { inside = z.0; agrees = z.1 }) (λ a. (a.inside, a.agrees))
      (Dec.and (all? (λ h. dec_lt h.to n) finite.hops)
      (below? (λ s. below? (λ t. if? (Dec.not (ℕ_discrete s t)) (agrees? s t)) n) n))

  -- ---- The test of a first route, by the lists

  -- h leads from s to v as every arc between the two does, and no arc to a smaller junction leaves an entry that fits into p
  pub record Begins (s v t : ℕ) (p : Weight) (h : Hop energy) : Type 0 where
    pub leads : (h.from ≡ s) × (h.to ≡ v)
    pub only : (k : Hop energy) → Memᴰ k finite.hops → (k.from ≡ s) × (k.to ≡ v) → k.weighs ≡ h.weighs
    pub smallest :
        (k : Hop energy) → Memᴰ k finite.hops → k.from ≡ s →
        (q : Weight) → Memᴰ q (L k.to t) → k.weighs ⊕ q ⊑ p → v ≤ k.to

  -- and so on from v, with an entry of the list that is left for the rest of p
  abbrev pub Leads : ℕ → List ℕ → ℕ → Weight → Type 0
  Leads s [] t p = (s ≡ t) × (p ≡ 𝟘)
  Leads s (v ∷ js) t p =
      (s ≡ t → ⊥) × Found (λ h. Begins s v t p h × Found (λ q. (h.weighs ⊕ q ≡ p) × Leads v js t q) (L v t)) finite.hops

  unfoldable pub begins? : (s v t : ℕ) (p : Weight) (h : Hop energy) → Dec (Begins s v t p h)
  unfolding map? Dec.and if? all? same? weights_lawful number_lawful ℕ_discrete dec_le
  begins? s v t p h =
      map? (λ z. record { leads = z.0; only = z.1.0; smallest = z.1.1 }) (λ b. (b.leads, (b.only, b.smallest)))
      (Dec.and (between? h)
      (Dec.and (all? (λ k. if? (between? k) (same? W k.weighs h.weighs)) finite.hops)
      (all? (λ k. if? (ℕ_discrete k.from s) (all? (λ q. if? (W.⊑_decide (k.weighs ⊕ q) p) (dec_le v k.to)) (L k.to t))) finite.hops)))
    where
      between? : (k : Hop energy) → Dec ((k.from ≡ s) × (k.to ≡ v))
      between? k = Dec.and (ℕ_discrete k.from s) (ℕ_discrete k.to v)

  unfoldable pub leads? : (s : ℕ) (js : List ℕ) (t : ℕ) (p : Weight) → Dec (Leads s js t p)
  unfolding Dec.and Dec.not found? begins? same? weights_lawful number_lawful ℕ_discrete
  leads? s [] t p = Dec.and (ℕ_discrete s t) (same? W p 𝟘)
  leads? s (v ∷ js) t p =
      Dec.and (Dec.not (ℕ_discrete s t))
      (found? _ (λ h. Dec.and (begins? s v t p h) (found? _ (λ q. Dec.and (same? W (h.weighs ⊕ q) p) (leads? v js t q)) (L v t))) finite.hops)

-- ---- What follows where the local test passes, and the list of each junction and itself is 𝟘 alone

module _ {𝓝 : Network energy} {finite : Finite 𝓝} {L : ℕ → ℕ → List Weight} where
  -- every arc from s is in the list, so the list of s and t is locally right
  agrees-right : {s t : ℕ} → Agrees finite L s t → LocallyRight 𝓝 L start s t
  agrees-right {s} {t} z =
      record {
        rising = ordered-rises z.ordered;
        unbeaten = λ {p} {q} m k b. ordered_none_beaten z.ordered p q m k b;
        sound = sound;
        complete = complete;
      }
    where
      sound : {p : Weight} → Memᴰ p (L s t) → Met 𝓝 L start s t p
      sound {p} m =
          let f = z.met p m in
          record {
            from = f.entry.to;
            to = t;
            arc = f.entry.weighs;
            rest = f.has.1.entry;
            peel = first refl refl (rw f.has.0 at (finite.real f.entry f.member));
            member = f.has.1.member;
            adds = f.has.1.has;
          }

      complete : {x y : ℕ} {w q : Weight} → Peel 𝓝 start s t x y w → Memᴰ q (L x y) → Covered energy (L s t) (w ⊕ q)
      complete {q = q} (first e f a) m = z.covers _ (finite.listed a) refl q (rw f at m)
      complete (last_one e f a) m = let impossible : ◌≡◌ {A = ℕ} 0 1 = cc in absurd (omega arith)

  module _ {n : ℕ} (alone : (s : ℕ) → L s s ≡ 𝟘 ∷ []) (all : AllAgree finite L n) where
    -- every list is the trade-off list
    pub lists-right : {s t : ℕ} → s < n → t < n → IsTradeOff 𝓝 s t (L s t)
    lists-right hs ht =
        local_test_shows number_lawful 𝓝 (λ x y. (x < n) × (y < n)) (λ x y. start) L
        (record { closed = closed; alone = λ {t = y} pair e. rw e (alone y) })
        (record { test = λ {s = x} {t = y} pair apart. agrees-right (all.agrees x pair.0 y pair.1 apart) })
        (hs, ht)
      where
        closed : {s t x y : ℕ} {w : Weight} → (s < n) × (t < n) → (s ≡ t → ⊥) → Peel 𝓝 start s t x y w → (x < n) × (y < n)
        closed pair apart (first e f a) = (all.inside _ (finite.listed a), rw f pair.1)
        closed pair apart (last_one e f a) = let impossible : ◌≡◌ {A = ℕ} 0 1 = cc in absurd (omega arith)

    -- and a route that passes its test comes first: below what a smaller junction leaves lies an entry, which does not fit
    pub leads-first : {t : ℕ} → t < n → (s : ℕ) (js : List ℕ) (p : Weight) → Leads finite L s js t p → FirstRoute 𝓝 s t p (s ∷ js)
    leads-first {t} ht s [] p z = rw (z.0, z.1) (stay-route 𝓝 t)
    leads-first {t} ht s (v ∷ js) p z =
        let h = z.1.entry in
        let begins = z.1.has.0 in
        let rest = z.1.has.1 in
        let arc : 𝓝.Arc s v h.number h.weighs = rw begins.leads.0 at (rw begins.leads.1 at (finite.real h z.1.member)) in
        let only : (r : ℕ) (w : Weight) → 𝓝.Arc s v r w → w ≡ h.weighs = λ r w a. begins.only _ (finite.listed a) (refl, refl) in
        let later = leads-first ht v js rest.entry rest.has.1 in
        first_step z.0
        (first_among_same (λ k. let w = rest_of_only_arc number_lawful 𝓝 arc only rest.has.0 (weight k) in (w.1, w.0)) later)
        (λ x k y.
        let c = walk-covered number_lawful (lists-right (all.inside _ (finite.listed y.arc)) ht) k in
        begins.smallest _ (finite.listed y.arc) refl c.entry c.member
        (W.⊑_trans (⊕_mono_right W y.weighs c.has) (⊑_of_eq W y.wanted)))
