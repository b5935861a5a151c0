-- Below every walk's weight lies a listed weight, so a trade-off list is all that a limited query needs of the paths.
-- In this order: the search of a list; covered weights; what holds the unbeaten covers all; joins; trade-off lists.
use mathlib.Core.Path.{refl, sym}
use mathlib.Core.Logic.{◌⊎◌, inl, inr, ⊎_elim, by_cases}
use mathlib.Core.List.Memᴰ
use mathlib.Core.List.{List, [], ◌∷◌, Memᴰ}
use Prim.Native.Nat.{ℕ, zero, suc, ◌<◌}
use native.Mathlib.Omega.{arith}
use Rattle.paths.specs.Figures.{Figures, Lawful}
use Rattle.paths.specs.Weights.{weights, Found, Covered, Beats, Rising}
use Rattle.paths.specs.Network.{Network, Walk, weight}
use Rattle.paths.specs.TradeOff.{Skyline, IsTradeOff, IsSum, IsJoin}
use Rattle.paths.proofs.Decisions.{map?, or?}
use Rattle.paths.proofs.Weights.{weights_lawful, unbeaten-below, ⊑_then_beats}
use Rattle.paths.proofs.Walks.{WalkOf}

-- whether some member of a list has a decided property
module _ {A : Type 0} (P : A → Type 0) where
  unfoldable pub found? : ((a : A) → Dec (P a)) → (l : List A) → Dec (Found P l)
  unfolding map? or?
  found? decide [] = no (λ f. Memᴰ.not-nil f.member)
  found? decide (x ∷ l) = map? here_or_later back (or? (decide x) (found? decide l))
    where
      here_or_later : P x ⊎ Found P l → Found P (x ∷ l)
      here_or_later (inl h) = record { entry = x; member = Memᴰ.head refl; has = h }
      here_or_later (inr f) = record { entry = f.entry; member = Memᴰ.tail f.member; has = f.has }

      back : Found P (x ∷ l) → P x ⊎ Found P l
      back f =
          ⊎_elim (λ e. inl (rw e at f.has)) (λ m. inr (record { entry = f.entry; member = m; has = f.has })) (Memᴰ.cases_cons f.member)

module _ {𝓛 : Figures} (𝓝 : Network 𝓛) where
  -- A trade-off list of s and t, with its proof
  pub record TradeOffs (s t : ℕ) : Type 0 where
    pub list : List (weights 𝓛).Figure
    pub is_trade_off : IsTradeOff 𝓝 s t list

module _ {𝓛 : Figures} (lawful : Lawful 𝓛) where
  abbrev W : Lawful (weights 𝓛)
  W = weights_lawful lawful

  open weights 𝓛 use {Figure as Weight, ◌⊑◌}

  infix 40 ◌⊑◌
  unfoldable pub covered? : (l : List Weight) (p : Weight) → Dec (Covered 𝓛 l p)
  unfolding found? weights_lawful
  covered? l p = found? (λ q. q ⊑ p) (λ q. W.⊑_decide q p) l

  pub covered_more : {l : List Weight} {p q : Weight} → Covered 𝓛 l p → p ⊑ q → Covered 𝓛 l q
  covered_more f h = record { entry = f.entry; member = f.member; has = W.⊑_trans f.has h }

  -- what a list covers and none of its entries beats is an entry
  pub covered-stands :
      {l : List Weight} {p : Weight} →
      Covered 𝓛 l p →
      ((q : Weight) → Memᴰ q l → Beats 𝓛 q p → ⊥) →
      Memᴰ p l
  covered-stands f unbeaten = Memᴰ.cast (sym (unbeaten-below lawful f.has (unbeaten f.entry f.member))) f.member

  -- A list that holds each weight of a kind that none of the kind beats covers them all: beaten ones lead down to smaller ones
  module _ (Real : Weight → Type 0) (l : List Weight) where
    pub all_covered :
        ((p : Weight) → Real p → ((q : Weight) → Real q → Beats 𝓛 q p → ⊥) → Memᴰ p l) →
        {p : Weight} →
        Real p →
        Covered 𝓛 l p
    all_covered holds {p} z = descend (suc (W.size p)) p z (omega arith)
      where
        descend : (n : ℕ) (p : Weight) → Real p → W.size p < n → Covered 𝓛 l p
        descend zero p z h = absurd (omega arith)
        descend (suc n) p z h = by_cases (covered? l p) (λ f. f) (stands (λ q y smaller. descend n q y smaller))
          where
            -- not covered, so not beaten by a smaller one, so listed after all
            stands : ((q : Weight) → Real q → W.size q < n → Covered 𝓛 l q) → (Covered 𝓛 l p → ⊥) → Covered 𝓛 l p
            stands below bare =
                let unbeaten : (q : Weight) → Real q → Beats 𝓛 q p → ⊥ =
                λ q y b. bare (covered_more (below q y (omega (arith, W.size_falls b.no_larger b.smaller))) b.no_larger) in
                record { entry = p; member = holds p z unbeaten; has = W.⊑_refl p }

  -- Below every sum lies an entry of the join
  pub sum_covered : {k l r : List Weight} {p : Weight} → IsJoin 𝓛 k l r → IsSum 𝓛 k l p → Covered 𝓛 r p
  sum_covered {k} {l} {r} right z =
      all_covered (IsSum 𝓛 k l) r (λ p y unbeaten. right.complete (record { sum = y; unbeaten = unbeaten })) z

  module _ {𝓝 : Network 𝓛} {s t : ℕ} {l : List Weight} where
    -- Below every walk's weight lies a member of the trade-off list
    pub walk-covered : IsTradeOff 𝓝 s t l → (w : Walk 𝓝 s t) → Covered 𝓛 l (weight w)
    walk-covered right w = all_covered (WalkOf 𝓝 s t) l holds (record { walk = w; weighs = refl })
      where
        holds : (p : Weight) → WalkOf 𝓝 s t p → ((q : Weight) → WalkOf 𝓝 s t q → Beats 𝓛 q p → ⊥) → Memᴰ p l
        holds p z unbeaten =
            right.complete
            (record { walk = z.walk; weighs = z.weighs; unbeaten = λ other b. unbeaten _ (record { walk = other; weighs = refl }) b })

    -- no member beats another
    pub trade_off_none_beaten : {p q : Weight} → IsTradeOff 𝓝 s t l → Memᴰ p l → Memᴰ q l → Beats 𝓛 p q → ⊥
    trade_off_none_beaten right m k b = let z = right.real m in (right.real k).unbeaten z.walk (rw z.weighs b)

    -- and a rising list of walks' weights, none of which beats another, with one below every walk's weight is the trade-off list
    pub covering_is_trade_off :
        Rising 𝓛 l →
        ((p : Weight) → Memᴰ p l → WalkOf 𝓝 s t p) →
        ((p q : Weight) → Memᴰ p l → Memᴰ q l → Beats 𝓛 p q → ⊥) →
        ((w : Walk 𝓝 s t) → Covered 𝓛 l (weight w)) →
        IsTradeOff 𝓝 s t l
    covering_is_trade_off rising walks none_beaten covers = record { rising = rising; real = real; complete = complete }
      where
        real : {p : Weight} → Memᴰ p l → Skyline 𝓝 s t p
        real {p} m =
            record {
              walk = (walks p m).walk;
              weighs = (walks p m).weighs;
              unbeaten = λ other b. let f = covers other in none_beaten f.entry p f.member m (⊑_then_beats lawful f.has b);
            }

        complete : {p : Weight} → Skyline 𝓝 s t p → Memᴰ p l
        complete sky =
            covered-stands (rw sky.weighs at (covers sky.walk)) (λ q m b. sky.unbeaten (walks q m).walk (rw (walks q m).weighs b))
