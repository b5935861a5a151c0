-- One list only: trade-off lists, joins and best answers are unique. (First routes: `proofs/Route.antt`.)
-- In this order: rising lists; trade-off lists; joins; answers.
use mathlib.Core.Path.{◌≡◌, refl, sym, ap₂, ◌∙◌}
use mathlib.Core.Logic.{◌⊎◌, inl, inr, ⊎_elim}
use mathlib.Core.List.Memᴰ
use mathlib.Core.List.{List, [], ◌∷◌, Memᴰ}
use Prim.Native.Nat.{ℕ}
use Rattle.paths.specs.Figures.{Figures, Lawful}
use Rattle.paths.specs.Weights.{weights, Rising}
use Rattle.paths.specs.Network.{Network}
use Rattle.paths.specs.TradeOff.{IsTradeOff, IsJoin}
use Rattle.paths.specs.Answer.{Best, BestSum}
use Rattle.paths.proofs.Weights.{weights_lawful, not_later_antisym}
use Rattle.paths.proofs.Rising.{rising_tail, rising-head}

module _ {𝓛 : Figures} (lawful : Lawful 𝓛) where
  abbrev W : Lawful (weights 𝓛)
  W = weights_lawful lawful

  open weights 𝓛 use {Figure as Weight, ◌≺◌}

  infix 40 ◌≺◌
  -- rising lists with the same members are the same list
  pub rising_unique :
      {l k : List Weight} →
      Rising 𝓛 l →
      Rising 𝓛 k →
      ((p : Weight) → Memᴰ p l → Memᴰ p k) →
      ((p : Weight) → Memᴰ p k → Memᴰ p l) →
      l ≡ k
  rising_unique {l = []} {k = []} r s f g = refl
  rising_unique {l = []} {k = q ∷ k} r s f g = absurd (Memᴰ.not-nil (g q (Memᴰ.head refl)))
  rising_unique {l = p ∷ l} {k = []} r s f g = absurd (Memᴰ.not-nil (f p (Memᴰ.head refl)))
  rising_unique {l = p ∷ l} {k = q ∷ k} r s f g =
      ap₂ ◌∷◌ heads (rising_unique {l = l} {k = k} (rising_tail r) (rising_tail s) (λ x m. inside r heads (f x (Memᴰ.tail m)) m) (λ x m. inside s (sym heads) (g x (Memᴰ.tail m)) m))
    where
      heads : p ≡ q
      heads = pick (Memᴰ.cases_cons (f p (Memᴰ.head refl))) (Memᴰ.cases_cons (g q (Memᴰ.head refl)))
        where
          pick : (p ≡ q) ⊎ Memᴰ p k → (q ≡ p) ⊎ Memᴰ q l → p ≡ q
          pick (inl e) m = e
          pick (inr m) (inl e) = sym e
          pick (inr m) (inr m') = absurd (W.≺_irrefl (W.≺_trans (rising-head lawful s m) (rising-head lawful r m')) refl)

      -- a member of a tail is a member of the other tail, since it is not the head
      inside : {a b x : Weight} {m n : List Weight} → Rising 𝓛 (a ∷ m) → a ≡ b → Memᴰ x (b ∷ n) → Memᴰ x m → Memᴰ x n
      inside rise e h k =
          ⊎_elim (λ e'. absurd (W.≺_irrefl (rising-head lawful rise k) (e ∙ sym e'))) (λ h'. h') (Memᴰ.cases_cons h)

  -- two trade-off lists of a pair of junctions are equal
  pub trade_off_unique : {𝓝 : Network 𝓛} {s t : ℕ} {l k : List Weight} → IsTradeOff 𝓝 s t l → IsTradeOff 𝓝 s t k → l ≡ k
  trade_off_unique a b =
      rising_unique a.rising b.rising (λ p m. b.complete (a.real m)) (λ p m. a.complete (b.real m))

  pub join_unique : {k l r r' : List Weight} → IsJoin 𝓛 k l r → IsJoin 𝓛 k l r' → r ≡ r'
  join_unique a b =
      rising_unique a.rising b.rising (λ p m. b.complete (a.real m)) (λ p m. a.complete (b.real m))

  pub best_unique : {𝓝 : Network 𝓛} {s t : ℕ} {limit : 𝓛.Figure} {p q : Weight} → Best 𝓝 s t limit p → Best 𝓝 s t limit q → p ≡ q
  best_unique {limit = limit} a b =
      not_later_antisym lawful
      (rw b.weighs at (a.least b.walk (rw b.weighs b.within)))
      (rw a.weighs at (b.least a.walk (rw a.weighs a.within)))

  pub best_sum_unique : {k l : List Weight} {limit : 𝓛.Figure} {p q : Weight} → BestSum 𝓛 k l limit p → BestSum 𝓛 k l limit q → p ≡ q
  best_sum_unique {p = p} {q = q} a b =
      not_later_antisym lawful (a.least q b.sum b.within) (b.least p a.sum a.within)
