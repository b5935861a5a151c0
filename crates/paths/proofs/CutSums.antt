-- Answers from two lists for each junction of a cut: what a query on labels works out.
use mathlib.Core.Path.{refl, ap₂, ◌∙◌}
use mathlib.Core.List.{List}
use Prim.Native.Nat.{ℕ}
use Rattle.paths.specs.Figures.{Figures, Lawful}
use Rattle.paths.specs.Weights.{weights, Within, NotLater}
use Rattle.paths.specs.Network.{Network, Walk, weight}
use Rattle.paths.specs.TradeOff.{IsTradeOff, IsSum}
use Rattle.paths.specs.Answer.{Best, Over, Apart}
use Rattle.paths.specs.Cut.{IsCut}
use Rattle.paths.proofs.Weights.{weights_lawful, ⊑_of_eq, ⊕_mono_both, ⊑_not_later, not_later_trans}
use Rattle.paths.proofs.Walks.{WalkOf, ◌then◌, split, weight_then, split-weighs}
use Rattle.paths.proofs.Covering.{walk-covered}

-- The lists from s to each junction of H, and from there to t
pub record ListsAcross {𝓛 : Figures} (𝓝 : Network 𝓛) (H : ℕ → Type 0) (s t : ℕ) (to from : ℕ → List (weights 𝓛).Figure) : Type 0 where
  pub cut : IsCut 𝓝 H s t
  pub to_right : {h : ℕ} → H h → IsTradeOff 𝓝 s h (to h)
  pub from-right : {h : ℕ} → H h → IsTradeOff 𝓝 h t (from h)

-- A sum of entries at a junction of H that is not later than any other within the limit
pub record BestAcross (𝓛 : Figures) (H : ℕ → Type 0) (to from : ℕ → List (weights 𝓛).Figure) (limit : 𝓛.Figure) (p : (weights 𝓛).Figure) : Type 0 where
  pub at : ℕ
  pub inside : H at
  pub sum : IsSum 𝓛 (to at) (from at) p
  pub within : Within 𝓛 limit p
  pub least : {h : ℕ} → H h → (q : (weights 𝓛).Figure) → IsSum 𝓛 (to h) (from h) q → Within 𝓛 limit q → NotLater 𝓛 p q

-- beside every walk stands a sum at a junction of H that is no larger
pub record SumBelow (𝓛 : Figures) (H : ℕ → Type 0) (to from : ℕ → List (weights 𝓛).Figure) (p : (weights 𝓛).Figure) : Type 0 where
  pub at : ℕ
  pub inside : H at
  pub total : (weights 𝓛).Figure
  pub sum : IsSum 𝓛 (to at) (from at) total
  pub no_larger : (weights 𝓛).◌⊑◌ total p

module _ {𝓛 : Figures} (lawful : Lawful 𝓛) {𝓝 : Network 𝓛} {H : ℕ → Type 0} {s t : ℕ} {to from : ℕ → List (weights 𝓛).Figure}
    (across : ListsAcross 𝓝 H s t to from) where
  open weights 𝓛 use {Figure as Weight, ◌⊕◌}

  infixl 60 ◌⊕◌
  pub walk_has_sum : (w : Walk 𝓝 s t) → SumBelow 𝓛 H to from (weight w)
  walk_has_sum w =
      let met = across.cut w in
      let z = split w met.met in
      let one = walk-covered lawful (across.to_right met.inside) z.before in
      let two = walk-covered lawful (across.from-right met.inside) z.after in
      record {
        at = met.at;
        inside = met.inside;
        total = one.entry ⊕ two.entry;
        sum = record { left = one.entry; right = two.entry; in_first = one.member; in_second = two.member; adds = refl };
        no_larger =
            (weights_lawful lawful).⊑_trans
            (⊕_mono_both (weights_lawful lawful) one.has two.has)
            (⊑_of_eq (weights_lawful lawful) (split-weighs lawful z));
      }

  -- and every such sum is a walk's weight
  pub sum_has_walk : {h : ℕ} → H h → {p : Weight} → IsSum 𝓛 (to h) (from h) p → WalkOf 𝓝 s t p
  sum_has_walk inside sum =
      let one = (across.to_right inside).real sum.in_first in
      let two = (across.from-right inside).real sum.in_second in
      record {
        walk = one.walk then two.walk;
        weighs = weight_then lawful one.walk two.walk ∙ ap₂ ◌⊕◌ one.weighs two.weighs ∙ sum.adds;
      }

  pub best_across : {limit : 𝓛.Figure} {p : Weight} → BestAcross 𝓛 H to from limit p → Best 𝓝 s t limit p
  best_across b =
      let z = sum_has_walk b.inside b.sum in
      record {
        walk = z.walk;
        weighs = z.weighs;
        within = b.within;
        least = λ other k. let y = walk_has_sum other in not_later_trans lawful (b.least y.inside y.total y.sum (lawful.⊑_trans y.no_larger.0 k)) (⊑_not_later lawful y.no_larger);
      }

  -- no sum within the limit, no walk within the limit; a sum, a walk
  pub over_across :
      {limit : 𝓛.Figure} {h : ℕ} {p : Weight} → H h → IsSum 𝓛 (to h) (from h) p →
      ((k : ℕ) → H k → (q : Weight) → IsSum 𝓛 (to k) (from k) q → Within 𝓛 limit q → ⊥) → Over 𝓝 s t limit
  over_across inside sum none =
      record {
        walk = (sum_has_walk inside sum).walk;
        none_within = λ other k. let y = walk_has_sum other in none y.at y.inside y.total y.sum (lawful.⊑_trans y.no_larger.0 k);
      }

  -- no sum at all, no walk
  pub apart_across : ((h : ℕ) → H h → (q : Weight) → IsSum 𝓛 (to h) (from h) q → ⊥) → Apart 𝓝 s t
  apart_across none w = let y = walk_has_sum w in none y.at y.inside y.total y.sum
