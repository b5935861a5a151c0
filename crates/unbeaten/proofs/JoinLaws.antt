-- Laws of joins: what a join keeps of the sums, and that it is the same either way round.
-- In this order: the order of the two lists; the best sum is the best entry; with energy as the one limited figure it is the last entry
-- within the limit.
use mathlib.Core.Path.{◌∙◌}
use mathlib.Core.Logic.{◌↔◌}
use mathlib.Core.List.{List, Memᴰ}
use Prim.Native.Nat.{ℕ}
use Rattle.paths.specs.Figures.{Figures, Lawful}
use Rattle.paths.specs.Weights.{weights, energy, Within}
use Rattle.paths.specs.TradeOff.{IsSum, UnbeatenSum, IsJoin}
use Rattle.paths.specs.Answer.{BestSum, NoSum}
use Rattle.paths.proofs.Figures.{number_lawful}
use Rattle.paths.proofs.Weights.{weights_lawful, ⊑_not_later, not_later_antisym}
use Rattle.paths.proofs.Answers.{BestEntry, entry_is_best_sum, none-within-join}
use Rattle.paths.proofs.OneLimit.{LastWithin, join-ordered, last_is_best, best_is_last_entry}

module _ {𝓛 : Figures} (lawful : Lawful 𝓛) where
  abbrev W : Lawful (weights 𝓛)
  W = weights_lawful lawful

  open weights 𝓛 use {Figure as Weight}

  -- ---- The order of the two lists

  -- a sum is a sum either way round
  pub sum_commutes : {k l : List Weight} {p : Weight} → IsSum 𝓛 k l p → IsSum 𝓛 l k p
  sum_commutes s =
      record { left = s.right; right = s.left; in_first = s.in_second; in_second = s.in_first; adds = W.⊕_comm _ _ ∙ s.adds }

  -- and so is an unbeaten one
  unbeaten_commutes : {k l : List Weight} {p : Weight} → UnbeatenSum 𝓛 k l p → UnbeatenSum 𝓛 l k p
  unbeaten_commutes u = record { sum = sum_commutes u.sum; unbeaten = λ q s b. u.unbeaten q (sum_commutes s) b }

  -- The join of two lists is the join of the second and the first
  pub join_commutes : {k l r : List Weight} → IsJoin 𝓛 k l r → IsJoin 𝓛 l k r
  join_commutes j =
      record {
        rising = j.rising;
        real = λ m. unbeaten_commutes (j.real m);
        complete = λ u. j.complete (unbeaten_commutes u);
      }

  module _ {k l r : List Weight} (j : IsJoin 𝓛 k l r) where
    -- ---- The best sum is the best entry

    module _ {limit : 𝓛.Figure} where
      -- what beats the best sum is within the limit too, and not later
      pub best_sum_unbeaten : {p : Weight} → BestSum 𝓛 k l limit p → UnbeatenSum 𝓛 k l p
      best_sum_unbeaten best =
          record {
            sum = best.sum;
            unbeaten =
                λ q s b.
                b.smaller
                (not_later_antisym lawful
                (⊑_not_later lawful b.no_larger)
                (best.least q s (lawful.⊑_trans b.no_larger.0 best.within)));
          }

      -- The best sum within the limit is the best entry of the join within the limit
      pub best_sum_is_entry : {p : Weight} → BestSum 𝓛 k l limit p ↔ BestEntry 𝓛 r limit p
      best_sum_is_entry = (
        λ best.
            record {
              member = j.complete (best_sum_unbeaten best);
              within = best.within;
              least = λ {q} m h. best.least q (j.real m).sum h;
            },
        λ b. entry_is_best_sum lawful j b,
      )

      -- No sum is within the limit exactly where no entry of the join is
      pub no_sum_none : NoSum 𝓛 k l limit ↔ ((q : Weight) → Memᴰ q r → Within 𝓛 limit q → ⊥)
      no_sum_none = (
        λ nothing q m h. nothing q (j.real m).sum h,
        λ nothing. none-within-join lawful j nothing,
      )

-- ---- Energy as the one limited figure

-- The best sum within the limit is the last entry of the join whose energy is at most the limit
pub best_sum_is_last :
    {k l r : List (weights energy).Figure} {limit : ℕ} {p : (weights energy).Figure} → IsJoin energy k l r →
    BestSum energy k l limit p ↔ LastWithin r limit p
best_sum_is_last j =
    let entry = best_sum_is_entry number_lawful j in (
      λ best. best_is_last_entry (join-ordered j) (entry.0 best),
      λ z. entry.1 (last_is_best (join-ordered j) z),
    )
