-- What a trade-off list says of limited queries: the best answer is an entry, and exactly one of the three answers holds.
-- In this order: the search of a list; a best answer is unbeaten; answers by a list; exactly one outcome; sums of two lists.
use mathlib.Core.Path.{refl, sym}
use mathlib.Core.Logic.{⊎_elim}
use mathlib.Core.List.Memᴰ
use mathlib.Core.List.{List, [], ◌∷◌, Memᴰ}
use Prim.Native.Nat.{ℕ}
use Rattle.paths.specs.Figures.{Figures, Lawful}
use Rattle.paths.specs.Weights.{weights, spent, Covered, Within, NotLater, same, sooner}
use Rattle.paths.specs.Network.{Network, Walk, stay, weight}
use Rattle.paths.specs.TradeOff.{Skyline, IsTradeOff, IsJoin}
use Rattle.paths.specs.Answer.{Best, Over, Apart, BestSum, NoSum}
use Rattle.paths.proofs.Weights.{weights_lawful, ⊑_not_later, not_later_antisym, not_later_trans, compare_answers}
use Rattle.paths.proofs.Covering.{TradeOffs, walk-covered, sum_covered}

module _ (𝓛 : Figures) where
  -- the entry of l that is the best within the limit
  pub record BestEntry (l : List (weights 𝓛).Figure) (limit : 𝓛.Figure) (p : (weights 𝓛).Figure) : Type 0 where
    pub member : Memᴰ p l
    pub within : Within 𝓛 limit p
    pub least : {q : (weights 𝓛).Figure} → Memᴰ q l → Within 𝓛 limit q → NotLater 𝓛 p q

  -- some entry is the best within the limit, or none is within the limit
  pub data Searched (l : List (weights 𝓛).Figure) (limit : 𝓛.Figure) : Type 0 where
    found : {p : (weights 𝓛).Figure} → BestEntry l limit p → Searched l limit
    none_within : ((q : (weights 𝓛).Figure) → Memᴰ q l → Within 𝓛 limit q → ⊥) → Searched l limit

module _ {𝓛 : Figures} (𝓝 : Network 𝓛) where
  -- Over the limit and not connected are the only ways to have no best answer
  pub data Outcome (s t : ℕ) (limit : 𝓛.Figure) : Type 0 where
    answered : {p : (weights 𝓛).Figure} → Best 𝓝 s t limit p → Outcome s t limit
    over : Over 𝓝 s t limit → Outcome s t limit
    apart : Apart 𝓝 s t → Outcome s t limit

  pub record Answered (s t : ℕ) (limit : 𝓛.Figure) : Type 0 where
    pub weighs : (weights 𝓛).Figure
    pub best : Best 𝓝 s t limit weighs

module _ {𝓛 : Figures} (lawful : Lawful 𝓛) where
  abbrev W : Lawful (weights 𝓛)
  W = weights_lawful lawful

  open weights 𝓛 use {Figure as Weight}

  unfoldable pub search_list : (l : List Weight) (limit : 𝓛.Figure) → Searched 𝓛 l limit
  unfolding compare_answers
  search_list [] limit = none_within (λ q m h. Memᴰ.not-nil m)
  search_list (x ∷ l) limit = pick (lawful.⊑_decide (spent 𝓛 x) limit) (search_list l limit)
    where
      ahead : Within 𝓛 limit x → ((q : Weight) → Memᴰ q l → Within 𝓛 limit q → NotLater 𝓛 x q) → BestEntry 𝓛 (x ∷ l) limit x
      ahead h first =
          record {
            member = Memᴰ.head refl;
            within = h;
            least = λ {q} m k. ⊎_elim (λ e. same (sym e)) (λ m'. first q m' k) (Memᴰ.cases_cons m);
          }

      behind : {p : Weight} → BestEntry 𝓛 l limit p → (Within 𝓛 limit x → NotLater 𝓛 p x) → BestEntry 𝓛 (x ∷ l) limit p
      behind {p} b first =
          record {
            member = Memᴰ.tail b.member;
            within = b.within;
            least = λ {q} m k. ⊎_elim (λ e. rw e (first (rw e at k))) (λ m'. b.least m' k) (Memᴰ.cases_cons m);
          }

      nothing : (Within 𝓛 limit x → ⊥) → ((q : Weight) → Memᴰ q l → Within 𝓛 limit q → ⊥) → (q : Weight) → Memᴰ q (x ∷ l) → Within 𝓛 limit q → ⊥
      nothing out none q m k = ⊎_elim (λ e. out (rw e at k)) (λ m'. none q m' k) (Memᴰ.cases_cons m)

      pick : Dec (Within 𝓛 limit x) → Searched 𝓛 l limit → Searched 𝓛 (x ∷ l) limit
      pick (yes h) (none_within none) = found (ahead h (λ q m k. absurd (none q m k)))
      pick (no h) (none_within none) = none_within (nothing h none)
      pick (no h) (found b) = found (behind b (λ k. absurd (h k)))
      pick (yes h) (found {p} b) =
          ⊎_elim
          (λ f. found (ahead h (λ q m k. not_later_trans lawful f (b.least m k))))
          (λ f. found (behind b (λ k. sooner f)))
          (compare_answers lawful x p)

  module _ {l : List Weight} {limit : 𝓛.Figure} {q : Weight} (covered : Covered 𝓛 l q) (h : Within 𝓛 limit q) where
    -- the best entry is not later than what lies above an entry
    pub entry_not_later : {p : Weight} → BestEntry 𝓛 l limit p → NotLater 𝓛 p q
    entry_not_later b =
        not_later_trans lawful (b.least covered.member (lawful.⊑_trans covered.has.0 h)) (⊑_not_later lawful covered.has)

    pub entry-within : ((p : Weight) → Memᴰ p l → Within 𝓛 limit p → ⊥) → ⊥
    entry-within none = none covered.entry covered.member (lawful.⊑_trans covered.has.0 h)

  module _ {𝓝 : Network 𝓛} {s t : ℕ} {limit : 𝓛.Figure} where
    -- what beats an answer is within the limit too, and not later
    pub best_is_skyline : {p : Weight} → Best 𝓝 s t limit p → Skyline 𝓝 s t p
    best_is_skyline {p} best =
        record {
          walk = best.walk;
          weighs = best.weighs;
          unbeaten = λ other b. b.smaller (sym (not_later_antisym lawful (best.least other (lawful.⊑_trans b.no_larger.0 best.within)) (⊑_not_later lawful b.no_larger)));
        }

    module _ {l : List Weight} (right : IsTradeOff 𝓝 s t l) where
      -- The best answer under the limit is the best entry of the trade-off list
      pub best_is_entry : {p : Weight} → Best 𝓝 s t limit p → BestEntry 𝓛 l limit p
      best_is_entry {p} best =
          record {
            member = right.complete (best_is_skyline best);
            within = best.within;
            least = λ {q} m k. let z = right.real m in rw z.weighs at (best.least z.walk (rw z.weighs k));
          }

      pub entry_is_best : {p : Weight} → BestEntry 𝓛 l limit p → Best 𝓝 s t limit p
      entry_is_best {p} b =
          let z = right.real b.member in
          record {
            walk = z.walk;
            weighs = z.weighs;
            within = b.within;
            least = λ other h. entry_not_later (walk-covered lawful right other) h b;
          }

      -- no entry within the limit, no walk within the limit
      pub none-within-list : ((q : Weight) → Memᴰ q l → Within 𝓛 limit q → ⊥) → (other : Walk 𝓝 s t) → Within 𝓛 limit (weight other) → ⊥
      none-within-list none other k = entry-within (walk-covered lawful right other) k none

    -- For all s, t and limits one of the three holds
    pub outcome : TradeOffs 𝓝 s t → Outcome 𝓝 s t limit
    outcome lists = pick lists.list lists.is_trade_off (search_list lists.list limit)
      where
        pick : (l : List Weight) → IsTradeOff 𝓝 s t l → Searched 𝓛 l limit → Outcome 𝓝 s t limit
        pick l right (found b) = answered (entry_is_best right b)
        pick [] right (none_within none) = apart (λ w. Memᴰ.not-nil (walk-covered lawful right w).member)
        pick (x ∷ l) right (none_within none) =
            over (record { walk = (right.real (Memᴰ.head refl)).walk; none_within = none-within-list right none })

    -- and no two of them hold
    pub best_not_over : {p : Weight} → Best 𝓝 s t limit p → Over 𝓝 s t limit → ⊥
    best_not_over best no_way = no_way.none_within best.walk (rw best.weighs best.within)

    pub best_not_apart : {p : Weight} → Best 𝓝 s t limit p → Apart 𝓝 s t → ⊥
    best_not_apart best none = none best.walk

    pub over_not_apart : Over 𝓝 s t limit → Apart 𝓝 s t → ⊥
    over_not_apart no_way none = none no_way.walk

  -- a walk within the limit has a best answer beside it
  pub best_exists : {𝓝 : Network 𝓛} {s t : ℕ} {limit : 𝓛.Figure} → TradeOffs 𝓝 s t → (w : Walk 𝓝 s t) → Within 𝓛 limit (weight w) → Answered 𝓝 s t limit
  best_exists {𝓝} {s} {t} {limit} lists w h = pick (outcome lists)
    where
      pick : Outcome 𝓝 s t limit → Answered 𝓝 s t limit
      pick (answered b) = record { weighs = _; best = b }
      pick (over no_way) = absurd (no_way.none_within w h)
      pick (apart none) = absurd (none w)

  -- From a junction to itself the answer is (0,0), under any limit
  pub alone-best : {𝓝 : Network 𝓛} (s : ℕ) (limit : 𝓛.Figure) → Best 𝓝 s s limit (weights 𝓛).𝟘
  unfolding weight
  alone-best s limit =
      record {
        walk = stay;
        weighs = refl;
        within = lawful.𝟘_least limit;
        least = λ other h. ⊑_not_later lawful (W.𝟘_least (weight other));
      }

  -- ---- Sums of two lists under a limit

  module _ {k l r : List Weight} {limit : 𝓛.Figure} (right : IsJoin 𝓛 k l r) where
    -- The best entry of the join is the best sum
    pub entry_is_best_sum : {p : Weight} → BestEntry 𝓛 r limit p → BestSum 𝓛 k l limit p
    entry_is_best_sum b =
        record {
          sum = (right.real b.member).sum;
          within = b.within;
          least = λ q z h. entry_not_later (sum_covered lawful right z) h b;
        }

    -- no entry within the limit, no sum within the limit
    pub none-within-join : ((q : Weight) → Memᴰ q r → Within 𝓛 limit q → ⊥) → NoSum 𝓛 k l limit
    none-within-join none p z h = entry-within (sum_covered lawful right z) h none
