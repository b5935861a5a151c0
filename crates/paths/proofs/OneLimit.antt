-- Lists with energy as the one limited figure: energy strictly rises and time strictly falls, exactly where the list rises and
-- no entry beats another; so the best answer under the limit is the last entry whose energy is at most the limit.
-- In this order: the two orders are one; lists of definitions are ordered; the last entry within a limit.
use mathlib.Core.Path.{◌≡◌, refl, sym, ap, ◌∙◌}
use mathlib.Core.Logic.{◌⊎◌, inl, inr, ◌↔◌}
use mathlib.Core.List.Memᴰ
use mathlib.Core.List.{List, [], ◌∷◌, ◌++◌, Memᴰ}
use Prim.Native.Nat.{ℕ, ◌≤◌, ◌<◌}
use native.Mathlib.Decide.{dec_le}
use native.Mathlib.Omega.{arith}
use Rattle.paths.specs.Figures.{by_first, by_second}
use Rattle.paths.specs.Weights.{weights, energy, time, spent, Beats, Within, Rising, NotLater, sooner, same, by_time, by_figures}
use Rattle.paths.specs.Weights as Listed
use Rattle.paths.specs.Network.{Network}
use Rattle.paths.specs.TradeOff.{IsTradeOff, IsJoin, Ordered, none, one, more}
use Rattle.paths.specs.Answer.{Best}
use Rattle.paths.proofs.Figures.{number_lawful}
use Rattle.paths.proofs.Covering.{trade_off_none_beaten}
use Rattle.paths.proofs.Answers.{BestEntry, best_is_entry, entry_is_best}

abbrev Weight : Type 0
Weight = (weights energy).Figure

-- no entry beats another
abbrev pub NoneBeaten : List Weight → Type 0
NoneBeaten l = (p q : Weight) → Memᴰ p l → Memᴰ q l → Beats energy p q → ⊥

-- ---- The two orders are one

-- the first entry has less energy and more time than every later one
pub ordered-head : {p q : Weight} {l : List Weight} → Ordered (p ∷ l) → Memᴰ q l → (spent energy p < spent energy q) × (time energy q < time energy p)
ordered-head {p} {q} {l = []} o m = absurd (Memᴰ.not-nil m)
ordered-head {p} {q} {l = x ∷ l} (more h k o) m = pick (λ m'. ordered-head o m') (Memᴰ.cases_cons m)
  where
    pick : (Memᴰ q l → (spent energy x < spent energy q) × (time energy q < time energy x)) → (q ≡ x) ⊎ Memᴰ q l → (spent energy p < spent energy q) × (time energy q < time energy p)
    pick f (inl e) = rw e (h, k)
    pick f (inr m') = let z = f m' in (omega arith, omega arith)

pub ordered_tail : {p : Weight} {l : List Weight} → Ordered (p ∷ l) → Ordered l
ordered_tail one = none
ordered_tail (more h k o) = o

pub ordered-rises : {l : List Weight} → Ordered l → Rising energy l
ordered-rises none = Listed.none
ordered-rises one = Listed.one
ordered-rises (more h k o) = Listed.more (by_first h) (ordered-rises o)

pub ordered_none_beaten : {l : List Weight} → Ordered l → NoneBeaten l
ordered_none_beaten {l = []} o p q m k b = absurd (Memᴰ.not-nil m)
ordered_none_beaten {l = x ∷ l} o p q m k b = pick (ordered_none_beaten (ordered_tail o)) (Memᴰ.cases_cons m) (Memᴰ.cases_cons k)
  where
    pick : NoneBeaten l → (p ≡ x) ⊎ Memᴰ p l → (q ≡ x) ⊎ Memᴰ q l → ⊥
    pick f (inl e) (inl e') = b.smaller (e ∙ sym e')
    pick f (inl e) (inr k') = let z = ordered-head o k' in let y = b.no_larger in omega (arith, ap (time energy) e)
    pick f (inr m') (inl e') = let z = ordered-head o m' in let y = b.no_larger in omega (arith, ap (spent energy) e')
    pick f (inr m') (inr k') = f p q m' k' b

-- a rising list in which no entry beats another is ordered
pub rises-ordered : {l : List Weight} → Rising energy l → NoneBeaten l → Ordered l
rises-ordered Listed.none free = none
rises-ordered Listed.one free = one
rises-ordered (Listed.more {p} {q} {l} h r) free = place h (rises-ordered r (λ x y m k b. free x y (Memᴰ.tail m) (Memᴰ.tail k) b))
  where
    -- p stands before q and does not beat it, so it has less energy and more time
    slower : spent energy p < spent energy q → time energy q < time energy p
    slower less = pick (dec_le (time energy p) (time energy q))
      where
        pick : Dec (time energy p ≤ time energy q) → time energy q < time energy p
        pick (yes k) = absurd (free p q (Memᴰ.head refl) (Memᴰ.tail (Memᴰ.head refl)) (record { no_larger = (omega arith, k); smaller = λ e. let z = ap (spent energy) e in omega arith }))
        pick (no k) = omega arith

    place : (weights energy).◌≺◌ p q → Ordered (q ∷ l) → Ordered (p ∷ q ∷ l)
    place (by_first less) o = more less (slower less) o
    place (by_second e less) o = absurd (free p q (Memᴰ.head refl) (Memᴰ.tail (Memᴰ.head refl)) (record { no_larger = (omega arith, omega arith); smaller = λ f. let z = ap (time energy) f in omega arith }))

-- ---- The lists of the definitions are ordered

pub trade_off_ordered : {𝓝 : Network energy} {s t : ℕ} {l : List Weight} → IsTradeOff 𝓝 s t l → Ordered l
trade_off_ordered right =
    rises-ordered right.rising (λ p q m k b. trade_off_none_beaten number_lawful right m k b)

pub join-ordered : {k l r : List Weight} → IsJoin energy k l r → Ordered r
join-ordered right = rises-ordered right.rising (λ p q m k b. (right.real k).unbeaten p (right.real m).sum b)

-- ---- The last entry within a limit

-- the last entry of l whose energy is at most the limit
pub record LastWithin (l : List Weight) (limit : ℕ) (p : Weight) : Type 0 where
  pub before : List Weight
  pub after : List Weight
  pub splits : l ≡ before ++ (p ∷ after)
  pub within : Within energy limit p
  pub beyond : (q : Weight) → Memᴰ q after → Within energy limit q → ⊥

-- a list is ordered from any entry on, and earlier entries take more time
ordered-from : (before : List Weight) {p : Weight} {after : List Weight} → Ordered (before ++ (p ∷ after)) → Ordered (p ∷ after)
ordered-from [] o = o
ordered-from (x ∷ before) o = ordered-from before (ordered_tail o)

earlier-slower :
    (before : List Weight) (p : Weight) (after : List Weight) {q : Weight} →
    Ordered (before ++ (p ∷ after)) →
    Memᴰ q before →
    time energy p < time energy q
earlier-slower [] p after o m = absurd (Memᴰ.not-nil m)
earlier-slower (x ∷ before) p after {q} o m = pick (λ m'. earlier-slower before p after (ordered_tail o) m') (Memᴰ.cases_cons m)
  where
    pick : (Memᴰ q before → time energy p < time energy q) → (q ≡ x) ⊎ Memᴰ q before → time energy p < time energy q
    pick f (inl e) = let z = ordered-head o (Memᴰ.append_right before (Memᴰ.head refl)) in omega (arith, ap (time energy) e)
    pick f (inr m') = f m'

-- an entry cuts its list in two
record Placed (l : List Weight) (p : Weight) : Type 0 where
  before : List Weight
  after : List Weight
  splits : l ≡ before ++ (p ∷ after)

placed : {p : Weight} {l : List Weight} → Memᴰ p l → Placed l p
placed (Memᴰ.head {xs = xs} e) = record { before = []; after = xs; splits = ap (λ z. z ∷ xs) (sym e) }
placed (Memᴰ.tail {x = x} m) =
    let z = placed m in record { before = x ∷ z.before; after = z.after; splits = ap (λ k. x ∷ k) z.splits }

module _ {l : List Weight} {limit : ℕ} {p : Weight} (ordered : Ordered l) where
  pub last_is_best : LastWithin l limit p → BestEntry energy l limit p
  last_is_best z =
      record {
        member = rw z.splits (Memᴰ.append_right z.before (Memᴰ.head refl));
        within = z.within;
        least = λ {q} m h. pick q h (Memᴰ.append_cases z.before (rw z.splits at m));
      }
    where
      rest : (q : Weight) → Within energy limit q → (q ≡ p) ⊎ Memᴰ q z.after → NotLater energy p q
      rest q h (inl e) = same (sym e)
      rest q h (inr m) = absurd (z.beyond q m h)

      pick : (q : Weight) → Within energy limit q → Memᴰ q z.before ⊎ Memᴰ q (p ∷ z.after) → NotLater energy p q
      pick q h (inl m) = sooner (by_time (earlier-slower z.before p z.after (rw z.splits at ordered) m))
      pick q h (inr m) = rest q h (Memᴰ.cases_cons m)

  pub best_is_last_entry : BestEntry energy l limit p → LastWithin l limit p
  best_is_last_entry b =
      let z = placed b.member in
      record {
        before = z.before;
        after = z.after;
        splits = z.splits;
        within = b.within;
        beyond = λ q m h. clash z q m (b.least (rw z.splits (Memᴰ.append_right z.before (Memᴰ.tail m))) h);
      }
    where
      clash : (z : Placed l p) (q : Weight) → Memᴰ q z.after → NotLater energy p q → ⊥
      clash z q m later = late later (ordered-head (ordered-from z.before (rw z.splits at ordered)) m)
        where
          late : NotLater energy p q → (spent energy p < spent energy q) × (time energy q < time energy p) → ⊥
          late (sooner (by_time h)) k = omega arith
          late (sooner (by_figures e h)) k = omega arith
          late (same e) k = omega (arith, ap (time energy) e)

-- The best answer under the limit is the last entry of the trade-off list whose energy is at most the limit
pub best_is_last :
    {𝓝 : Network energy} {s t : ℕ} {l : List Weight} {limit : ℕ} {p : Weight} →
    IsTradeOff 𝓝 s t l →
    Best 𝓝 s t limit p ↔ LastWithin l limit p
best_is_last right = (
  λ best. best_is_last_entry (trade_off_ordered right) (best_is_entry number_lawful right best),
  λ z. entry_is_best number_lawful right (last_is_best (trade_off_ordered right) z),
)
