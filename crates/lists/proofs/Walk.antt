-- One walk up the first list and down the second finds the best sum: one law for each way through it.
-- In this order: a sum's numbers; two sums compared; the entries that fit beside an energy; the last that fits; the walk.
use mathlib.Core.Path.{◌≡◌, refl, sym, ap, ◌∙◌, subst}
use mathlib.Core.Logic.{◌⊎◌, inl, inr}
use mathlib.Core.Bool.{Bool, true, false}
use mathlib.Core.List.{List}
use Prim.Native.Nat.{ℕ, zero, suc, ◌+◌, ◌-◌, ◌≤◌, ◌<◌, ◌^◌}
use native.Mathlib.Decide.{dec_le, ℕ_discrete}
use native.Mathlib.Omega.{arith}
use borrow.Author.Count.{below_more}
use borrow.Author.Tests.{ltb-true, ltb-false}
use lib.Dec.{ltb}
use lib.ListN.{length, get_or}
use Rattle.paths.specs.Weights.{energy, pair, Within, Sooner, by_time, by_figures, NotLater, sooner, same}
use Rattle.paths.proofs.Figures.{number_lawful}
use Rattle.paths.proofs.Weights.{not_later_trans, sooner_trans, sooner_irrefl}
use Rattle.lists.specs.Entries.{Weight}
use Rattle.lists.specs.working.Lists.{above_all, IsList}
use Rattle.lists.specs.working.Sums.{sum_at, BestPlaces}
use Rattle.lists.specs.declared.sums.Sum.{Sum}
use Rattle.lists.proofs.Entries.{energy_rises_far, time_falls_far, within_eq, not_later_eq}

-- ---- A sum's numbers

module _ {times energies more_times more_energies : List ℕ} (first : IsList above_all times energies) (second : IsList above_all more_times more_energies) {i j : ℕ} where
  -- two numbers of 31 bits have a sum of 32
  pub energy-adds : i < length energies → j < length more_energies → get_or energies i 0 + get_or more_energies j 0 < 2 ^ 32
  energy-adds h k = omega (arith, first.small_energy i h, second.small_energy j k)

-- and so with each entry before `from`
pub energies_add :
    {times energies more_times more_energies : List ℕ} {i from : ℕ} →
    IsList above_all times energies →
    IsList above_all more_times more_energies →
    i < length times →
    from ≤ length more_energies →
    (k : ℕ) →
    k < from →
    get_or energies i 0 + get_or more_energies k 0 < 2 ^ 32
energies_add first second h l k m = energy-adds first second (omega (arith, first.one_length)) (omega arith)

-- a pair of equal numbers
pub pair_is : {t e t' e' : ℕ} → t ≡ t' → e ≡ e' → pair t e ≡ pair t' e'
pair_is p q = λ i. record { first = q i; second = p i }

-- ---- Two sums compared

-- The weight of a sum
abbrev pub weight_of : Sum → Weight
weight_of s = pair s.pair.time.0 s.pair.energy.0

-- Whether a weight comes before another as an answer
abbrev pub Compared : Weight → Weight → Bool → Type 0
Compared p q r = (Sooner energy p q × (r ≡ true)) ⊎ (NotLater energy q p × (r ≡ false))

module _ {t e t' e' : ℕ} {quicker : Bool} (q : quicker ≡ ltb t t') where
  -- less time
  pub compared_quicker : quicker ≡ true → Compared (pair t e) (pair t' e') true
  compared_quicker h = inl (by_time (ltb-true _ _ (sym q ∙ h)), refl)

  module _ {slower : Bool} (s : slower ≡ ltb t' t) where
    -- more time
    pub compared_slower : slower ≡ true → Compared (pair t e) (pair t' e') false
    compared_slower h = inr (sooner (by_time (ltb-true _ _ (sym s ∙ h))), refl)

    -- equal times are decided by less energy
    pub compared_cheaper :
        {cheaper : Bool} → quicker ≡ false → slower ≡ false → cheaper ≡ ltb e e' → Compared (pair t e) (pair t' e') cheaper
    compared_cheaper {cheaper} f g = decide cheaper
      where
        one_time : t ≡ t'
        one_time =
            let a : t' ≤ t = ltb-false _ _ (sym q ∙ f) in
            let b : t ≤ t' = ltb-false _ _ (sym s ∙ g) in
            omega arith

        no_later : e' ≤ e → Dec (e ≤ e') → NotLater energy (pair t' e') (pair t e)
        no_later l (yes h) =
            let z : e' ≡ e = omega arith in
            same (pair_is (sym one_time) z)
        no_later l (no h) = sooner (by_figures (sym one_time) (omega arith))

        decide : (b : Bool) → b ≡ ltb e e' → Compared (pair t e) (pair t' e') b
        decide true h = inl (by_figures one_time (ltb-true _ _ (sym h)), refl)
        decide false h = inr (no_later (ltb-false _ _ (sym h)) (dec_le e e'), refl)

-- what is sooner is not also no sooner
not_both : {p q : Weight} → Sooner energy q p → NotLater energy p q → ⊥
not_both h (sooner k) = sooner_irrefl number_lawful (sooner_trans number_lawful h k) refl
not_both h (same e) = sooner_irrefl number_lawful h (sym e)

-- equal weights are equally soon
sooner_eq : {p q r s : Weight} → p ≡ r → q ≡ s → Sooner energy p q → Sooner energy r s
sooner_eq {q = q} {r = r} e f h = subst (λ z. Sooner energy r z) f (subst (λ z. Sooner energy z q) e h)

-- ---- The entries that fit beside an energy

-- Entry j - 1 is the last that fits beside an energy within the limit; if j is 0, none does
pub record Fit (more_energies : List ℕ) (energy limit j : ℕ) : Type 0 where
  pub in_list : j ≤ length more_energies
  pub last : 0 < j → energy + get_or more_energies (j - 1) 0 ≤ limit
  pub beyond : (k : ℕ) → j ≤ k → k < length more_energies → limit < energy + get_or more_energies k 0

-- what the search down from `from` gives, where no entry from there on fits
pub fit_from :
    {more_energies : List ℕ} {energy limit from j : ℕ} →
    from ≤ length more_energies →
    ((k : ℕ) → from ≤ k → k < length more_energies → limit < energy + get_or more_energies k 0) →
    j ≤ from →
    ((k : ℕ) → j ≤ k → k < from → limit < energy + get_or more_energies k 0) →
    (0 < j → energy + get_or more_energies (j - 1) 0 ≤ limit) →
    Fit more_energies energy limit j
fit_from {more_energies} {energy} {limit} {from} {j} h over l between fits = record { in_list = omega arith; last = fits; beyond = beyond }
  where
    beyond : (k : ℕ) → j ≤ k → k < length more_energies → limit < energy + get_or more_energies k 0
    beyond k a b = pick (dec_le from k)
      where
        pick : Dec (from ≤ k) → limit < energy + get_or more_energies k 0
        pick (yes d) = over k d b
        pick (no d) = between k a (omega arith)

-- what the search down from the end gives
pub fit_whole :
    {more_energies : List ℕ} {energy limit j : ℕ} →
    j ≤ length more_energies →
    ((k : ℕ) → j ≤ k → k < length more_energies → limit < energy + get_or more_energies k 0) →
    (0 < j → energy + get_or more_energies (j - 1) 0 ≤ limit) →
    Fit more_energies energy limit j
fit_whole h between fits = record { in_list = h; last = fits; beyond = between }

-- ---- What is known after n entries of the first list

module _ (times energies more_times more_energies : List ℕ) where
  -- The best sum within the limit of the first n entries, at the lowest place
  pub record BestBefore (limit n i j : ℕ) : Type 0 where
    pub first_place : i < n
    pub second_place : j < length more_times
    pub within : Within energy limit (sum_at times energies more_times more_energies i j)
    pub least :
        (a : ℕ) → a < n → (b : ℕ) → b < length more_times → Within energy limit (sum_at times energies more_times more_energies a b) →
        NotLater energy (sum_at times energies more_times more_energies i j) (sum_at times energies more_times more_energies a b)
    pub lowest : (a : ℕ) → a < n → (b : ℕ) → b < length more_times → sum_at times energies more_times more_energies a b ≡ sum_at times energies more_times more_energies i j → i ≤ a

  -- The sum s is that of entry i and entry j
  pub record Weighed (s : Sum) (i j : ℕ) : Type 0 where
    pub first_is : s.first ≡ i
    pub second_is : s.second ≡ j
    pub weighs : weight_of s ≡ sum_at times energies more_times more_energies i j

  -- n entries are done: their best sum is known, and beside a later entry none from j on fits
  pub record Walked (limit n j : ℕ) (best : Sum) : Type 0 where
    pub in_list : n ≤ length times
    pub fits_in_list : j ≤ length more_energies
    pub beyond : (a k : ℕ) → n ≤ a → a < length energies → j ≤ k → k < length more_energies → limit < get_or energies a 0 + get_or more_energies k 0
    pub best_is : BestBefore limit n best.first best.second
    pub weighs : weight_of best ≡ sum_at times energies more_times more_energies best.first best.second

-- ---- The walk

module _ {most : ℕ} {times energies more_times more_energies : List ℕ} (first : IsList most times energies) (second : IsList most more_times more_energies) where
  abbrev sum : ℕ → ℕ → Weight
  sum = sum_at times energies more_times more_energies

  -- of the sums of entry n, that with the last entry that fits is the best
  last-least :
      {limit j : ℕ} (n : ℕ) → Fit more_energies (get_or energies n 0) limit j → (b : ℕ) → b < length more_times → Within energy limit (sum n b) → NotLater energy (sum n (j - 1)) (sum n b)
  last-least {limit} {j} n fit b h w = pick (dec_le j b) (ℕ_discrete b (j - 1))
    where
      pick : Dec (j ≤ b) → Dec (b ≡ j - 1) → NotLater energy (sum n (j - 1)) (sum n b)
      pick (yes d) e = absurd (omega (arith, fit.beyond b d (omega (arith, second.one_length))))
      pick (no d) (yes e) = same (ap (sum n) (sym e))
      pick (no d) (no e) =
          sooner (by_time (omega (arith, time_falls_far second b (j - 1) (omega arith) (omega (arith, fit.in_list, second.one_length)))))

  -- what does not fit beside entry n does not fit beside a later one, whose energy is larger
  beyond-next :
      {limit j : ℕ} (n : ℕ) → Fit more_energies (get_or energies n 0) limit j → (a k : ℕ) → n + 1 ≤ a → a < length energies → j ≤ k → k < length more_energies → limit < get_or energies a 0 + get_or more_energies k 0
  beyond-next n fit a k h l m o = omega (arith, fit.beyond k m o, energy_rises_far first n a (omega arith) l)

  -- ---- The best of the entries so far

  -- p is the best of the sums of entry a
  abbrev Least : ℕ → Weight → ℕ → Type 0
  Least limit p a = (b : ℕ) → b < length more_times → Within energy limit (sum a b) → NotLater energy p (sum a b)

  -- the first entry alone
  best-first : {limit j : ℕ} → Fit more_energies (get_or energies 0 0) limit j → 0 < j → BestBefore times energies more_times more_energies limit 1 0 (j - 1)
  best-first {limit} {j} fit h =
      record {
        first_place = omega arith;
        second_place = omega (arith, fit.in_list, second.one_length);
        within = fit.last h;
        least = below_more (Least limit (sum 0 (j - 1))) 0 (λ a l. absurd (omega arith)) (last-least 0 fit);
        lowest = λ a l b m e. omega arith;
      }

  module _ {limit n i m j : ℕ} (best : BestBefore times energies more_times more_energies limit n i m) (fit : Fit more_energies (get_or energies n 0) limit j) (some : 0 < j) where
    -- entry n has a sooner sum
    best_taken : Sooner energy (sum n (j - 1)) (sum i m) → BestBefore times energies more_times more_energies limit (n + 1) n (j - 1)
    best_taken before =
        record {
          first_place = omega arith;
          second_place = omega (arith, fit.in_list, second.one_length);
          within = fit.last some;
          least =
              below_more (Least limit (sum n (j - 1))) n
              (λ a l b k w. not_later_trans number_lawful (sooner before) (best.least a l b k w))
              (last-least n fit);
          lowest = below_more (λ a. (b : ℕ) → b < length more_times → sum a b ≡ sum n (j - 1) → n ≤ a) n lower (λ b k e. omega arith);
        }
      where
        -- an earlier entry with this sum would have been the best
        lower : (a : ℕ) → a < n → (b : ℕ) → b < length more_times → sum a b ≡ sum n (j - 1) → n ≤ a
        lower a l b k e =
            absurd (not_both before (not_later_eq e (best.least a l b k (within_eq e (fit.last some)))))

    -- entry n has none
    best-kept : NotLater energy (sum i m) (sum n (j - 1)) → BestBefore times energies more_times more_energies limit (n + 1) i m
    best-kept later =
        record {
          first_place = omega (arith, best.first_place);
          second_place = best.second_place;
          within = best.within;
          least = below_more (Least limit (sum i m)) n best.least (λ b k w. not_later_trans number_lawful later (last-least n fit b k w));
          lowest = below_more (λ a. (b : ℕ) → b < length more_times → sum a b ≡ sum i m → i ≤ a) n best.lowest (λ b k e. omega (arith, best.first_place));
        }

  -- no later entry has a sum within the limit
  best_all :
      {limit n i j : ℕ} → n ≤ length times → BestBefore times energies more_times more_energies limit n i j →
      ((a b : ℕ) → n ≤ a → a < length times → b < length more_times → Within energy limit (sum a b) → ⊥) → BestPlaces times energies more_times more_energies limit i j
  best_all {limit} {n} {i} {j} h best later =
      record {
        first_place = omega (arith, best.first_place);
        second_place = best.second_place;
        within = best.within;
        least = least;
        lowest = lowest;
      }
    where
      least : (a b : ℕ) → a < length times → b < length more_times → Within energy limit (sum a b) → NotLater energy (sum i j) (sum a b)
      least a b l k w = pick (dec_le n a)
        where
          pick : Dec (n ≤ a) → NotLater energy (sum i j) (sum a b)
          pick (yes d) = absurd (later a b d l k w)
          pick (no d) = best.least a (omega arith) b k w

      lowest : (a b : ℕ) → a < length times → b < length more_times → sum a b ≡ sum i j → i ≤ a
      lowest a b l k e = pick (dec_le n a)
        where
          pick : Dec (n ≤ a) → i ≤ a
          pick (yes d) = omega (arith, best.first_place)
          pick (no d) = best.lowest a (omega arith) b k e

  -- ---- The ways through the loop

  -- nothing fits beside the first entry, so nothing does beside a later one
  pub walk-nothing :
      {limit j : ℕ} → Fit more_energies (get_or energies 0 0) limit j → j ≡ 0 → (a b : ℕ) → a < length times → b < length more_times → Within energy limit (sum a b) → ⊥
  walk-nothing {limit} fit h zero b l k w = omega (arith, fit.beyond b (omega arith) (omega (arith, second.one_length)))
  walk-nothing {limit} fit h (suc a) b l k w =
      omega
      (arith, beyond-next 0 fit (suc a) b (omega arith) (omega (arith, first.one_length)) (omega arith) (omega (arith, second.one_length)))

  -- the first entry has a sum
  pub walk_starts :
      {limit j : ℕ} {s : Sum} → 0 < length times → Fit more_energies (get_or energies 0 0) limit j → 0 < j → Weighed times energies more_times more_energies s 0 (j - 1) → Walked times energies more_times more_energies limit 1 j s
  walk_starts {limit} {j} {s} h fit some is =
      record {
        in_list = omega arith;
        fits_in_list = fit.in_list;
        beyond = beyond-next 0 fit;
        best_is = rw (is.first_is, is.second_is) (best-first fit some);
        weighs = rw (is.first_is, is.second_is) is.weighs;
      }

  module _ {limit n j : ℕ} {best : Sum} (walked : Walked times energies more_times more_energies limit n j best) where
    -- what the search down from j gives
    pub walk-fits :
        {r : ℕ} → n < length times → r ≤ j → ((k : ℕ) → r ≤ k → k < j → limit < get_or energies n 0 + get_or more_energies k 0) →
        (0 < r → get_or energies n 0 + get_or more_energies (r - 1) 0 ≤ limit) → Fit more_energies (get_or energies n 0) limit r
    walk-fits h l between fits =
        fit_from walked.fits_in_list (λ k a b. walked.beyond n k (omega arith) (omega (arith, first.one_length)) a b) l between fits

    -- entry n has a sum, which is taken if it comes before the best
    pub walk_more :
        {r : ℕ} {candidate next : Sum} → n < length times → Fit more_energies (get_or energies n 0) limit r → 0 < r → Weighed times energies more_times more_energies candidate n (r - 1) →
        (Sooner energy (weight_of candidate) (weight_of best) × (next ≡ candidate)) ⊎ (NotLater energy (weight_of best) (weight_of candidate) × (next ≡ best)) →
        Walked times energies more_times more_energies limit (n + 1) r next
    walk_more h fit some is (inl (before, e)) =
        record {
          in_list = omega arith;
          fits_in_list = fit.in_list;
          beyond = beyond-next n fit;
          best_is = rw (e, is.first_is, is.second_is) (best_taken walked.best_is fit some (sooner_eq is.weighs walked.weighs before));
          weighs = rw (e, is.first_is, is.second_is) is.weighs;
        }
    walk_more h fit some is (inr (later, e)) =
        record {
          in_list = omega arith;
          fits_in_list = fit.in_list;
          beyond = beyond-next n fit;
          best_is = rw e (best-kept walked.best_is fit some (not_later_eq is.weighs (rw walked.weighs at later)));
          weighs = rw e walked.weighs;
        }

    -- nothing fits beside entry n, so nothing does beside a later one
    pub walk-stops : {r : ℕ} → n < length times → Fit more_energies (get_or energies n 0) limit r → r ≡ 0 → BestPlaces times energies more_times more_energies limit best.first best.second
    walk-stops h fit e = best_all walked.in_list walked.best_is later
      where
        later : (a b : ℕ) → n ≤ a → a < length times → b < length more_times → Within energy limit (sum a b) → ⊥
        later a b l k o w = pick (ℕ_discrete a n)
          where
            pick : Dec (a ≡ n) → ⊥
            pick (yes d) = omega (arith, fit.beyond b (omega arith) (omega (arith, second.one_length)), ap (λ z. get_or energies z 0) d)
            pick (no d) =
                omega
                (arith, beyond-next n fit a b (omega arith) (omega (arith, first.one_length)) (omega arith) (omega (arith, second.one_length)))

    -- there is no entry more
    pub walk_ends : length times ≤ n → BestPlaces times energies more_times more_energies limit best.first best.second
    walk_ends h = best_all walked.in_list walked.best_is (λ a b l k o w. omega arith)
