-- What is known of the best sum, and how lists take it further. In this order: the sums of two lists; a known sum that stays; more
-- lists; the walk along two lists; where it starts; one level.
use mathlib.Core.Path.{◌≡◌, refl, sym, ap, ◌∙◌}
use mathlib.Core.Logic.{◌⊎◌, inl, inr, ⊎_elim}
use mathlib.Core.Bool.{Bool, true, false, true≢false}
use mathlib.Core.List.{List}
use Prim.Native.Nat.{ℕ, suc, ◌+◌, ◌-◌, ◌≤◌, ◌<◌}
use native.Mathlib.Decide.{ℕ_discrete, dec_le}
use native.Mathlib.Omega.{arith}
use lib.Dec.{ltb}
use borrow.Author.Tests.{ltb-false, ltb-true}
use Rattle.paths.specs.Weights.{energy, spent, Within, Sooner, NotLater, same, sooner, by_time}
use Rattle.paths.proofs.Figures.{number_lawful}
use Rattle.paths.proofs.Weights.{not_later_refl, not_later_trans}
use Rattle.lists.specs.Entries.{Weight}
use Rattle.lists.proofs.Walk.{pair_is}
use Rattle.forest.specs.LabelFile.{count_at, time_at, energy_at}
use Rattle.stored.specs.working.Formed.{ListFits}
use Rattle.query.specs.declared.across.Sum.{Sum}
use Rattle.query.specs.declared.across.Best.{Best}
use Rattle.query.specs.working.Sums.{FittingFrom, SlowBefore, sum_of, SumIn, Only, pair_of, SumIs, Placed, Improves, SomeSum, Extends, WalkStart, WorthWalking}
use Rattle.query.proofs.ListPlaces.{energies_rise, times_fall}

-- ---- The sums of two lists

-- p is the sum of an entry of each list
record Entries (labels : List ℕ) (near far : ℕ) (p : Weight) : Type 0 where
  a : ℕ
  b : ℕ
  in_near : a < count_at labels near
  in_far : b < count_at labels far
  adds : p ≡ sum_of labels near far a b

only-entries : {labels : List ℕ} {near far : ℕ} {p : Weight} → SumIn labels (Only near far) p → Entries labels near far p
only-entries h =
    record {
      a = h.i;
      b = h.j;
      in_near = rw h.lists.near_is at h.sum.in_near;
      in_far = rw h.lists.far_is at h.sum.in_far;
      adds = rw (h.lists.near_is, h.lists.far_is) at h.sum.adds;
    }

-- what comes before the sum of any two entries within C comes before every sum within C
module _ {labels : List ℕ} {near far C : ℕ} {q : Weight} where
  each_sum :
      ((a b : ℕ) → a < count_at labels near → b < count_at labels far → energy_at labels near a + energy_at labels far b ≤ C → NotLater energy q (sum_of labels near far a b)) →
      (p : Weight) → SumIn labels (Only near far) p → Within energy C p → NotLater energy q p
  each_sum first p h w =
      let z = only-entries h in
      rw z.adds (first z.a z.b z.in_near z.in_far (omega (arith, w, ap (spent energy) z.adds)))

-- ---- A known sum that stays

module _ {labels : List ℕ} {Lists : ℕ → ℕ → Type 0} {C : ℕ} where
  -- where no sum within C comes before it
  pub improves-kept : {known : Sum} → ((p : Weight) → SumIn labels Lists p → Within energy C p → NotLater energy (pair_of known) p) → Improves labels Lists C known known
  improves-kept {known} least = record { no_later = not_later_refl number_lawful (pair_of known); least = least; origin = inl refl }

  -- where there is no sum
  pub extends_kept : {known : Best} → (SomeSum labels Lists → ⊥) → Extends labels Lists C known known
  extends_kept none =
      record {
        improves = improves-kept (λ p h w. absurd (none (record { one = p; among = h })));
        connected = inl;
        apart = λ e. (e, none);
      }

  -- where there is one, it is seen
  pub extends_seen : {known r : Best} → SomeSum labels Lists → r.connected ≡ true → Improves labels Lists C known.sum r.sum → Extends labels Lists C known r
  extends_seen some e improves = record { improves = improves; connected = λ f. inr some; apart = λ f. absurd (true≢false (sym e ∙ f)) }

-- ---- More lists

-- R has the lists of P and those of Q
pub record ListParts (R P Q : ℕ → ℕ → Type 0) : Type 0 where
  pub cases : (n f : ℕ) → R n f → P n f ⊎ Q n f
  pub first : (n f : ℕ) → P n f → R n f
  pub second : (n f : ℕ) → Q n f → R n f

-- the same sum among more lists
pub sum_more : {labels : List ℕ} {P R : ℕ → ℕ → Type 0} {p : Weight} → ((n f : ℕ) → P n f → R n f) → SumIn labels P p → SumIn labels R p
sum_more more h = record { near = h.near; far = h.far; i = h.i; j = h.j; lists = more h.near h.far h.lists; sum = h.sum }

some_more : {labels : List ℕ} {P R : ℕ → ℕ → Type 0} → ((n f : ℕ) → P n f → R n f) → SomeSum labels P → SomeSum labels R
some_more more some = record { one = some.one; among = sum_more more some.among }

placed-more : {labels : List ℕ} {P R : ℕ → ℕ → Type 0} {C : ℕ} {sum : Sum} → ((n f : ℕ) → P n f → R n f) → Placed labels P C sum → Placed labels R C sum
placed-more {sum = sum} more h = record { lists = more sum.near sum.far h.lists; stands = h.stands; within = h.within }

module _ {labels : List ℕ} {R P Q : ℕ → ℕ → Type 0} (parts : ListParts R P Q) where
  -- it is of one part or of the other
  pub sum_cases : {p : Weight} → SumIn labels R p → SumIn labels P p ⊎ SumIn labels Q p
  sum_cases h =
      ⊎_elim
      (λ z. inl (record { near = h.near; far = h.far; i = h.i; j = h.j; lists = z; sum = h.sum }))
      (λ z. inr (record { near = h.near; far = h.far; i = h.i; j = h.j; lists = z; sum = h.sum }))
      (parts.cases h.near h.far h.lists)

  improves_then : {C : ℕ} {known middle r : Sum} → Improves labels P C known middle → Improves labels Q C middle r → Improves labels R C known r
  improves_then {C} {known} {middle} {r} one two =
      record {
        no_later = not_later_trans number_lawful two.no_later one.no_later;
        least =
            λ p h w.
            ⊎_elim (λ here. not_later_trans number_lawful two.no_later (one.least p here w)) (λ there. two.least p there w) (sum_cases h);
        origin = ⊎_elim before (λ z. inr (placed-more parts.second z)) two.origin;
      }
    where
      before : r ≡ middle → (r ≡ known) ⊎ Placed labels R C r
      before e = ⊎_elim (λ f. inl (e ∙ f)) (λ z. inr (rw e (placed-more parts.first z))) one.origin

  -- what is known after both parts
  pub extends_then : {C : ℕ} {known middle r : Best} → Extends labels P C known middle → Extends labels Q C middle r → Extends labels R C known r
  extends_then one two =
      record {
        improves = improves_then one.improves two.improves;
        connected =
            λ e.
            ⊎_elim
            (λ f. ⊎_elim inl (λ some. inr (some_more parts.first some)) (one.connected f))
            (λ some. inr (some_more parts.second some))
            (two.connected e);
        apart =
            λ e.
            let late = two.apart e in
            let early = one.apart late.0 in (
              early.0,
              λ some.
                  ⊎_elim
                  (λ z. early.1 (record { one = some.one; among = z }))
                  (λ z. late.1 (record { one = some.one; among = z }))
                  (sum_cases some.among),
            );
      }

-- ---- The walk along two lists

-- Before place i the near entries are done, and beside a later one no far entry from place j on fits
pub record Walked (labels : List ℕ) (near far C : ℕ) (known : Sum) (i j : ℕ) (best : Sum) : Type 0 where
  pub in_near : i ≤ count_at labels near
  pub in_far : j ≤ count_at labels far
  pub no_later : NotLater energy (pair_of best) (pair_of known)
  pub least :
      (a b : ℕ) → a < i → b < count_at labels far → energy_at labels near a + energy_at labels far b ≤ C → NotLater energy (pair_of best) (sum_of labels near far a b)
  pub over : (a b : ℕ) → i ≤ a → a < count_at labels near → j ≤ b → b < count_at labels far → C < energy_at labels near a + energy_at labels far b
  pub origin : (best ≡ known) ⊎ Placed labels (Only near far) C best

-- at first those that are too slow are done
pub walk_starts : {labels : List ℕ} {near far C i j : ℕ} {known : Sum} → WalkStart labels near far C i j known → Walked labels near far C known i j known
walk_starts {known = known} start =
    record {
      in_near = start.in_near;
      in_far = start.in_far;
      no_later = not_later_refl number_lawful (pair_of known);
      least = λ a b h g w. sooner (by_time (start.slow a b h g));
      over = start.over;
      origin = inl refl;
    }

module _ {labels : List ℕ} {near far C i j : ℕ} {known best : Sum} (now : Walked labels near far C known i j best) where
  -- no sum of a later near entry comes before the best
  walk_done :
      ((a b : ℕ) → i ≤ a → a < count_at labels near → b < count_at labels far → energy_at labels near a + energy_at labels far b ≤ C → NotLater energy (pair_of best) (sum_of labels near far a b)) →
      Improves labels (Only near far) C known best
  walk_done later =
      record { no_later = now.no_later; least = each_sum (λ a b h g w. pick a b h g w (dec_le i a)); origin = now.origin }
    where
      pick :
          (a b : ℕ) → a < count_at labels near → b < count_at labels far → energy_at labels near a + energy_at labels far b ≤ C → Dec (i ≤ a) →
          NotLater energy (pair_of best) (sum_of labels near far a b)
      pick a b h g w (yes behind) = later a b behind h g w
      pick a b h g w (no before) = now.least a b (omega arith) g w

  -- there is no near entry more
  pub walk_ends : {count : ℕ} → count ≡ count_at labels near → count ≤ i → Improves labels (Only near far) C known best
  walk_ends e h = walk_done (λ a b g m n w. absurd (omega arith))

  module _ (near_fits : ListFits labels near) (far_fits : ListFits labels far) (turn : i < count_at labels near) {beside r : ℕ} (read : beside ≡ energy_at labels near i)
      (fitting : FittingFrom labels far beside C j r) where
    -- beside entry i and what is behind it nothing fits from place r on
    beyond : (a b : ℕ) → i ≤ a → a < count_at labels near → r ≤ b → b < count_at labels far → C < energy_at labels near a + energy_at labels far b
    beyond a b h g m n = pick (dec_le j b)
      where
        pick : Dec (j ≤ b) → C < energy_at labels near a + energy_at labels far b
        pick (yes behind) = now.over a b h g behind n
        pick (no before) = omega (arith, read, fitting.over b m (omega arith), energies_rise near_fits i a h g)

    -- nothing fits
    pub walk_none : r ≡ 0 → Improves labels (Only near far) C known best
    walk_none e = walk_done (λ a b h g m w. absurd (omega (arith, beyond a b h g (omega arith) m)))

    module _ (some : r ≡ 0 → ⊥) where
      -- a far entry that fits is no quicker than the last one
      last_quickest : (b : ℕ) → b < r → time_at labels far (r - 1) ≤ time_at labels far b
      last_quickest b h = times_fall far_fits b (r - 1) (omega arith) (omega (arith, fitting.in_range, now.in_far))

      -- even the quickest near entry is too slow beside the last that fits
      pub walk-slow :
          {quickest takes sum : ℕ} {test : Bool} → quickest ≡ time_at labels near (count_at labels near - 1) → takes ≡ time_at labels far (r - 1) → sum ≡ quickest + takes →
          test ≡ ltb best.time.0 sum → test ≡ true → Improves labels (Only near far) C known best
      walk-slow {sum = sum} is-quickest is-takes is_sum tested t = walk_done later
        where
          late : best.time.0 < sum
          late = ltb-true _ _ (sym tested ∙ t)

          later :
              (a b : ℕ) → i ≤ a → a < count_at labels near → b < count_at labels far → energy_at labels near a + energy_at labels far b ≤ C → NotLater energy (pair_of best) (sum_of labels near far a b)
          later a b h g m w = pick (dec_le r b)
            where
              pick : Dec (r ≤ b) → NotLater energy (pair_of best) (sum_of labels near far a b)
              pick (yes behind) = absurd (omega (arith, beyond a b h g behind m))
              pick (no before) =
                  sooner (by_time (omega (arith, late, is-quickest, is-takes, is_sum, last_quickest b (omega arith), times_fall near_fits a (count_at labels near - 1) (omega arith) (omega arith))))

      module _ {candidate : Sum} (is : SumIs labels near far i (r - 1) candidate) where
        candidate_is : pair_of candidate ≡ sum_of labels near far i (r - 1)
        candidate_is = pair_is is.time_is is.energy_is

        -- of the sums of entry i, that with the last entry that fits is the best
        last-least :
            (b : ℕ) → b < count_at labels far → energy_at labels near i + energy_at labels far b ≤ C → NotLater energy (pair_of candidate) (sum_of labels near far i b)
        last-least b h w = rw candidate_is (pick (dec_le r b) (ℕ_discrete b (r - 1)))
          where
            pick : Dec (r ≤ b) → Dec (b ≡ r - 1) → NotLater energy (sum_of labels near far i (r - 1)) (sum_of labels near far i b)
            pick (yes behind) d = absurd (omega (arith, beyond i b (omega arith) turn behind h))
            pick (no before) (yes e) = same (ap (sum_of labels near far i) (sym e))
            pick (no before) (no apart) =
                sooner
                (by_time
                (omega (
                  arith,
                  far_fits.time_falls b (omega (arith, fitting.in_range, now.in_far)),
                  times_fall far_fits (suc b) (r - 1) (omega arith) (omega (arith, fitting.in_range, now.in_far)),
                )))

        -- it stands where it says
        candidate_placed : Placed labels (Only near far) C candidate
        candidate_placed =
            record {
              lists = record { near_is = is.near_is; far_is = is.far_is };
              stands =
                  rw (is.near_is, is.far_is, is.i_is, is.j_is)
                  (record { in_near = turn; in_far = omega (arith, fitting.in_range, now.in_far); adds = candidate_is });
              within = omega (arith, is.energy_is, read, fitting.fits (omega arith));
            }

        -- entry i is done: its best sum is taken if it comes before the best
        walk_with :
            {next : Sum} → NotLater energy (pair_of next) (pair_of candidate) → NotLater energy (pair_of next) (pair_of best) →
            (next ≡ known) ⊎ Placed labels (Only near far) C next → Walked labels near far C known (i + 1) r next
        walk_with {next} before-candidate before-best origin =
            record {
              in_near = omega arith;
              in_far = omega (arith, fitting.in_range, now.in_far);
              no_later = not_later_trans number_lawful before-best now.no_later;
              least = λ a b h g w. pick a b h g w (ℕ_discrete a i);
              over = λ a b h g m n. beyond a b (omega arith) g m n;
              origin = origin;
            }
          where
            pick :
                (a b : ℕ) → a < i + 1 → b < count_at labels far → energy_at labels near a + energy_at labels far b ≤ C → Dec (a ≡ i) →
                NotLater energy (pair_of next) (sum_of labels near far a b)
            pick a b h g w (yes e) = rw e (not_later_trans number_lawful before-candidate (last-least b g (rw e at w)))
            pick a b h g w (no apart) = not_later_trans number_lawful before-best (now.least a b (omega arith) g w)

        pub walk_more :
            {next : Sum} → (Sooner energy (pair_of candidate) (pair_of best) × (next ≡ candidate)) ⊎ (NotLater energy (pair_of best) (pair_of candidate) × (next ≡ best)) →
            Walked labels near far C known (i + 1) r next
        walk_more (inl (comes, e)) = walk_with (same (ap pair_of e)) (rw e (sooner comes)) (inr (rw e candidate_placed))
        walk_more (inr (later, e)) = walk_with (rw e later) (same (ap pair_of e)) (rw e now.origin)

-- ---- Where the walk starts

module _ {labels : List ℕ} {near far : ℕ} {known : Sum} (near_fits : ListFits labels near) (far_fits : ListFits labels far) (worth : WorthWalking labels near far known)
    {quickest start : ℕ} (is : quickest ≡ time_at labels far (count_at labels far - 1)) (slow : SlowBefore labels near quickest known.time.0 start) where
  pub walk_start :
      {beside C end : ℕ} → beside ≡ energy_at labels near start → FittingFrom labels far beside C (count_at labels far) end → WalkStart labels near far C start end known
  walk_start read fitting =
      record {
        in_near = slow.in_list;
        in_far = fitting.in_range;
        slow = λ a b h g. omega (arith, is, slow.slow a h, times_fall far_fits b (count_at labels far - 1) (omega arith) (omega arith));
        over = λ a b h g m n. omega (arith, read, fitting.over b m n, energies_rise near_fits start a h g);
      }

-- ---- One level

module _ {labels : List ℕ} {near far near-count : ℕ} (near_is : near-count ≡ count_at labels near) where
  module _ {far-count : ℕ} (far_is : far-count ≡ count_at labels far) where
    module _ (near_some : near-count ≡ 0 → ⊥) (far_some : far-count ≡ 0 → ⊥) where
      -- the first entries have a sum
      level-some : SomeSum labels (Only near far)
      level-some =
          record {
            one = sum_of labels near far 0 0;
            among =
                record {
                  near = near;
                  far = far;
                  i = 0;
                  j = 0;
                  lists = record { near_is = refl; far_is = refl };
                  sum = record { in_near = omega arith; in_far = omega arith; adds = refl };
                };
          }

      -- what the walk along the lists gives
      pub level_walked : {C : ℕ} {known r : Best} → r.connected ≡ true → Improves labels (Only near far) C known.sum r.sum → Extends labels (Only near far) C known r
      level_walked e improves = extends_seen level-some e improves

      module _ (near_fits : ListFits labels near) (far_fits : ListFits labels far) where
        -- the least energies are over the limit
        pub level-over :
            {C : ℕ} {known r : Best} {cheapest : Sum} → SumIs labels near far 0 0 cheapest → C < cheapest.energy.0 → r.connected ≡ true → r.sum ≡ known.sum →
            Extends labels (Only near far) C known r
        level-over {C} {known} is beyond e kept = level_walked e (rw kept (improves-kept (each_sum over)))
          where
            over :
                (a b : ℕ) → a < count_at labels near → b < count_at labels far → energy_at labels near a + energy_at labels far b ≤ C →
                NotLater energy (pair_of known.sum) (sum_of labels near far a b)
            over a b h g w =
                absurd (omega (arith, beyond, is.energy_is, energies_rise near_fits 0 a (omega arith) h, energies_rise far_fits 0 b (omega arith) g))

        module _ {quickest : Sum} (is : SumIs labels near far (near-count - 1) (far-count - 1) quickest) where
          -- the last entries, which are the quickest
          quickest_is : quickest.time.0 ≡ time_at labels near (count_at labels near - 1) + time_at labels far (count_at labels far - 1)
          quickest_is = rw (near_is, far_is) at is.time_is

          -- they take longer than what is known
          pub level-slow :
              {C : ℕ} {known r : Best} {test : Bool} → test ≡ ltb known.sum.time.0 quickest.time.0 → test ≡ true → r.connected ≡ true → r.sum ≡ known.sum → Extends labels (Only near far) C known r
          level-slow {C} {known} tested t e kept = level_walked e (rw kept (improves-kept (each_sum slow)))
            where
              late : known.sum.time.0 < quickest.time.0
              late = ltb-true _ _ (sym tested ∙ t)

              slow :
                  (a b : ℕ) → a < count_at labels near → b < count_at labels far → energy_at labels near a + energy_at labels far b ≤ C →
                  NotLater energy (pair_of known.sum) (sum_of labels near far a b)
              slow a b h g w =
                  sooner
                  (by_time
                  (omega (
                    arith,
                    late,
                    quickest_is,
                    times_fall near_fits a (count_at labels near - 1) (omega arith) (omega arith),
                    times_fall far_fits b (count_at labels far - 1) (omega arith) (omega arith),
                  )))

          -- they do not
          pub level_worth : {known : Sum} {test : Bool} → test ≡ ltb known.time.0 quickest.time.0 → test ≡ false → WorthWalking labels near far known
          level_worth {known} tested t =
              record {
                near_some = omega arith;
                far_some = omega arith;
                quick = omega (arith, ltb-false known.time.0 quickest.time.0 (sym tested ∙ t), quickest_is);
              }
