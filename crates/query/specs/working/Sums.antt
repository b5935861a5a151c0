-- Sums of entries of stored lists, each with the place where it stands, and the best of them under a limit.
use Rattle.std.specs.Prelude.{◌≡◌, ◌⊎◌, Bool, true, false, Result, Ok, Err, List, ℕ, ◌+◌, ◌-◌, ◌≤◌, ◌<◌, length}
use Rattle.paths.specs.Weights.{energy, pair, Within, NotLater}
use Rattle.paths.specs.declared.pair.Pair.{Pair}
use Rattle.lists.specs.Entries.{Weight}
use Rattle.forest.specs.LabelFile.{count_at, time_at, energy_at}
use Rattle.stored.specs.ListForm.{most_bytes}
use Rattle.stored.specs.working.Formed.{ListFits}
use Rattle.stored.specs.working.Scanned.{further}
use Rattle.query.specs.declared.NoAnswer.{NoAnswer}
use Rattle.query.specs.declared.NoAnswer.TheVariants.{NotConnected, OverLimit}
use Rattle.query.specs.declared.across.Sum.{Sum}
use Rattle.query.specs.declared.across.Best.{Best}

-- A time that no path takes: what a best sum has before one is found
abbrev pub no_time : ℕ
no_time = 4294967295

-- ---- Places in one list

-- r is the end of the places that pass a test, of so many, as far as the test at r and at the place before it tells
pub record FirstFailing (Passes : ℕ → Bool → Type 0) (count r : ℕ) : Type 0 where
  pub in_range : r ≤ count
  pub passed : 0 < r → Passes (r - 1) true
  pub failed : r < count → Passes r false

-- Of the first `from` entries of the list at byte `at` those before place r fit beside so much energy, up to the last of them
pub record FittingFrom (labels : List ℕ) (at beside limit from r : ℕ) : Type 0 where
  pub in_range : r ≤ from
  pub over : (k : ℕ) → r ≤ k → k < from → limit < beside + energy_at labels at k
  pub fits : 0 < r → beside + energy_at labels at (r - 1) ≤ limit

-- The entries of the list at byte `at` before place r take longer than `most` beside so much time
pub record SlowBefore (labels : List ℕ) (at beside most r : ℕ) : Type 0 where
  pub in_list : r ≤ count_at labels at
  pub slow : (k : ℕ) → k < r → most < time_at labels at k + beside

-- ---- Sums

-- The sum of entry i of the list at byte `near` and entry j of the list at byte `far`
abbrev pub sum_of : List ℕ → ℕ → ℕ → ℕ → ℕ → Weight
sum_of labels near far i j = pair (time_at labels near i + time_at labels far j) (energy_at labels near i + energy_at labels far j)

-- p is that sum, of two entries that the lists have
pub record SumAt (labels : List ℕ) (near far i j : ℕ) (p : Weight) : Type 0 where
  pub in_near : i < count_at labels near
  pub in_far : j < count_at labels far
  pub adds : p ≡ sum_of labels near far i j

-- p is such a sum of two lists that belong together
pub record SumIn (labels : List ℕ) (Lists : ℕ → ℕ → Type 0) (p : Weight) : Type 0 where
  pub near : ℕ
  pub far : ℕ
  pub i : ℕ
  pub j : ℕ
  pub lists : Lists near far
  pub sum : SumAt labels near far i j p

-- The lists at two bytes alone
pub record Only (near far n f : ℕ) : Type 0 where
  pub near_is : n ≡ near
  pub far_is : f ≡ far

-- The lists at two bytes and those behind them, the first with the first, so many on each side
pub record Row (labels : List ℕ) (near far levels n f : ℕ) : Type 0 where
  pub level : ℕ
  pub below : level < levels
  pub near_is : n ≡ further labels near level
  pub far_is : f ≡ further labels far level

-- All of them fit
pub record RowFits (labels : List ℕ) (near far levels : ℕ) : Type 0 where
  pub few_bytes : length labels ≤ most_bytes
  pub near_fits : (k : ℕ) → k < levels → ListFits labels (further labels near k)
  pub far_fits : (k : ℕ) → k < levels → ListFits labels (further labels far k)

-- ---- The best sum

-- The pair of a sum
abbrev pub pair_of : Sum → Weight
pair_of sum = pair sum.time.0 sum.energy.0

-- What the code holds of the sum of entry i and entry j
pub record SumIs (labels : List ℕ) (near far i j : ℕ) (sum : Sum) : Type 0 where
  pub near_is : sum.near ≡ near
  pub far_is : sum.far ≡ far
  pub i_is : sum.i ≡ i
  pub j_is : sum.j ≡ j
  pub time_is : sum.time.0 ≡ time_at labels near i + time_at labels far j
  pub energy_is : sum.energy.0 ≡ energy_at labels near i + energy_at labels far j

-- The sum stands where it says, in two lists that belong together, and is within C
pub record Placed (labels : List ℕ) (Lists : ℕ → ℕ → Type 0) (C : ℕ) (sum : Sum) : Type 0 where
  pub lists : Lists sum.near sum.far
  pub stands : SumAt labels sum.near sum.far sum.i sum.j (pair_of sum)
  pub within : Within energy C (pair_of sum)

-- r is the best of a known sum and the sums within C: the known one, or one of them where it stands
pub record Improves (labels : List ℕ) (Lists : ℕ → ℕ → Type 0) (C : ℕ) (known r : Sum) : Type 0 where
  pub no_later : NotLater energy (pair_of r) (pair_of known)
  pub least : (p : Weight) → SumIn labels Lists p → Within energy C p → NotLater energy (pair_of r) p
  pub origin : (r ≡ known) ⊎ Placed labels Lists C r

-- A sum, be it within a limit or not
pub record SomeSum (labels : List ℕ) (Lists : ℕ → ℕ → Type 0) : Type 0 where
  pub one : Weight
  pub among : SumIn labels Lists one

-- r is what is known of the best sum, taken further by the sums of these lists; it is connected if there is a sum
pub record Extends (labels : List ℕ) (Lists : ℕ → ℕ → Type 0) (C : ℕ) (known r : Best) : Type 0 where
  pub improves : Improves labels Lists C known.sum r.sum
  pub connected : r.connected ≡ true → (known.connected ≡ true) ⊎ SomeSum labels Lists
  pub apart : r.connected ≡ false → (known.connected ≡ false) × (SomeSum labels Lists → ⊥)

-- Nothing is known yet
pub record Unknown (best : Best) : Type 0 where
  pub apart : best.connected ≡ false
  pub late : best.sum.time.0 ≡ no_time

-- What is known of the best sum, as an answer
pub data Told (best : Best) (r : Result Pair NoAnswer) : Type 0 where
  told_found : (best.sum.time.0 ≡ no_time → ⊥) → r ≡ Ok (record { time = best.sum.time; energy = best.sum.energy }) → Told best r
  told_over : best.sum.time.0 ≡ no_time → best.connected ≡ true → r ≡ Err OverLimit → Told best r
  told_apart : best.sum.time.0 ≡ no_time → best.connected ≡ false → r ≡ Err NotConnected → Told best r

-- ---- The walk along two lists

-- Before place i the near entries are too slow for what is known, and beside a later one no far entry from place j on fits
pub record WalkStart (labels : List ℕ) (near far C i j : ℕ) (known : Sum) : Type 0 where
  pub in_near : i ≤ count_at labels near
  pub in_far : j ≤ count_at labels far
  pub slow : (a b : ℕ) → a < i → b < count_at labels far → known.time.0 < time_at labels near a + time_at labels far b
  pub over : (a b : ℕ) → i ≤ a → a < count_at labels near → j ≤ b → b < count_at labels far → C < energy_at labels near a + energy_at labels far b

-- Both lists have an entry, and their quickest are quick enough for what is known
pub record WorthWalking (labels : List ℕ) (near far : ℕ) (known : Sum) : Type 0 where
  pub near_some : 0 < count_at labels near
  pub far_some : 0 < count_at labels far
  pub quick : time_at labels near (count_at labels near - 1) + time_at labels far (count_at labels far - 1) ≤ known.time.0
