-- Sums of stored lists noted by their times. In this order: one level; all levels; the best answer; the best below a bound.
use mathlib.Core.Path.{◌≡◌, refl, sym, ap, ◌∙◌}
use mathlib.Core.Logic.{inl, inr, ⊎_elim}
use mathlib.Core.List.{List}
use Rattle.std.specs.Prelude.{Result, Ok, Err}
use Rattle.std.specs.Result.{result_ok}
use Prim.Native.Nat.{ℕ, ◌+◌, ◌≤◌, ◌<◌}
use native.Mathlib.Omega.{arith}
use lib.ListN.{length}
use Rattle.paths.specs.Weights.{energy, pair, time, spent, Within}
use Rattle.paths.proofs.Figures.{number_lawful}
use Rattle.paths.proofs.Weights.{not_later_antisym}
use Rattle.lists.specs.Entries.{Weight}
use Rattle.spans.specs.working.Noting.{span_seconds, SumOf, PairWithin, NoneBefore, Lowered}
use Rattle.spans.specs.declared.Span.{Span}
use Rattle.spans.specs.working.Below.{BestWithin, BestIs, BestOrWhy, NextOrWhy}
use Rattle.spans.proofs.NotingLaws.{lowered_none, lowered-same, SetParts, lowered_then}
use Rattle.spans.proofs.TableLaws.{EnergiesRise, FittingSums}
use Rattle.forest.specs.LabelFile.{count_at, energy_at, list_end}
use Rattle.stored.specs.working.Formed.{ListFits}
use Rattle.paths.specs.declared.pair.Pair.{Pair}
use Rattle.query.specs.declared.NoAnswer.{NoAnswer}
use Rattle.query.specs.declared.NoAnswer.TheVariants as case
use Rattle.query.specs.NoAnswers.{number_without}
use Rattle.query.specs.working.AnswerValues.{number_of, time_of, energy_of}
use Rattle.query.specs.working.AnswerFrom.{AnswerFrom, found, over_limit, not_connected}
use Rattle.query.specs.working.Sums.{FittingFrom, sum_of, SumIn, Only, Row, RowFits}
use Rattle.query.proofs.AnswersUnique.{SameAnswer}
use Rattle.query.proofs.ListPlaces.{energies_rise, times_fall}
use Rattle.query.proofs.BestSums.{ListParts, sum_more, sum_cases}
use Rattle.query.proofs.Rows.{row_parts, Along, along-none, along-more, along_all}
use Rattle.tradeoffs.specs.working.Noting.{NoneFrom, NextBelow}

-- ---- One level

module _ {labels : List ℕ} {far : ℕ} where
  module _ {near C : ℕ} where
    -- a sum of two entries is a sum of the two lists
    level_sum : (p : Weight) → PairWithin (SumOf (sum_of labels near far) (count_at labels near) (count_at labels far)) C p → PairWithin (SumIn labels (Only near far)) C p
    level_sum p h =
        record {
          has =
              record {
                near = near;
                far = far;
                i = h.has.i;
                j = h.has.j;
                lists = record { near_is = refl; far_is = refl };
                sum = record { in_near = h.has.in_near; in_far = h.has.in_far; adds = h.has.adds };
              };
          within = h.within;
        }

    -- and back
    level-entries : (p : Weight) → PairWithin (SumIn labels (Only near far)) C p → PairWithin (SumOf (sum_of labels near far) (count_at labels near) (count_at labels far)) C p
    level-entries p m =
        record {
          has =
              record {
                i = m.has.i;
                j = m.has.j;
                in_near = rw m.has.lists.near_is at m.has.sum.in_near;
                in_far = rw m.has.lists.far_is at m.has.sum.in_far;
                adds = rw (m.has.lists.near_is, m.has.lists.far_is) at m.has.sum.adds;
              };
          within = m.within;
        }

    pub level_before :
        {first : ℕ} → NoneBefore (PairWithin (SumIn labels (Only near far)) C) first →
        NoneBefore (PairWithin (SumOf (sum_of labels near far) (count_at labels near) (count_at labels far)) C) first
    level_before none = record { later = λ p h. none.later p (level_sum p h) }

    pub level-lowered :
        {first : ℕ} {before after : List ℕ} → Lowered (PairWithin (SumOf (sum_of labels near far) (count_at labels near) (count_at labels far)) C) first before after →
        Lowered (PairWithin (SumIn labels (Only near far)) C) first before after
    level-lowered {first} noted = lowered-same level_sum (λ k e h m. level-entries (pair (first + k) e) m) noted

  -- the energies of the sums rise with those of the lists
  pub level_rise : {near : ℕ} → ListFits labels near → ListFits labels far → EnergiesRise (sum_of labels near far) (count_at labels near) (count_at labels far)
  level_rise near_fits far_fits =
      record {
        near_rise = λ a b j h g. omega (arith, energies_rise near_fits a b h g);
        far_rise = λ i a b h g. omega (arith, energies_rise far_fits a b h g);
      }

  -- and the times fall
  pub level_falls :
      (near i : ℕ) → ListFits labels far → {end : ℕ} → end ≤ count_at labels far → (a b : ℕ) → a ≤ b → b < end →
      time energy (sum_of labels near far i b) ≤ time energy (sum_of labels near far i a)
  level_falls near i far_fits inside a b h g = omega (arith, times_fall far_fits a b h (omega arith))

  -- the far entries that fit beside entry i
  pub level-fitting : (near i : ℕ) {spends C j r : ℕ} → spends ≡ energy_at labels near i → FittingFrom labels far spends C j r → FittingSums (sum_of labels near far i) C j r
  level-fitting near i read fitting =
      record {
        in_range = fitting.in_range;
        over = λ k h g. omega (arith, read, fitting.over k h g);
        fits = λ some. omega (arith, read, fitting.fits some);
      }

-- ---- All levels

-- The sums of the levels that are done are noted
pub record RowNoted (labels : List ℕ) (near far levels C first : ℕ) (before : List ℕ) (done n f : ℕ) (after : List ℕ) : Type 0 where
  pub along : Along labels near far levels done n f
  pub so_far : Lowered (PairWithin (SumIn labels (Row labels near far done)) C) first before after

-- none at first
pub row_none : (labels : List ℕ) (near far levels C first : ℕ) {leasts : List ℕ} → length leasts ≡ span_seconds → RowNoted labels near far levels C first leasts 0 near far leasts
row_none labels near far levels C first long =
    record { along = along-none labels near far levels; so_far = lowered_none long (λ p h. omega (arith, h.has.lists.below)) }

-- the same sum among more lists
within_more : {labels : List ℕ} {P R : ℕ → ℕ → Type 0} {C : ℕ} {p : Weight} → ((n f : ℕ) → P n f → R n f) → PairWithin (SumIn labels P) C p → PairWithin (SumIn labels R) C p
within_more more h = record { has = sum_more more h.has; within = h.within }

within_parts : {labels : List ℕ} {R P Q : ℕ → ℕ → Type 0} {C : ℕ} → ListParts R P Q → SetParts (PairWithin (SumIn labels R) C) (PairWithin (SumIn labels P) C) (PairWithin (SumIn labels Q) C)
within_parts parts =
    record {
      cases =
          λ p h.
          ⊎_elim (λ z. inl (record { has = z; within = h.within })) (λ z. inr (record { has = z; within = h.within })) (sum_cases parts h.has);
      first_part = λ p h. within_more parts.first h;
      second_part = λ p h. within_more parts.second h;
    }

module _ {labels : List ℕ} {near far levels C first : ℕ} {before : List ℕ} {done n f : ℕ} {after : List ℕ} (now : RowNoted labels near far levels C first before done n f after)
    (turn : done < levels) where
  -- the lists of the next level are two of the row
  pub row_later : NoneBefore (PairWithin (SumIn labels (Row labels near far levels)) C) first → NoneBefore (PairWithin (SumIn labels (Only n f)) C) first
  row_later none =
      record {
        later =
            λ p h.
            none.later p
            (within_more
            (λ a b only. record { level = done; below = turn; near_is = only.near_is ∙ now.along.near_is; far_is = only.far_is ∙ now.along.far_is })
            h);
      }

  -- they are noted too
  pub row_more :
      {n' f' : ℕ} {lower : List ℕ} → RowFits labels near far levels → Lowered (PairWithin (SumIn labels (Only n f)) C) first after lower → n' ≡ list_end labels n → f' ≡ list_end labels f →
      RowNoted labels near far levels C first before (done + 1) n' f' lower
  row_more row here is-near is-far =
      record {
        along = along-more now.along row turn is-near is-far;
        so_far = lowered_then (within_parts (row_parts now.along.near_is now.along.far_is)) now.so_far here;
      }

-- all are noted
pub row_all :
    {labels : List ℕ} {near far levels C first : ℕ} {before : List ℕ} {done n f : ℕ} {after : List ℕ} → RowNoted labels near far levels C first before done n f after →
    levels ≤ done → Lowered (PairWithin (SumIn labels (Row labels near far levels)) C) first before after
row_all now h = rw (along_all now.along h) at now.so_far

-- ---- The best answer

-- no reason has the number of a pair
not_zero : (why : NoAnswer) → number_without why ≡ 0 → ⊥
not_zero case.OffMap e = omega arith
not_zero case.NotConnected e = omega arith
not_zero case.OverLimit e = omega arith

module _ {Has : Weight → Type 0} {C : ℕ} where
  -- what is found is the best of the set
  answer_found : {r : Result Pair NoAnswer} {best : Pair} → r ≡ Ok best → AnswerFrom Has C r → BestWithin Has C (pair best.time.0 best.energy.0)
  answer_found is (found e first) = let z = rw is at first in record { among = z.among; within = z.within; least = z.least }
  answer_found is (over_limit e out) = let z : ◌≡◌ {A = ℕ} 0 23 = sym (ap number_of is) ∙ ap number_of e in absurd (omega arith)
  answer_found is (not_connected e none) = let z : ◌≡◌ {A = ℕ} 0 22 = sym (ap number_of is) ∙ ap number_of e in absurd (omega arith)

  -- a refusal: nothing is within the limit
  answer_none : {r : Result Pair NoAnswer} → (number_of r ≡ 0 → ⊥) → AnswerFrom Has C r → (q : Weight) → Has q → Within energy C q → ⊥
  answer_none refused (found e first) q h w = refused e
  answer_none refused (over_limit e out) q h w = out.none_within q h w
  answer_none refused (not_connected e none) q h w = none q h

  -- so an answer has what is best within the limit, or says why nothing is
  pub answer_or_why : (r : Result Pair NoAnswer) → AnswerFrom Has C r → BestOrWhy Has (NoneFrom Has) C r
  answer_or_why (Ok best) answer = answer_found refl answer
  answer_or_why (Err why) answer = record { none = answer_none (not_zero why) answer; says = answer }

  -- and its pair, if it has one, is what is best within the limit
  pub answer_best : (r : Result Pair NoAnswer) → AnswerFrom Has C r → BestIs Has C (result_ok r)
  answer_best (Ok best) answer = answer_found refl answer
  answer_best (Err why) answer = answer_none (not_zero why) answer

-- ---- The best below a bound

-- what is found below a bound is what the set answers one below it, and the span waits for what is below that
pub next_answers :
    {Has : Weight → Type 0} {bound : ℕ} (next : Result Pair NoAnswer) {before after : Span} {leasts : List ℕ} →
    NextOrWhy Has (NoneFrom Has) bound next before after leasts → NextBelow Has bound next after leasts
next_answers (Ok p) below =
    record {
      answers =
          found refl
          (record {
            among = below.told.best.among;
            within = omega (arith, below.told.best.below);
            least = λ q h w. below.told.best.least q h (omega (arith, below.told.best.below));
          });
      waits = λ e. below.told.waits;
    }
next_answers (Err why) below = record { answers = below.told.says; waits = λ e. absurd (not_zero why e) }

same_values : {r r' : Result Pair NoAnswer} → r ≡ r' → SameAnswer (number_of r) (time_of r) (energy_of r) (number_of r') (time_of r') (energy_of r')
same_values e = record { number_is = ap number_of e; time_is = ap time_of e; energy_is = ap energy_of e }

-- a set has one answer
from_unique :
    {Has : Weight → Type 0} {C : ℕ} {r r' : Result Pair NoAnswer} → AnswerFrom Has C r → AnswerFrom Has C r' →
    SameAnswer (number_of r) (time_of r) (energy_of r) (number_of r') (time_of r') (energy_of r')
from_unique (found e best) (found e' best') =
    let one = not_later_antisym number_lawful (best.least _ best'.among best'.within) (best'.least _ best.among best.within) in
    record { number_is = e ∙ sym e'; time_is = ap (time energy) one; energy_is = ap (spent energy) one }
from_unique (found e best) (over_limit e' out) = absurd (out.none_within _ best.among best.within)
from_unique (found e best) (not_connected e' none) = absurd (none _ best.among)
from_unique (over_limit e out) (found e' best) = absurd (out.none_within _ best.among best.within)
from_unique (over_limit e out) (over_limit e' out') = same_values (e ∙ sym e')
from_unique (over_limit e out) (not_connected e' none) = absurd (none _ out.among)
from_unique (not_connected e none) (found e' best) = absurd (none _ best.among)
from_unique (not_connected e none) (over_limit e' out) = absurd (none _ out.among)
from_unique (not_connected e none) (not_connected e' none') = same_values (e ∙ sym e')

-- so there is one below a bound
pub next_unique :
    {Has : Weight → Type 0} {bound : ℕ} {next next' : Result Pair NoAnswer} {span span' : Span} {leasts leasts' : List ℕ} → NextBelow Has bound next span leasts →
    NextBelow Has bound next' span' leasts' → SameAnswer (number_of next) (time_of next) (energy_of next) (number_of next') (time_of next') (energy_of next')
next_unique below below' = from_unique below.answers below'.answers
