-- What a set of pairs answers under a limit, be it the entries of a list, the sums of two lists, or the sums at several junctions.
use Rattle.std.specs.Prelude.{◌≡◌, ℕ, Result, Err}
use mathlib.Core.List.{List, Memᴰ}
use Rattle.paths.specs.Weights.{energy, pair, Within, NotLater}
use Rattle.lists.specs.Entries.{Weight}
use Rattle.paths.specs.declared.pair.Pair.{Pair}
use Rattle.query.specs.declared.NoAnswer.{NoAnswer}
use Rattle.query.specs.declared.NoAnswer.TheVariants.{NotConnected, OverLimit}
use Rattle.query.specs.working.AnswerValues.{number_of, time_of, energy_of}

-- p is an entry of a list
pub record EntryOf (l : List Weight) (p : Weight) : Type 0 where
  pub member : Memᴰ p l

-- p is the best of the set within C
pub record BestFrom (Has : Weight → Type 0) (C : ℕ) (p : Weight) : Type 0 where
  pub among : Has p
  pub within : Within energy C p
  pub least : (q : Weight) → Has q → Within energy C q → NotLater energy p q

-- The set has a pair, and none within C
pub record OverFrom (Has : Weight → Type 0) (C : ℕ) : Type 0 where
  pub one : Weight
  pub among : Has one
  pub none_within : (q : Weight) → Has q → Within energy C q → ⊥

pub data AnswerFrom (Has : Weight → Type 0) (C : ℕ) (r : Result Pair NoAnswer) : Type 0 where
  found : number_of r ≡ 0 → BestFrom Has C (pair (time_of r) (energy_of r)) → AnswerFrom Has C r
  over_limit : r ≡ Err OverLimit → OverFrom Has C → AnswerFrom Has C r
  not_connected : r ≡ Err NotConnected → ((q : Weight) → Has q → ⊥) → AnswerFrom Has C r
