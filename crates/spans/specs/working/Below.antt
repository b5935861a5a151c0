-- The best sum within a limit, the best below a bound, and the list that all of these make up.
use Rattle.std.specs.Prelude.{◌≡◌, List, ℕ, ◌-◌, Option, Some, None, Result, Ok, Err, ◌≤◌, length}
use mathlib.Core.List.{Memᴰ}
use Rattle.paths.specs.Weights.{energy, pair, time, spent, Within, NotLater, Beats, Rising}
use Rattle.paths.specs.declared.pair.Pair.{Pair}
use Rattle.lists.specs.Entries.{Weight}
use Rattle.spans.specs.declared.Span.{Span}
use Rattle.spans.specs.working.Noting.{span_seconds}
use Rattle.spans.specs.working.Waiting.{most_time, Waiting, BestBelow}

-- ---- Within a limit

-- p is the best of the set within the limit
pub record BestWithin (Has : Weight → Type 0) (limit : ℕ) (p : Weight) : Type 0 where
  pub among : Has p
  pub within : Within energy limit p
  pub least : (q : Weight) → Has q → Within energy limit q → NotLater energy p q

-- What is found within the limit
abbrev pub BestIs : (Weight → Type 0) → ℕ → Option Pair → Type 0
BestIs Has limit (Some p) = BestWithin Has limit (pair p.time.0 p.energy.0)
BestIs Has limit None = (p : Weight) → Has p → Within energy limit p → ⊥

-- Nothing of the set is within the limit, and the reason says why
pub record NoneWithin {Missing : Type 0} (Has : Weight → Type 0) (Says : ℕ → Missing → Type 0) (limit : ℕ) (why : Missing) : Type 0 where
  pub none : (p : Weight) → Has p → Within energy limit p → ⊥
  pub says : Says limit why

-- What is found within the limit, or why nothing is
abbrev pub BestOrWhy : {Missing : Type 0} → (Weight → Type 0) → (ℕ → Missing → Type 0) → ℕ → Result Pair Missing → Type 0
BestOrWhy Has Says limit (Ok p) = BestWithin Has limit (pair p.time.0 p.energy.0)
BestOrWhy Has Says limit (Err why) = NoneWithin Has Says limit why

-- Each of its figures is less than the first bound
pub record FiguresFit (p : Weight) : Type 0 where
  pub time_fits : time energy p ≤ most_time
  pub energy_fits : spent energy p ≤ most_time

-- ---- Below a bound

-- p is the best of the set below the bound, and the span waits for what is below p
pub record FoundBelow (Has : Weight → Type 0) (bound : ℕ) (p : Weight) (span : Span) (leasts : List ℕ) : Type 0 where
  pub best : BestBelow Has bound p
  pub waits : Waiting Has (spent energy p) span leasts

-- What is found below the bound, and the span behind it
abbrev pub BelowIs : (Weight → Type 0) → ℕ → Span → List ℕ → Option Pair → Type 0
BelowIs Has bound span leasts (Some p) = FoundBelow Has bound (pair p.time.0 p.energy.0) span leasts
BelowIs Has bound span leasts None = (p : Weight) → Has p → bound ≤ spent energy p

pub record NextBelow (Has : Weight → Type 0) (bound : ℕ) (next : Option Pair) (span : Span) (leasts : List ℕ) : Type 0 where
  pub long : length leasts ≡ span_seconds
  pub told : BelowIs Has bound span leasts next

-- Nothing of the set is below the bound, the reason says why, and the span stays as it was
pub record NoneBelow {Missing : Type 0} (Has : Weight → Type 0) (Says : ℕ → Missing → Type 0) (bound : ℕ) (why : Missing) (before after : Span) : Type 0 where
  pub none : (p : Weight) → Has p → bound ≤ spent energy p
  pub says : Says (bound - 1) why
  pub kept : after ≡ before

-- What is found below the bound and the span behind it, or why nothing is
abbrev pub BelowOrWhy : {Missing : Type 0} → (Weight → Type 0) → (ℕ → Missing → Type 0) → ℕ → Span → Span → List ℕ → Result Pair Missing → Type 0
BelowOrWhy Has Says bound before after leasts (Ok p) = FoundBelow Has bound (pair p.time.0 p.energy.0) after leasts
BelowOrWhy Has Says bound before after leasts (Err why) = NoneBelow Has Says bound why before after

pub record NextOrWhy {Missing : Type 0} (Has : Weight → Type 0) (Says : ℕ → Missing → Type 0) (bound : ℕ) (next : Result Pair Missing) (before after : Span)
    (leasts : List ℕ) : Type 0 where
  pub long : length leasts ≡ span_seconds
  pub told : BelowOrWhy Has Says bound before after leasts next

-- ---- The list of a set

-- A pair of the set that none of it beats
pub record UnbeatenOf (Has : Weight → Type 0) (p : Weight) : Type 0 where
  pub among : Has p
  pub unbeaten : (q : Weight) → Has q → Beats energy q p → ⊥

-- The unbeaten pairs of a set, each once, in order
pub record ListOf (Has : Weight → Type 0) (l : List Weight) : Type 0 where
  pub rising : Rising energy l
  pub real : {p : Weight} → Memᴰ p l → UnbeatenOf Has p
  pub complete : {p : Weight} → UnbeatenOf Has p → Memᴰ p l
