-- A span of noted seconds that waits for the pairs below a bound, and the best of them.
use Rattle.std.specs.Prelude.{◌≡◌, ◌⊎◌, List, ℕ, ◌+◌, ◌-◌, ◌≤◌, ◌<◌, length, get_or}
use Rattle.paths.specs.Weights.{energy, pair, time, spent, NotLater}
use Rattle.lists.specs.Entries.{Weight}
use Rattle.lists.specs.working.Lists.{above_all}
use Rattle.spans.specs.working.Noting.{span_seconds, no_energy}
use Rattle.spans.specs.declared.Span.{Span}

-- No sum takes longer, so that the seconds of a span fit into 32 bits
abbrev pub most_time : ℕ
most_time = above_all - 1

-- Every pair of the set below the bound takes as long as a second that is not passed, or longer; those in the span are noted
pub record Waiting (Has : Weight → Type 0) (bound : ℕ) (span : Span) (leasts : List ℕ) : Type 0 where
  pub long : length leasts ≡ span_seconds
  pub short : span.noted ≤ span_seconds
  pub small : span.first.0 ≤ most_time
  pub real :
      (k : ℕ) → span.passed ≤ k → k < span.noted → (get_or leasts k 0 ≡ no_energy) ⊎ Has (pair (span.first.0 + k) (get_or leasts k 0))
  pub least : (k e : ℕ) → span.passed ≤ k → k < span.noted → Has (pair (span.first.0 + k) e) → e < bound → get_or leasts k 0 ≤ e
  pub none_before : (p : Weight) → Has p → spent energy p < bound → span.first.0 + span.passed ≤ time energy p

-- A span in which nothing is noted
pub record NoSpan (span : Span) : Type 0 where
  pub from_none : span.first.0 ≡ 0
  pub none_noted : span.noted ≡ 0
  pub none_passed : span.passed ≡ 0

-- p is the best of the set below the bound
pub record BestBelow (Has : Weight → Type 0) (bound : ℕ) (p : Weight) : Type 0 where
  pub among : Has p
  pub below : spent energy p < bound
  pub least : (q : Weight) → Has q → spent energy q < bound → NotLater energy p q
