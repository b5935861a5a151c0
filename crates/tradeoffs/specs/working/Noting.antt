-- The sums where two branches meet: what they answer below a bound, and how large their figures are.
use Rattle.std.specs.Prelude.{◌≡◌, List, ℕ, ◌-◌, ◌≤◌, Result, Err}
use native.Mathlib.Omega.{arith}
use mathlib.Core.Path.{ap}
use Rattle.paths.specs.Weights.{energy, time, spent}
use Rattle.paths.specs.declared.pair.Pair.{Pair}
use Rattle.lists.specs.Entries.{Weight}
use Rattle.spans.specs.declared.Span.{Span}
use Rattle.spans.specs.working.Waiting.{Waiting}
use Rattle.spans.specs.working.Below.{FiguresFit}
use Rattle.stored.specs.working.Formed.{ListFits}
use Rattle.query.specs.declared.NoAnswer.{NoAnswer}
use Rattle.query.specs.working.AnswerValues.{number_of, energy_of}
use Rattle.query.specs.working.AnswerFrom.{AnswerFrom}
use Rattle.query.specs.working.Sums.{SumIn, Row, RowFits}

-- ---- Below a bound

-- Why a set has no pair within a limit: it has none at all, or all are above it
abbrev pub NoneFrom : (Weight → Type 0) → ℕ → NoAnswer → Type 0
NoneFrom Has limit why = AnswerFrom Has limit (Err why)

-- The best answer below the bound, and the span behind it
pub record NextBelow (Has : Weight → Type 0) (bound : ℕ) (next : Result Pair NoAnswer) (span : Span) (leasts : List ℕ) : Type 0 where
  pub answers : AnswerFrom Has (bound - 1) next
  pub waits : number_of next ≡ 0 → Waiting Has (energy_of next) span leasts

-- ---- Figures

-- Two figures of stored entries add up to no more than this
pub row_small :
    {labels : List ℕ} {near far levels : ℕ} {p : Weight} → RowFits labels near far levels → SumIn labels (Row labels near far levels) p →
    (time energy p ≤ 134084610) × (spent energy p ≤ 134084610)
row_small {labels} row h = (
  omega (arith, ap (time energy) h.sum.adds, (near_fits.fitting_time h.i h.sum.in_near).1, (far_fits.fitting_time h.j h.sum.in_far).1),
  omega (arith, ap (spent energy) h.sum.adds, (near_fits.fitting_energy h.i h.sum.in_near).1, (far_fits.fitting_energy h.j h.sum.in_far).1),
)
  where
    near_fits : ListFits labels h.near
    near_fits = rw h.lists.near_is (row.near_fits h.lists.level h.lists.below)

    far_fits : ListFits labels h.far
    far_fits = rw h.lists.far_is (row.far_fits h.lists.level h.lists.below)

-- so both are less than the first bound
pub row_figures : (labels : List ℕ) (near far levels : ℕ) (p : Weight) → RowFits labels near far levels → SumIn labels (Row labels near far levels) p → FiguresFit p
row_figures labels near far levels p row h =
    let small = row_small row h in
    record { time_fits = omega (arith, small.0); energy_fits = omega (arith, small.1) }
