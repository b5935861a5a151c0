-- The number and the values that an answer stands for: the best pair, or why there is none.
use Rattle.std.specs.Prelude.{ℕ, Result, Ok, Err}
use Rattle.paths.specs.declared.pair.Pair.{Pair}
use Rattle.query.specs.declared.NoAnswer.{NoAnswer}
use Rattle.query.specs.NoAnswers.{number_without}

-- The number, the time and the energy of an answer, zeros beside a refusal (SCOPE 4.1)
abbrev pub number_of : Result Pair NoAnswer → ℕ
number_of (Ok best) = 0
number_of (Err why) = number_without why

abbrev pub time_of : Result Pair NoAnswer → ℕ
time_of (Ok best) = best.time.0
time_of (Err why) = 0

abbrev pub energy_of : Result Pair NoAnswer → ℕ
energy_of (Ok best) = best.energy.0
energy_of (Err why) = 0
