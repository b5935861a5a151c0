-- The number of a query that has no answer (SCOPE 4.2).
use Rattle.std.specs.Prelude.{ℕ}
use Rattle.query.specs.declared.NoAnswer.{NoAnswer}
use Rattle.query.specs.declared.NoAnswer.TheVariants.{OffMap, NotConnected, OverLimit}

abbrev pub number_without : NoAnswer → ℕ
number_without OffMap = 21
number_without NotConnected = 22
number_without OverLimit = 23
