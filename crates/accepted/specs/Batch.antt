-- Batch on an accepted set (SCOPE 5.2).
use Rattle.std.specs.Prelude.{List, ℕ, ◌+◌, ◌*◌, get_or}
use Rattle.query.specs.Answers.{Answers}

-- Triple i of the batch has its triple of answers (SCOPE 5.2)
abbrev pub TripleAnswered : List ℕ → List ℕ → List ℕ → ℕ → Type 0
TripleAnswered net queries answers i =
    Answers net (get_or queries (3 * i) 0) (get_or queries (3 * i + 1) 0) (get_or queries (3 * i + 2) 0)
    (get_or answers (3 * i) 0) (get_or answers (3 * i + 1) 0) (get_or answers (3 * i + 2) 0)
