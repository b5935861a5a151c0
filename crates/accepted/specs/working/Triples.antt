-- What a batch holds before, while and after its triples are answered.
use Rattle.std.specs.Prelude.{◌≡◌, List, ℕ, ◌+◌, ◌*◌, ◌<◌, length, set}
use Rattle.accepted.specs.Batch.{TripleAnswered}

-- A batch of whole triples and as many places for its answers
pub record Triples (queries answers : List ℕ) (count : ℕ) : Type 0 where
  pub whole : length queries ≡ 3 * count
  pub places : length answers ≡ length queries

-- Three numbers written from a place on
abbrev pub put_triple : List ℕ → ℕ → ℕ → ℕ → ℕ → List ℕ
put_triple places at number time energy = set (set (set places at number) (at + 1) time) (at + 2) energy

-- The first i triples of a batch have their answers
pub record AnsweredTo (net queries before now : List ℕ) (i : ℕ) : Type 0 where
  pub one_length : length now ≡ length before
  pub answered : (k : ℕ) → k < i → TripleAnswered net queries now k
