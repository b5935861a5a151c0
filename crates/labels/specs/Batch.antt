-- Batch (SCOPE 5.2).
use Rattle.std.specs.Prelude.{◌≡◌, ◌&&◌, List, ℕ, ◌*◌, ◌%◌, ◌<◌, leb, eqb, length}
use Rattle.refusals.specs.Order.{unless}
use Rattle.accepted.specs.Check.{Checked}
use Rattle.accepted.specs.Batch.{TripleAnswered}

-- 31 and 32: the shape of the batch, asked before the check (SCOPE 4.3)
unfoldable pub shape_number : List ℕ → List ℕ → ℕ
shape_number queries answers =
    unless (eqb (length queries % 3) 0 && leb (length queries) 3072) 31
    (unless (eqb (length answers) (length queries)) 32
    0)

module _ (net labels queries before : List ℕ) (number : ℕ) (after : List ℕ) where
  -- The number and the answer places (SCOPE 5.2, 4.1)
  pub data BatchDone : Type 0 where
    misshapen : (shape_number queries before ≡ 0 → ⊥) → number ≡ shape_number queries before → after ≡ before → BatchDone
    not_accepted : shape_number queries before ≡ 0 → Checked net labels number → (number ≡ 0 → ⊥) → after ≡ before → BatchDone
    answered :
        shape_number queries before ≡ 0 →
        Checked net labels 0 →
        number ≡ 0 →
        length after ≡ length before →
        ((i : ℕ) → 3 * i < length queries → TripleAnswered net queries after i) →
        BatchDone
