-- Batch has one outcome: its number, and every answer place.
use mathlib.Core.Path.{◌≡◌, sym, ◌∙◌}
use mathlib.Core.Bool.{◌&&◌}
use mathlib.Core.List.{List}
use Prim.Native.Nat.{ℕ, ◌+◌, ◌*◌, ◌/◌, ◌%◌, ◌<◌}
use native.Mathlib.Decide.{ℕ_discrete}
use native.Mathlib.Omega.{arith}
use lib.ListN.{length, get_or}
use lib.Seq.{ext_get_or}
use lib.Dec.{leb, eqb}
use borrow.Author.Tests.{eqb-true}
use Rattle.refusals.proofs.Order.{unless-passed, and_both}
use Rattle.query.proofs.AnswersUnique.{SameAnswer, answers_unique}
use Rattle.labels.specs.Batch.{shape_number, BatchDone, misshapen, not_accepted, answered}
use Rattle.accepted.specs.Batch.{TripleAnswered}
use Rattle.accepted.proofs.CheckUnique.{check_unique}

pub record SameBatch (number : ℕ) (after : List ℕ) (number' : ℕ) (after' : List ℕ) : Type 0 where
  pub same_number : number ≡ number'
  pub same-answers : after ≡ after'

-- what a batch that passed its shape is
record Shape (queries answers : List ℕ) : Type 0 where
  whole : length queries % 3 ≡ 0
  places : length answers ≡ length queries

shape_of : (queries answers : List ℕ) → shape_number queries answers ≡ 0 → Shape queries answers
unfolding shape_number
shape_of queries answers e =
    let one = unless-passed {test = eqb (length queries % 3) 0 && leb (length queries) 3072} {number = 31} (λ (z : ◌≡◌ {A = ℕ} 31 0). omega arith) e in
    let two = unless-passed {test = eqb (length answers) (length queries)} {number = 32} (λ (z : ◌≡◌ {A = ℕ} 32 0). omega arith) one.1 in
    record {
      whole = eqb-true (length queries % 3) 0 (and_both (eqb (length queries % 3) 0) (leb (length queries) 3072) one.0).0;
      places = eqb-true (length answers) (length queries) two.0;
    }

-- two ways to answer the same triples write the same places
module _ (net queries : List ℕ) {a b : List ℕ} where
  answers-same :
      length a ≡ length queries → length b ≡ length queries → length queries % 3 ≡ 0 →
      ((i : ℕ) → 3 * i < length queries → TripleAnswered net queries a i) →
      ((i : ℕ) → 3 * i < length queries → TripleAnswered net queries b i) →
      a ≡ b
  answers-same p q whole f g = ext_get_or 0 a b (p ∙ sym q) same
    where
      moved : {k : ℕ} (m : ℕ) → k ≡ m → get_or a m 0 ≡ get_or b m 0 → get_or a k 0 ≡ get_or b k 0
      moved m e h = rw e h

      same : (k : ℕ) → k < length a → get_or a k 0 ≡ get_or b k 0
      same k h = pick (ℕ_discrete (k % 3) 0) (ℕ_discrete (k % 3) 1)
        where
          below : 3 * (k / 3) < length queries
          below = omega arith

          z : SameAnswer (get_or a (3 * (k / 3)) 0) (get_or a (3 * (k / 3) + 1) 0) (get_or a (3 * (k / 3) + 2) 0) (get_or b (3 * (k / 3)) 0) (get_or b (3 * (k / 3) + 1) 0) (get_or b (3 * (k / 3) + 2) 0)
          z = answers_unique net (get_or queries (3 * (k / 3)) 0) (get_or queries (3 * (k / 3) + 1) 0) (get_or queries (3 * (k / 3) + 2) 0) (f (k / 3) below) (g (k / 3) below)

          pick : Dec (k % 3 ≡ 0) → Dec (k % 3 ≡ 1) → get_or a k 0 ≡ get_or b k 0
          pick (yes e) d = moved (3 * (k / 3)) (omega arith) z.number_is
          pick (no n) (yes e) = moved (3 * (k / 3) + 1) (omega arith) z.time_is
          pick (no n) (no m) = moved (3 * (k / 3) + 2) (omega arith) z.energy_is

-- No second outcome meets Batch's statement
pub batch_unique :
    {net labels queries before after after' : List ℕ} {number number' : ℕ} →
    BatchDone net labels queries before number after → BatchDone net labels queries before number' after' → SameBatch number after number' after'
batch_unique (misshapen n e f) (misshapen m e' f') = record { same_number = e ∙ sym e'; same-answers = f ∙ sym f' }
batch_unique (misshapen n e f) (not_accepted z c k f') = absurd (n z)
batch_unique (misshapen n e f) (answered z c e' l g) = absurd (n z)
batch_unique (not_accepted z c k f) (misshapen n e f') = absurd (n z)
batch_unique (not_accepted z c k f) (not_accepted y d j f') = record { same_number = check_unique c d; same-answers = f ∙ sym f' }
batch_unique (not_accepted z c k f) (answered y d e l g) = absurd (k (check_unique c d))
batch_unique (answered z c e l g) (misshapen n e' f) = absurd (n z)
batch_unique (answered z c e l g) (not_accepted y d k f) = absurd (k (check_unique d c))
batch_unique {net} {queries = queries} {before = before} (answered z c e l g) (answered y d e' l' g') =
    let shape = shape_of queries before z in
    record { same_number = e ∙ sym e'; same-answers = answers-same net queries (l ∙ shape.places) (l' ∙ shape.places) shape.whole g g' }
