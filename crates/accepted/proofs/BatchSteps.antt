-- The ways through a batch: nothing answered yet, one triple more, all answered.
use mathlib.Core.Path.{◌≡◌, refl, ap, ◌∙◌}
use mathlib.Core.List.{List}
use Prim.Native.Nat.{ℕ, ◌+◌, ◌*◌, ◌≤◌, ◌<◌}
use native.Mathlib.Decide.{ℕ_discrete}
use native.Mathlib.Omega.{arith}
use lib.ListN.{length, get_or, set, length-set}
use lib.Seq.{get_or-set_same, get_or-set_other}
use Rattle.query.specs.declared.NoAnswer.{NoAnswer}
use Rattle.query.specs.declared.NoAnswer.TheVariants as case
use Rattle.query.specs.Answers.{Answers}
use Rattle.query.specs.NoAnswers.{number_without}
use Rattle.accepted.specs.Batch.{TripleAnswered}
use Rattle.accepted.specs.working.Triples.{put_triple, AnsweredTo, Triples}

-- an answer other than a pair has a number of its own
pub number_some : (why : NoAnswer) → number_without why ≡ 0 → ⊥
number_some case.OffMap e = omega arith
number_some case.NotConnected e = omega arith
number_some case.OverLimit e = omega arith

-- what stands in the three places, and elsewhere
module _ (places : List ℕ) (at a b c : ℕ) (room : at + 2 < length places) where
  put_first : get_or (put_triple places at a b c) at 0 ≡ a
  put_first =
      get_or-set_other (set (set places at a) (at + 1) b) (at + 2) at c 0 (omega arith)
      ∙ get_or-set_other (set places at a) (at + 1) at b 0 (omega arith)
      ∙ get_or-set_same places at a 0 (omega arith)

  put_second : get_or (put_triple places at a b c) (at + 1) 0 ≡ b
  put_second =
      get_or-set_other (set (set places at a) (at + 1) b) (at + 2) (at + 1) c 0 (omega arith)
      ∙ get_or-set_same (set places at a) (at + 1) b 0 (simp length-set (omega arith))

  put_third : get_or (put_triple places at a b c) (at + 2) 0 ≡ c
  put_third = get_or-set_same (set (set places at a) (at + 1) b) (at + 2) c 0 (simp length-set (omega arith))

  put_other : (k : ℕ) → (k ≡ at → ⊥) → (k ≡ at + 1 → ⊥) → (k ≡ at + 2 → ⊥) → get_or (put_triple places at a b c) k 0 ≡ get_or places k 0
  put_other k x y z =
      get_or-set_other (set (set places at a) (at + 1) b) (at + 2) k c 0 z
      ∙ get_or-set_other (set places at a) (at + 1) k b 0 y
      ∙ get_or-set_other places at k a 0 x

answers_cast :
    {net : List ℕ} {s t limit number time energy number' time' energy' : ℕ} →
    number' ≡ number → time' ≡ time → energy' ≡ energy → Answers net s t limit number time energy → Answers net s t limit number' time' energy'
answers_cast e f g h = rw (e, f, g) h

module _ {net queries before : List ℕ} where
  pub none-answered : AnsweredTo net queries before before 0
  none-answered = record { one_length = refl; answered = λ k h. absurd (omega arith) }

  -- one triple more: the triple asked, and its answer written at its place
  pub one_answered :
      {now after : List ℕ} {count i at a b c : ℕ} →
      Triples queries before count → i < count → at ≡ 3 * i → AnsweredTo net queries before now i →
      Answers net (get_or queries at 0) (get_or queries (at + 1) 0) (get_or queries (at + 2) 0) a b c →
      after ≡ put_triple now at a b c → AnsweredTo net queries before after (i + 1)
  one_answered {now} {after} {count} {i} {at} {a} {b} {c} triples below is so_far answer put =
      record { one_length = ap length put ∙ simp length-set so_far.one_length; answered = answered }
    where
      room : at + 2 < length now
      room = omega (arith, so_far.one_length, triples.whole, triples.places)

      same : (k : ℕ) → k ≡ i → TripleAnswered net queries after k
      same k e =
          let f : 3 * k ≡ at = omega arith in
          rw (f, put) (answers_cast (put_first now at a b c room) (put_second now at a b c room) (put_third now at a b c room) answer)

      earlier : (k : ℕ) → k < i → TripleAnswered net queries after k
      earlier k h =
          rw put
          (answers_cast
          (put_other now at a b c room (3 * k) (omega arith) (omega arith) (omega arith))
          (put_other now at a b c room (3 * k + 1) (omega arith) (omega arith) (omega arith))
          (put_other now at a b c room (3 * k + 2) (omega arith) (omega arith) (omega arith))
          (so_far.answered k h))

      answered : (k : ℕ) → k < i + 1 → TripleAnswered net queries after k
      answered k h = pick (ℕ_discrete k i)
        where
          pick : Dec (k ≡ i) → TripleAnswered net queries after k
          pick (yes e) = same k e
          pick (no n) = earlier k (omega arith)

  -- every triple is answered
  pub all_answered : {now : List ℕ} {count i : ℕ} → AnsweredTo net queries before now i → count ≤ i → AnsweredTo net queries before now count
  all_answered so_far done = record { one_length = so_far.one_length; answered = λ k h. so_far.answered k (omega arith) }
