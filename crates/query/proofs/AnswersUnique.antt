-- A query has one answer: two that meet the definition are equal in number, time and energy, and so are two values of the code.
use mathlib.Core.Path.{◌≡◌, refl, sym, ap, ◌∙◌}
use mathlib.Core.Logic.{◌⊎◌, ⊎_elim}
use mathlib.Core.List.{List}
use Rattle.std.specs.Prelude.{Result, Ok, Err}
use Prim.Native.Nat.{ℕ, ◌≤◌, ◌<◌}
use native.Mathlib.Omega.{arith}
use Rattle.paths.specs.Weights.{energy, time, spent}
use Rattle.paths.proofs.Figures.{number_lawful}
use Rattle.paths.proofs.Answers.{best_not_over, best_not_apart, over_not_apart}
use Rattle.paths.proofs.Unique.{best_unique}
use Rattle.paths.specs.declared.seconds.Seconds.{Seconds}
use Rattle.paths.specs.declared.energy.Energy.{Energy}
use Rattle.network.specs.NetworkFile.{junctions_of}
use Rattle.paths.specs.declared.pair.Pair.{Pair}
use Rattle.query.specs.declared.NoAnswer.{NoAnswer}
use Rattle.query.specs.declared.NoAnswer.TheVariants as case
use Rattle.query.specs.NoAnswers.{number_without}
use Rattle.query.specs.working.AnswerValues.{number_of, time_of, energy_of}
use Rattle.query.specs.Answers.{Answers, off_map, not_connected, over_limit, found}

-- the same number, time and energy
pub record SameAnswer (number time energy number' time' energy' : ℕ) : Type 0 where
  pub number_is : number ≡ number'
  pub time_is : time ≡ time'
  pub energy_is : energy ≡ energy'

module _ (net : List ℕ) (s t C : ℕ) where
  -- both ends are on the map, or an end is not
  clash : (junctions_of net ≤ s) ⊎ (junctions_of net ≤ t) → s < junctions_of net → t < junctions_of net → ⊥
  clash off h k = ⊎_elim (λ z. omega arith) (λ z. omega arith) off

  same-refusal :
      (refusal : ℕ) {number time energy number' time' energy' : ℕ} → number ≡ refusal → time ≡ 0 → energy ≡ 0 → number' ≡ refusal → time' ≡ 0 → energy' ≡ 0 →
      SameAnswer number time energy number' time' energy'
  same-refusal refusal e f g e' f' g' = record { number_is = e ∙ sym e'; time_is = f ∙ sym f'; energy_is = g ∙ sym g' }

  pub answers_unique :
      {number time energy number' time' energy' : ℕ} →
      Answers net s t C number time energy →
      Answers net s t C number' time' energy' →
      SameAnswer number time energy number' time' energy'
  answers_unique (off_map off e f g) (off_map off' e' f' g') = same-refusal 21 e f g e' f' g'
  answers_unique (off_map off e f g) (not_connected h k none e' f' g') = absurd (clash off h k)
  answers_unique (off_map off e f g) (over_limit h k out e' f' g') = absurd (clash off h k)
  answers_unique (off_map off e f g) (found h k best e') = absurd (clash off h k)
  answers_unique (not_connected h k none e f g) (off_map off e' f' g') = absurd (clash off h k)
  answers_unique (not_connected h k none e f g) (not_connected h' k' none' e' f' g') = same-refusal 22 e f g e' f' g'
  answers_unique (not_connected h k none e f g) (over_limit h' k' out e' f' g') = absurd (over_not_apart number_lawful out none)
  answers_unique (not_connected h k none e f g) (found h' k' best e') = absurd (best_not_apart number_lawful best none)
  answers_unique (over_limit h k out e f g) (off_map off e' f' g') = absurd (clash off h k)
  answers_unique (over_limit h k out e f g) (not_connected h' k' none e' f' g') = absurd (over_not_apart number_lawful out none)
  answers_unique (over_limit h k out e f g) (over_limit h' k' out' e' f' g') = same-refusal 23 e f g e' f' g'
  answers_unique (over_limit h k out e f g) (found h' k' best e') = absurd (best_not_over number_lawful best out)
  answers_unique (found h k best e) (off_map off e' f' g') = absurd (clash off h k)
  answers_unique (found h k best e) (not_connected h' k' none e' f' g') = absurd (best_not_apart number_lawful best none)
  answers_unique (found h k best e) (over_limit h' k' out e' f' g') = absurd (best_not_over number_lawful best out)
  answers_unique (found h k best e) (found h' k' best' e') =
      let one = best_unique number_lawful best best' in
      record { number_is = e ∙ sym e'; time_is = ap (time energy) one; energy_is = ap (spent energy) one }

-- ---- The values

-- a time and an energy are one number each
one_time : {a b : Seconds} → a.0 ≡ b.0 → a ≡ b
one_time e = λ i. record { 0 = e i }

one_energy : {a b : Energy} → a.0 ≡ b.0 → a ≡ b
one_energy e = λ i. record { 0 = e i }

one_pair : {p p' : Pair} → p.time ≡ p'.time → p.energy ≡ p'.energy → p ≡ p'
one_pair e f = λ i. record { time = e i; energy = f i }

-- each number has one reason
one_number : (why why' : NoAnswer) → number_without why ≡ number_without why' → why ≡ why'
one_number case.OffMap case.OffMap e = refl
one_number case.OffMap case.NotConnected e = absurd (omega arith)
one_number case.OffMap case.OverLimit e = absurd (omega arith)
one_number case.NotConnected case.OffMap e = absurd (omega arith)
one_number case.NotConnected case.NotConnected e = refl
one_number case.NotConnected case.OverLimit e = absurd (omega arith)
one_number case.OverLimit case.OffMap e = absurd (omega arith)
one_number case.OverLimit case.NotConnected e = absurd (omega arith)
one_number case.OverLimit case.OverLimit e = refl

-- so the number, the time and the energy are the whole of an answer
values-whole : (r r' : Result Pair NoAnswer) → SameAnswer (number_of r) (time_of r) (energy_of r) (number_of r') (time_of r') (energy_of r') → r ≡ r'
values-whole (Ok p) (Ok p') same = ap Ok (one_pair (one_time same.time_is) (one_energy same.energy_is))
values-whole (Ok p) (Err case.OffMap) same = absurd (omega (arith, same.number_is))
values-whole (Ok p) (Err case.NotConnected) same = absurd (omega (arith, same.number_is))
values-whole (Ok p) (Err case.OverLimit) same = absurd (omega (arith, same.number_is))
values-whole (Err case.OffMap) (Ok p') same = absurd (omega (arith, same.number_is))
values-whole (Err case.NotConnected) (Ok p') same = absurd (omega (arith, same.number_is))
values-whole (Err case.OverLimit) (Ok p') same = absurd (omega (arith, same.number_is))
values-whole (Err why) (Err why') same = ap Err (one_number why why' same.number_is)

-- two values that meet the definition are one
pub answer_unique :
    (net : List ℕ) (s t C : ℕ) (r r' : Result Pair NoAnswer) →
    Answers net s t C (number_of r) (time_of r) (energy_of r) →
    Answers net s t C (number_of r') (time_of r') (energy_of r') →
    r ≡ r'
answer_unique net s t C r r' one two = values-whole r r' (answers_unique net s t C one two)
