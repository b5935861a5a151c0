-- What a further read that does not fail tells is told by the bytes that were left: no second answer meets its statement.
use Rattle.std.proofs.Common.{◌≡◌, ℕ, zero, suc, ◌+◌, List, [], ◌++◌, length, length-append, Some, None, refl, sym, ap, ◌∙◌, arith}
use Rattle.std.specs.declared.option.Option.{Option}
use Rattle.reading.specs.Reading.{ReadFurther}

-- where no byte is left none is taken
none_taken : (front rest : List ℕ) → [] ≡ front ++ rest → length front ≡ 0
none_taken front rest e = let sizes : 0 ≡ length front + length rest = ap length e ∙ length-append front rest in omega arith

pub further_unique : (left : List ℕ) (behind : Option (List ℕ)) (count : ℕ) → ReadFurther (Some left) behind (Some count) → (count ≡ 0 → left ≡ []) × (left ≡ [] → count ≡ 0)
further_unique left behind zero end = (λ _. end, λ _. refl)
further_unique left None (suc more) (front, taken, long) = absurd taken
further_unique left (Some rest) (suc more) (front, taken, long) =
    (λ z. absurd (omega arith), λ none. let gone = none_taken front rest (sym none ∙ taken) in omega arith)
