-- A number is its digits' whole run. In this order: one run, one number; bytes and their places; the ways to read one.
use mathlib.Core.Path.{◌≡◌, refl, sym, ap, ◌∙◌, subst}
use mathlib.Core.Logic.{◌⊎◌, inl, inr}
use mathlib.Core.List.Memᴰ
use mathlib.Core.List.{List, [], ◌∷◌, Memᴰ}
use Prim.Native.Nat.{ℕ, zero, suc, ◌+◌, ◌-◌, ◌≤◌, ◌<◌}
use native.Mathlib.Omega.{arith}
use lib.ListN.{length, get_or}
use Rattle.text.specs.Numbers.{zero_byte, IsDigit, IsNumeral}
use Rattle.text.specs.Lines.{line_of}
use Rattle.text.specs.working.Reading.{most_number, DigitRun, DigitsRead, NumberAt, NumberRead, read, bad}
use Rattle.std.proofs.lemmas.Option.{none-some}
use Rattle.std.specs.declared.option.Option.TheVariants.{Some, None}
use Rattle.text.proofs.LineParts.{line-length, line_at}

pub numeral_unique : {bytes : List ℕ} {a b : ℕ} → IsNumeral bytes a → IsNumeral bytes b → a ≡ b
numeral_unique p q = sym p.value ∙ q.value

pub record SameNumber (a next a' next' : ℕ) : Type 0 where
  pub one_number : a ≡ a'
  pub one_end : next ≡ next'

module _ {input : List ℕ} {start end : ℕ} where
  not_shorter : {a b : ℕ} → DigitRun input start end a → DigitRun input start end b → a < b → ⊥
  not_shorter {a} p q h = p.stops (omega arith) (q.digits a p.forward h)

  pub run_unique : {a b : ℕ} → DigitRun input start end a → DigitRun input start end b → a ≡ b
  run_unique p q = omega (arith, not_shorter p q, not_shorter q p)

  -- the numeral of the same digits, where they are known to end
  numeral-moved : {a next next' : ℕ} → DigitRun input start end next' → NumberAt input start end a next → IsNumeral (line_of input start next') a
  numeral-moved {a} run n = subst (λ (k : ℕ). IsNumeral (line_of input start k) a) (run_unique n.run run) n.numeral

  pub number_unique : {a b next next' : ℕ} → NumberAt input start end a next → NumberAt input start end b next' → SameNumber a next b next'
  number_unique p q =
      record { one_number = numeral_unique (numeral-moved q.run p) q.numeral; one_end = run_unique p.run q.run }

-- every byte is a digit: by its place, or as a member
member_at : (bytes : List ℕ) (i : ℕ) → i < length bytes → Memᴰ (get_or bytes i 0) bytes
member_at [] i h = absurd (omega arith)
member_at (byte ∷ bytes) zero h = Memᴰ.head refl
member_at (byte ∷ bytes) (suc i) h = Memᴰ.tail (member_at bytes i (omega arith))

digit_members : (bytes : List ℕ) → ((i : ℕ) → i < length bytes → IsDigit (get_or bytes i 0)) → (byte : ℕ) → Memᴰ byte bytes → IsDigit byte
digit_members [] f byte m = absurd (Memᴰ.not-nil m)
digit_members (first ∷ bytes) f byte m =
    pick (digit_members bytes (λ i h. f (suc i) (omega arith)) byte) (Memᴰ.cases_cons m)
  where
    pick : (Memᴰ byte bytes → IsDigit byte) → (byte ≡ first) ⊎ Memᴰ byte bytes → IsDigit byte
    pick below (inl e) = rw e (f 0 (omega arith))
    pick below (inr k) = below k

module _ {input : List ℕ} {start end : ℕ} where
  -- a numeral that is not followed by a digit is the number at its first byte
  pub numeral_at :
      {next a : ℕ} {bytes : List ℕ} →
      start ≤ next → next ≤ end → end ≤ length input → line_of input start next ≡ bytes → IsNumeral bytes a →
      (next < end → IsDigit (get_or input next 0) → ⊥) → NumberAt input start end a next
  numeral_at {next} {a} {bytes} forward inside fits e is stops =
      record { run = record { forward = forward; inside = inside; digits = digits; stops = stops }; numeral = rw e is }
    where
      long : length bytes ≡ next - start
      long = sym (ap length e) ∙ line-length input start next forward (omega arith)

      digits : (i : ℕ) → start ≤ i → i < next → IsDigit (get_or input i 0)
      digits i h k =
          subst IsDigit (ap (λ (l : List ℕ). get_or l (i - start) 0) (sym e) ∙ line_at input start next forward i h k)
          (is.digits (get_or bytes (i - start) 0) (member_at bytes (i - start) (omega (arith, long))))

  module _ {value next : ℕ} (fits : end ≤ length input) (told : DigitsRead input start end value next) where
    long : length (line_of input start next) ≡ next - start
    long = line-length input start next told.run.forward (omega (arith, told.run.inside))

    first : start < next → get_or (line_of input start next) 0 0 ≡ get_or input start 0
    first h = let none : start - start ≡ 0 = omega arith in rw none at (line_at input start next told.run.forward start (omega arith) h)

    -- no digit
    pub no_digits : next ≡ start → NumberRead input start end None
    no_digits e = bad (λ a k n. let numeral = numeral-moved told.run n in omega (arith, long, numeral.some_digit)) refl

    -- a zero before other digits
    pub leading_zero : start + 1 < next → get_or input start 0 ≡ zero_byte → NumberRead input start end None
    leading_zero h e =
        bad (λ a k n. (numeral-moved told.run n).no_leading_zero (omega (arith, long)) (first (omega arith) ∙ e)) refl

    -- a number that is too large
    pub too_large : most_number < value → NumberRead input start end None
    too_large h =
        bad (λ a k n. let numeral = numeral-moved told.run n in omega (arith, numeral.value, numeral.fits, told.spelled.large h)) refl

    -- a number
    pub number_stands :
        (next ≡ start → ⊥) → (start + 1 < next → get_or input start 0 ≡ zero_byte → ⊥) → value ≤ most_number →
        NumberRead input start end (Some (value, next))
    number_stands some no_zero h = read value next (record { run = told.run; numeral = numeral }) refl
      where
        digit : (i : ℕ) → i < length (line_of input start next) → IsDigit (get_or (line_of input start next) i 0)
        digit i k =
            let back : start + i - start ≡ i = omega arith in
            subst IsDigit (sym (rw back at (line_at input start next told.run.forward (start + i) (omega arith) (omega (arith, long)))))
            (told.run.digits (start + i) (omega arith) (omega (arith, long)))

        numeral : IsNumeral (line_of input start next) value
        numeral =
            record {
              some_digit = omega (arith, long, told.run.forward);
              digits = digit_members (line_of input start next) digit;
              no_leading_zero = λ two e. no_zero (omega (arith, long)) (sym (first (omega (arith, long))) ∙ e);
              value = told.spelled.exact h;
              fits = h;
            }

  -- what was read stands there
  pub number_at : {a next : ℕ} → NumberRead input start end (Some (a, next)) → NumberAt input start end a next
  number_at {a} {next} (read b k n f) = let same : ◌≡◌ {A = ℕ × ℕ} (a, next) (b, k) = cc in let x : a ≡ b = ap (λ p. p.0) same in let y : next ≡ k = ap (λ p. p.1) same in rw (x, y) n
  number_at (bad n f) = absurd (none-some _ (sym f))

  -- where nothing was read, nothing stands
  pub no_number : NumberRead input start end None → (a next : ℕ) → NumberAt input start end a next → ⊥
  no_number (read b k n f) a next here = absurd (none-some _ f)
  no_number (bad n f) a next here = n a next here
