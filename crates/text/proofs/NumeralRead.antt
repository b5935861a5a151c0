-- What is printed for a number is read as that number.
use mathlib.Core.Path.{◌≡◌, ap, ◌∙◌}
use mathlib.Core.Logic.{◌⊎◌, ⊎_elim}
use mathlib.Core.List.Memᴰ
use mathlib.Core.List.{List, [], ◌∷◌, Memᴰ}
use Prim.Native.Nat.{ℕ, zero, suc, ◌+◌, ◌-◌, ◌*◌, ◌/◌, ◌%◌, ◌≤◌, ◌<◌}
use native.Mathlib.Decide.{dec_lt}
use native.Mathlib.Omega.{arith}
use lib.ListN.{length, get_or}
use borrow.Author.Tests.{lt-ltb, le-ltb}
use Rattle.text.specs.Numbers.{value_after, IsDigit, IsNumeral, digits_before, numeral}

-- 1, 10, 100, …
unfoldable tens : ℕ → ℕ
tens zero = 1
tens (suc k) = 10 * tens k

-- the digits of a number below ten, and of any other
last-digit : (fuel number : ℕ) (rest : List ℕ) → number < 10 → digits_before (suc fuel) number rest ≡ (48 + number) ∷ rest
unfolding digits_before
last-digit fuel number rest h = rw (lt-ltb number 10 h)

more-digits :
    (fuel number : ℕ) (rest : List ℕ) → 10 ≤ number → digits_before (suc fuel) number rest ≡ digits_before fuel (number / 10) ((48 + number % 10) ∷ rest)
unfolding digits_before
more-digits fuel number rest h = rw (le-ltb number 10 h)

-- a fact of a number's digits, by cases on the number
by_digits :
    (P : List ℕ → Type 0) (fuel number : ℕ) (rest : List ℕ) →
    (number < 10 → P ((48 + number) ∷ rest)) →
    (10 ≤ number → P (digits_before fuel (number / 10) ((48 + number % 10) ∷ rest))) →
    P (digits_before (suc fuel) number rest)
by_digits P fuel number rest small large = pick (dec_lt number 10)
  where
    pick : Dec (number < 10) → P (digits_before (suc fuel) number rest)
    pick (yes h) = rw (last-digit fuel number rest h) (small h)
    pick (no h) = let k : 10 ≤ number = omega arith in rw (more-digits fuel number rest k) (large k)

value_is : (fuel number : ℕ) (rest : List ℕ) → number < tens fuel → value_after 0 (digits_before fuel number rest) ≡ value_after number rest
unfolding tens value_after digits_before
value_is zero number rest h = let e : 0 ≡ number = omega arith in ap (λ (v : ℕ). value_after v rest) e
value_is (suc fuel) number rest h =
    by_digits (λ (l : List ℕ). value_after 0 l ≡ value_after number rest) fuel number rest
    (λ small. let e : 10 * 0 + (48 + number - 48) ≡ number = omega arith in ap (λ (v : ℕ). value_after v rest) e)
    (λ large.
    let e : 10 * (number / 10) + (48 + number % 10 - 48) ≡ number = omega arith in
    value_is fuel (number / 10) ((48 + number % 10) ∷ rest) (omega arith) ∙ ap (λ (v : ℕ). value_after v rest) e)

-- Digits alone
record AllDigits (bytes : List ℕ) : Type 0 where
  each : (byte : ℕ) → Memᴰ byte bytes → IsDigit byte

one_more : {digit : ℕ} {rest : List ℕ} → digit < 10 → AllDigits rest → AllDigits ((48 + digit) ∷ rest)
one_more {digit} {rest} h all = record { each = λ byte m. pick byte (Memᴰ.cases_cons m) }
  where
    pick : (byte : ℕ) → (byte ≡ 48 + digit) ⊎ Memᴰ byte rest → IsDigit byte
    pick byte w = ⊎_elim (λ e. record { from_zero = omega arith; to_nine = omega arith }) (λ m. all.each byte m) w

digits_all : (fuel number : ℕ) {rest : List ℕ} → AllDigits rest → AllDigits (digits_before fuel number rest)
unfolding digits_before
digits_all zero number all = all
digits_all (suc fuel) number {rest} all =
    by_digits AllDigits fuel number rest (λ small. one_more small all) (λ large. digits_all fuel (number / 10) (one_more (omega arith) all))

digits-some : (fuel number : ℕ) (rest : List ℕ) → length rest ≤ length (digits_before fuel number rest)
unfolding digits_before
digits-some zero number rest = omega arith
digits-some (suc fuel) number rest =
    by_digits (λ (l : List ℕ). length rest ≤ length l) fuel number rest (λ small. omega arith)
    (λ large. omega (arith, digits-some fuel (number / 10) ((48 + number % 10) ∷ rest)))

leading : (fuel number : ℕ) (rest : List ℕ) → 1 ≤ number → number < tens fuel → get_or (digits_before fuel number rest) 0 0 ≡ 48 → ⊥
unfolding tens digits_before
leading zero number rest some h = absurd (omega arith)
leading (suc fuel) number rest some h =
    by_digits (λ (l : List ℕ). get_or l 0 0 ≡ 48 → ⊥) fuel number rest (λ small e. omega arith)
    (λ large. leading fuel (number / 10) ((48 + number % 10) ∷ rest) (omega arith) (omega arith))

-- What is printed for a number of 32 bits is a numeral of it
pub numeral_is : (n : ℕ) → n ≤ 4294967295 → IsNumeral (numeral n) n
unfolding numeral tens value_after digits_before
numeral_is n fits =
    record {
      some_digit = by_digits (λ (l : List ℕ). 1 ≤ length l) 9 n [] (λ small. omega arith) (λ large. omega (arith, digits-some 9 (n / 10) ((48 + n % 10) ∷ [])));
      digits = (digits_all 10 n (record { each = λ byte m. absurd (Memᴰ.not-nil m) })).each;
      no_leading_zero =
          by_digits (λ (l : List ℕ). 2 ≤ length l → get_or l 0 0 ≡ 48 → ⊥) 9 n [] (λ small two e. omega arith)
          (λ large two. leading 9 (n / 10) ((48 + n % 10) ∷ []) (omega arith) (omega arith));
      value = value_is 10 n [] (omega arith);
      fits = fits;
    }
