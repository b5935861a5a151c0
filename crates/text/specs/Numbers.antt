-- Decimal numbers (SCOPE 6.2).
use Rattle.std.specs.Prelude.{◌≡◌, cond, ℕ, zero, suc, ◌+◌, ◌-◌, ◌*◌, ◌/◌, ◌%◌, ◌≤◌, ltb, length, get_or}
use mathlib.Core.List.{List, [], ◌∷◌, Memᴰ}

-- The first and the last digit, and the space between numbers (SCOPE 6.2)
abbrev pub zero_byte : ℕ
zero_byte = 48

abbrev pub nine_byte : ℕ
nine_byte = 57

abbrev pub space_byte : ℕ
space_byte = 32

-- The number that digits spell after a value already read, the most significant first (SCOPE 6.2)
unfoldable pub value_after : ℕ → List ℕ → ℕ
value_after value [] = value
value_after value (digit ∷ digits) = value_after (10 * value + (digit - zero_byte)) digits

-- A digit (SCOPE 6.2)
pub record IsDigit (byte : ℕ) : Type 0 where
  pub from_zero : zero_byte ≤ byte
  pub to_nine : byte ≤ nine_byte

-- The bytes spell the number: digits alone, one at least, no leading zero, at most 4,294,967,295 (SCOPE 6.2)
pub record IsNumeral (bytes : List ℕ) (number : ℕ) : Type 0 where
  pub some_digit : 1 ≤ length bytes
  pub digits : (byte : ℕ) → Memᴰ byte bytes → IsDigit byte
  pub no_leading_zero : 2 ≤ length bytes → get_or bytes 0 0 ≡ zero_byte → ⊥
  pub value : value_after 0 bytes ≡ number
  pub fits : number ≤ 4294967295

-- The digits of a number in front of what follows, as many as the fuel allows, the most significant first (SCOPE 6.3)
unfoldable pub digits_before : ℕ → ℕ → List ℕ → List ℕ
digits_before zero number rest = rest
digits_before (suc fuel) number rest =
    cond (ltb number 10) ((zero_byte + number) ∷ rest) (digits_before fuel (number / 10) ((zero_byte + number % 10) ∷ rest))

-- The bytes a number prints as: ten digits hold every number of 32 bits (SCOPE 6.3)
unfoldable pub numeral : ℕ → List ℕ
numeral number = digits_before 10 number []
