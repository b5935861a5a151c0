-- The ways through a run of digits: none yet, one more, a byte that is no digit, the end of the line.
use mathlib.Core.Path.{◌≡◌, refl, sym, ap, ◌∙◌}
use mathlib.Core.List.{List, [], ◌∷◌, ◌++◌}
use Prim.Native.Nat.{ℕ, ◌+◌, ◌-◌, ◌*◌, ◌≤◌, ◌<◌}
use native.Mathlib.Decide.{dec_le}
use native.Mathlib.Omega.{arith}
use lib.ListN.{length, get_or}
use Rattle.text.specs.Numbers.{zero_byte, value_after, IsDigit}
use Rattle.text.specs.working.Reading.{most_number, Longer, Spelled, DigitsTo}
use Rattle.text.proofs.LineSteps.{between_more}
use Rattle.text.proofs.LineParts.{line-empty, line-more}

-- a digit more at the end of the bytes
pub value-more : (value : ℕ) (bytes : List ℕ) (digit : ℕ) → value_after value (bytes ++ (digit ∷ [])) ≡ 10 * value_after value bytes + (digit - zero_byte)
unfolding value_after
value-more value [] digit = refl
value-more value (byte ∷ bytes) digit = value-more (10 * value + (byte - zero_byte)) bytes digit

spelled-more :
    {bytes more : List ℕ} {value digit r : ℕ} (byte : ℕ) →
    Spelled bytes value → Longer value digit r → digit ≡ byte - zero_byte → more ≡ bytes ++ (byte ∷ []) → Spelled more r
spelled-more {bytes} {more} {value} {digit} {r} byte so_far longer is e = record { exact = exact; large = large }
  where
    whole : value_after 0 more ≡ 10 * value_after 0 bytes + digit
    whole = ap (value_after 0) e ∙ value-more 0 bytes byte ∙ ap (λ (d : ℕ). 10 * value_after 0 bytes + d) (sym is)

    exact : r ≤ most_number → value_after 0 more ≡ r
    exact h = pick (dec_le value most_number)
      where
        pick : Dec (value ≤ most_number) → value_after 0 more ≡ r
        pick (yes k) = omega (arith, whole, so_far.exact k, longer.grows k)
        pick (no k) = absurd (omega (arith, longer.stays (omega arith)))

    large : most_number < r → most_number < value_after 0 more
    large h = pick (dec_le value most_number)
      where
        pick : Dec (value ≤ most_number) → most_number < value_after 0 more
        pick (yes k) = omega (arith, whole, so_far.exact k, longer.grows k)
        pick (no k) = omega (arith, whole, so_far.large (omega arith))

module _ {input : List ℕ} {start : ℕ} where
  pub no_digit_yet : start ≤ length input → DigitsTo input start start 0
  unfolding value_after
  no_digit_yet h =
      record {
        forward = omega arith;
        inside = h;
        digits = λ i a b. absurd (omega arith);
        spelled = rw line-empty (record { exact = λ k. none; large = λ k. absurd (omega arith) });
      }
    where
      none : value_after 0 [] ≡ 0
      none = refl

  module _ {to value : ℕ} (so_far : DigitsTo input start to value) where
    pub one_digit_more :
        {digit r : ℕ} → to < length input → IsDigit (get_or input to 0) → digit ≡ get_or input to 0 - zero_byte → Longer value digit r → DigitsTo input start (to + 1) r
    one_digit_more below is e longer =
        record {
          forward = omega arith;
          inside = omega arith;
          digits = between_more (λ i. IsDigit (get_or input i 0)) so_far.digits is;
          spelled = spelled-more (get_or input to 0) so_far.spelled longer e (line-more input start to so_far.forward below);
        }
