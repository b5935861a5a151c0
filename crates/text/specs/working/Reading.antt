-- What the reader of lines knows on its way: the kind of a byte, the digits read so far, the number they make, the space behind it.
use Rattle.std.specs.Prelude.{◌≡◌, Bool, true, false, List, ℕ, ◌+◌, ◌-◌, ◌*◌, ◌≤◌, ◌<◌, length, get_or}
use Rattle.text.specs.Numbers.{zero_byte, space_byte, value_after, IsDigit, IsNumeral}
use Rattle.text.specs.Lines.{newline_byte, line_of}
use Rattle.text.specs.Queries.{IsQuery, BadLine}
use Rattle.std.specs.declared.option.Option.{Option}
use Rattle.std.specs.declared.option.Option.TheVariants.{Some, None}
use Rattle.text.specs.declared.Query.{Query}
use Rattle.text.specs.declared.read.Kind.{Kind}
use Rattle.text.specs.declared.read.Kind.TheVariants as kind

abbrev pub most_number : ℕ
most_number = 4294967295

-- A byte is a digit with its value, the space, the newline, or none of them
pub data KindOf (byte : ℕ) (r : Kind) : Type 0 where
  digit : IsDigit byte → r ≡ kind.Digit (byte - zero_byte) → KindOf byte r
  space : byte ≡ space_byte → r ≡ kind.Space → KindOf byte r
  newline : byte ≡ newline_byte → r ≡ kind.Newline → KindOf byte r
  other : (IsDigit byte → ⊥) → (byte ≡ space_byte → ⊥) → (byte ≡ newline_byte → ⊥) → r ≡ kind.Other → KindOf byte r

-- No newline stands from the line's start to a byte
pub record NoNewline (input : List ℕ) (start to : ℕ) : Type 0 where
  pub forward : start ≤ to
  pub inside : to ≤ length input
  pub none : (i : ℕ) → start ≤ i → i < to → get_or input i 0 ≡ newline_byte → ⊥

-- A value is told to be at most the largest number, or above it
pub record Fits (value : ℕ) (answer : Bool) : Type 0 where
  pub holds : answer ≡ true → value ≤ most_number
  pub fails : answer ≡ false → most_number < value

-- A value takes one digit more, unless it is too large already
pub record Longer (value digit r : ℕ) : Type 0 where
  pub grows : value ≤ most_number → r ≡ 10 * value + digit
  pub stays : most_number < value → r ≡ value

-- The value is the number that the bytes spell, or both are too large
pub record Spelled (bytes : List ℕ) (value : ℕ) : Type 0 where
  pub exact : value ≤ most_number → value_after 0 bytes ≡ value
  pub large : most_number < value → most_number < value_after 0 bytes

-- Digits alone stand from a byte to another one, and the value is what they spell
pub record DigitsTo (input : List ℕ) (start to value : ℕ) : Type 0 where
  pub forward : start ≤ to
  pub inside : to ≤ length input
  pub digits : (i : ℕ) → start ≤ i → i < to → IsDigit (get_or input i 0)
  pub spelled : Spelled (line_of input start to) value

-- The digits from a byte on end at `next`: no further one follows in the line
pub record DigitRun (input : List ℕ) (start end next : ℕ) : Type 0 where
  pub forward : start ≤ next
  pub inside : next ≤ end
  pub digits : (i : ℕ) → start ≤ i → i < next → IsDigit (get_or input i 0)
  pub stops : next < end → IsDigit (get_or input next 0) → ⊥

pub record DigitsRead (input : List ℕ) (start end value next : ℕ) : Type 0 where
  pub run : DigitRun input start end next
  pub spelled : Spelled (line_of input start next) value

-- The digits from a byte on are a number's
pub record NumberAt (input : List ℕ) (start end number next : ℕ) : Type 0 where
  pub run : DigitRun input start end next
  pub numeral : IsNumeral (line_of input start next) number

-- The number read and the byte behind it, or that the digits there are no number's
pub data NumberRead (input : List ℕ) (start end : ℕ) (r : Option (ℕ × ℕ)) : Type 0 where
  read : (value next : ℕ) → NumberAt input start end value next → r ≡ Some (value, next) → NumberRead input start end r
  bad : ((value next : ℕ) → NumberAt input start end value next → ⊥) → r ≡ None → NumberRead input start end r

-- A space stands at a byte of the line
pub record SpaceAt (input : List ℕ) (at end : ℕ) : Type 0 where
  pub inside : at < end
  pub space : get_or input at 0 ≡ space_byte

pub record SpaceTold (input : List ℕ) (at end : ℕ) (answer : Bool) : Type 0 where
  pub holds : answer ≡ true → SpaceAt input at end
  pub fails : answer ≡ false → SpaceAt input at end → ⊥

-- A query line by its places: each number ends where its digits end, a space behind the first two, the line's end behind the third
pub record QueryAt (input : List ℕ) (start end s t limit : ℕ) : Type 0 where
  pub after_s : ℕ
  pub after_t : ℕ
  pub first : NumberAt input start end s after_s
  pub first_space : SpaceAt input after_s end
  pub second : NumberAt input (after_s + 1) end t after_t
  pub second_space : SpaceAt input after_t end
  pub third : NumberAt input (after_t + 1) end limit end

-- What was read of a line: its three numbers, or that it is bad
pub data QueryRead (line : List ℕ) (r : Option Query) : Type 0 where
  query : (s t limit : ℕ) → IsQuery line s t limit → r ≡ Some (record { start = s; finish = t; limit = limit }) → QueryRead line r
  bad : BadLine line → r ≡ None → QueryRead line r
