-- Text put piece by piece: what two pieces make, one byte more, and that a number's digits stand whole. At the end: what is printed
-- as a number is read as that number.
use mathlib.Core.Path.{◌≡◌, refl, sym, ap, ◌∙◌}
use mathlib.Core.Bool.{Bool, true, false, cond}
use mathlib.Core.List.{List, [], ◌∷◌, ◌++◌, append_assoc, append-nil}
use Prim.Native.Nat.{ℕ, zero, suc, ◌+◌, ◌-◌, ◌/◌, ◌%◌, ◌≤◌, ◌<◌}
use native.Mathlib.Omega.{arith}
use lib.Dec.{ltb}
use lib.ListN.{length, take, drop, set, length-set, length-append, drop_of_length-le}
use lib.Seq.{drop-cons, drop-set-lt, get_or-set_same}
use borrow.Author.Tests.{lt-ltb, le-ltb}
use Rattle.text.specs.Numbers.{digits_before, numeral}
use Rattle.text.specs.working.Writing.{Appended}
use Rattle.text.specs.working.Spelling.{Spelled}

-- ---- Pieces

pub appended_none : {b : List ℕ} {at : ℕ} → Appended b at [] b at
appended_none {b} {at} = record { one_length = refl; ends = omega arith; holds = sym (append-nil (take at b)) }

-- one piece behind another
pub appended_then :
    {b x m y a : List ℕ} {at e f : ℕ} → Appended b at x m e → Appended m e y a f → Appended b at (x ++ y) a f
appended_then {b} {x} {m} {y} {a} {at} {e} {f} one two =
    record {
      one_length = two.one_length ∙ one.one_length;
      ends = omega (arith, one.ends, two.ends, length-append x y);
      holds = two.holds ∙ ap (λ (l : List ℕ). l ++ y) one.holds ∙ append_assoc (take at b) x y;
    }

-- ---- Digits

-- What is left of a number stands before the digits already placed
pub record Spelling (number : ℕ) (places : List ℕ) (place rest : ℕ) : Type 0 where
  pub ten : length places ≡ 10
  pub inside : place ≤ 10
  pub left : digits_before place rest (drop place places) ≡ numeral number

pub spelling_start : {number : ℕ} {places : List ℕ} → length places ≡ 10 → Spelling number places 10 number
unfolding numeral
spelling_start {number} {places} e =
    let h : length places ≤ 10 = omega arith in
    record { ten = e; inside = omega arith; left = ap (digits_before 10 number) (drop_of_length-le places h) }

-- the digit written at a place stands before those behind it
placed : (places : List ℕ) (k digit : ℕ) → k < length places → drop k (set places k digit) ≡ digit ∷ drop (suc k) places
placed places k digit h =
    drop-cons (set places k digit) k 0 (simp length-set h)
    ∙ (λ i. get_or-set_same places k digit 0 h i ∷ drop-set-lt (suc k) places k digit (omega arith) i)

-- one digit more, or the last one
more-spelled : {number : ℕ} {places : List ℕ} {k rest : ℕ} → Spelling number places (suc k) rest → 10 ≤ rest → Spelling number (set places k (48 + rest % 10)) k (rest / 10)
unfolding digits_before
more-spelled {number} {places} {k} {rest} held more =
    record {
      ten = length-set places k (48 + rest % 10) ∙ held.ten;
      inside = omega (arith, held.inside);
      left = rw (placed places k (48 + rest % 10) (omega (arith, held.ten, held.inside))) (rw (le-ltb rest 10 more) at held.left);
    }

last-spelled : {number : ℕ} {places : List ℕ} {k rest : ℕ} → Spelling number places (suc k) rest → rest < 10 → Spelled number (set places k (48 + rest % 10)) k
unfolding digits_before
last-spelled {number} {places} {k} {rest} held less =
    let same : rest % 10 ≡ rest = omega arith in
    record {
      ten = length-set places k (48 + rest % 10) ∙ held.ten;
      inside = omega (arith, held.inside);
      holds = rw (placed places k (48 + rest % 10) (omega (arith, held.ten, held.inside)), same) (rw (lt-ltb rest 10 less) at held.left);
    }

module _ {number : ℕ} {places : List ℕ} {place rest digit : ℕ} (held : Spelling number places place rest) (some : 0 < place) (is : digit ≡ 48 + rest % 10) where
  before : Spelling number places (suc (place - 1)) rest
  before = let e : place ≡ suc (place - 1) = omega arith in rw e at held

  pub one_spelled : 10 ≤ rest → Spelling number (set places (place - 1) digit) (place - 1) (rest / 10)
  one_spelled more = rw is (more-spelled before more)

  pub all_spelled : rest < 10 → Spelled number (set places (place - 1) digit) (place - 1)
  all_spelled less = rw is (last-spelled before less)

-- ten digits written
pub ten_spelled : {number : ℕ} {places : List ℕ} {rest : ℕ} → Spelling number places 0 rest → Spelled number places 0
unfolding digits_before
ten_spelled held = record { ten = held.ten; inside = held.inside; holds = held.left }

-- a number has ten digits at most
digits_before-length : (fuel number : ℕ) (rest : List ℕ) → length (digits_before fuel number rest) ≤ fuel + length rest
unfolding digits_before
digits_before-length zero number rest = omega arith
digits_before-length (suc fuel) number rest =
    pick (ltb number 10) (omega (arith, digits_before-length fuel (number / 10) ((48 + number % 10) ∷ rest)))
  where
    pick :
        (t : Bool) → length (digits_before fuel (number / 10) ((48 + number % 10) ∷ rest)) ≤ suc fuel + length rest →
        length (cond t ((48 + number) ∷ rest) (digits_before fuel (number / 10) ((48 + number % 10) ∷ rest))) ≤ suc fuel + length rest
    pick true further = omega arith
    pick false further = further

pub numeral-length : (n : ℕ) → length (numeral n) ≤ 10
unfolding numeral
numeral-length n = omega (arith, digits_before-length 10 n [])
