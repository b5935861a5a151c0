-- Parts of an input between two bytes. In this order: empty; its length and its bytes; one byte more; cut at a byte; cut where its
-- bytes are known.
use mathlib.Core.Path.{◌≡◌, sym, ap, ◌∙◌}
use mathlib.Core.List.{List, [], ◌∷◌, ◌++◌}
use Prim.Native.Nat.{ℕ, suc, ◌+◌, ◌-◌, ◌≤◌, ◌<◌}
use native.Mathlib.Omega.{arith}
use lib.ListN.{length, get_or, take, drop, length-append, length-drop}
use lib.Seq.{length-take-le, take-suc, take-length, take-add, take-take, drop-drop, drop-cons, get_or-take, get_or-drop, take-append_seam, drop-append_seam, get_or-append_seam}
use Rattle.text.specs.Lines.{line_of}

-- no byte stands between a place and itself
pub line-empty : (input : List ℕ) (start : ℕ) → line_of input start start ≡ []
unfolding line_of
line-empty input start = let none : start - start ≡ 0 = omega arith in rw none

-- the whole input
pub line-whole : (input : List ℕ) → line_of input 0 (length input) ≡ input
unfolding line_of
line-whole input = let all : length input - 0 ≡ length input = omega arith in rw all (take-length input)

module _ (input : List ℕ) (start to : ℕ) (forward : start ≤ to) where
  pub line-length : to ≤ length input → length (line_of input start to) ≡ to - start
  unfolding line_of
  line-length h = length-take-le (to - start) (drop start input) (simp length-drop (omega arith))

  pub line_at : (i : ℕ) → start ≤ i → i < to → get_or (line_of input start to) (i - start) 0 ≡ get_or input i 0
  unfolding line_of
  line_at i h k =
      get_or-take (to - start) (drop start input) (i - start) 0 (omega arith)
      ∙ get_or-drop start input (i - start) 0
      ∙ ap (λ (n : ℕ). get_or input n 0) back
    where
      back : start + (i - start) ≡ i
      back = omega arith

  -- a byte more at the end of a part
  pub line-more : to < length input → line_of input start (to + 1) ≡ line_of input start to ++ (get_or input to 0 ∷ [])
  unfolding line_of
  line-more h =
      ap (λ (n : ℕ). take n (drop start input)) more
      ∙ take-suc (drop start input) (to - start) 0 (simp length-drop (omega arith))
      ∙ ap (λ (b : ℕ). take (to - start) (drop start input) ++ (b ∷ [])) (get_or-drop start input (to - start) 0 ∙ ap (λ (n : ℕ). get_or input n 0) back)
    where
      more : to + 1 - start ≡ suc (to - start)
      more = omega arith

      back : start + (to - start) ≡ to
      back = omega arith

  -- a part is what stands before a byte, the byte, and what stands behind it
  pub line-split : (end : ℕ) → to < end → end ≤ length input → line_of input start end ≡ line_of input start to ++ (get_or input to 0 ∷ line_of input (to + 1) end)
  unfolding line_of
  line-split end h k =
      ap (λ (n : ℕ). take n (drop start input)) both
      ∙ take-add (to - start) (end - to) (drop start input)
      ∙ ap (λ (l : List ℕ). take (to - start) (drop start input) ++ l) rest
    where
      both : end - start ≡ (to - start) + (end - to)
      both = omega arith

      back : start + (to - start) ≡ to
      back = omega arith

      one : end - to ≡ suc (end - (to + 1))
      one = omega arith

      next : suc to ≡ to + 1
      next = omega arith

      rest : take (end - to) (drop (to - start) (drop start input)) ≡ get_or input to 0 ∷ take (end - (to + 1)) (drop (to + 1) input)
      rest =
          ap (take (end - to)) (drop-drop (to - start) start input ∙ ap (λ (n : ℕ). drop n input) back ∙ drop-cons input to 0 (omega arith))
          ∙ ap (λ (n : ℕ). take n (get_or input to 0 ∷ drop (suc to) input)) one
          ∙ ap (λ (n : ℕ). get_or input to 0 ∷ take (end - (to + 1)) (drop n input)) next

-- A part whose bytes are known is cut behind the first of them
pub record Cut (input : List ℕ) (start end : ℕ) (front : List ℕ) (byte : ℕ) (back : List ℕ) : Type 0 where
  pub at : ℕ
  pub forward : start ≤ at
  pub inside : at < end
  pub before : line_of input start at ≡ front
  pub here : get_or input at 0 ≡ byte
  pub behind : line_of input (at + 1) end ≡ back

pub line_cut :
    (input : List ℕ) (start end : ℕ) {front back : List ℕ} {byte : ℕ} →
    start ≤ end → end ≤ length input → line_of input start end ≡ front ++ (byte ∷ back) → Cut input start end front byte back
unfolding line_of
line_cut input start end {front} {back} {byte} h k e =
    record { at = at; forward = omega arith; inside = inside; before = before; here = here; behind = behind }
  where
    at : ℕ
    at = start + length front

    long : end - start ≡ length front + suc (length back)
    long = sym (line-length input start end h k) ∙ ap length e ∙ length-append front (byte ∷ back)

    inside : at < end
    inside = omega (arith, long)

    front_length : at - start ≡ length front
    front_length = omega arith

    before : line_of input start at ≡ front
    before =
        ap (λ (n : ℕ). take n (drop start input)) front_length
        ∙ sym (take-take (length front) (end - start) (drop start input) (omega (arith, long)))
        ∙ ap (take (length front)) e
        ∙ take-append_seam front (byte ∷ back)

    here : get_or input at 0 ≡ byte
    here =
        sym (line_at input start end h at (omega arith) inside)
        ∙ ap (λ (n : ℕ). get_or (line_of input start end) n 0) front_length
        ∙ ap (λ (l : List ℕ). get_or l (length front) 0) e
        ∙ get_or-append_seam front byte back 0

    tails : get_or input at 0 ∷ line_of input (at + 1) end ≡ byte ∷ back
    tails =
        sym (drop-append_seam front (get_or input at 0 ∷ line_of input (at + 1) end))
        ∙ ap (drop (length front)) (ap (λ (l : List ℕ). l ++ (get_or input at 0 ∷ line_of input (at + 1) end)) (sym before) ∙ sym (line-split input start at (omega arith) end inside k) ∙ e)
        ∙ drop-append_seam front (byte ∷ back)

    behind : line_of input (at + 1) end ≡ back
    behind = cc tails
