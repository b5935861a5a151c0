-- Laws of `tabulate`, the list f 0, f 1, …, f (n - 1). In this order: its length; its members; one entry more,
-- alone and as what a lent slice was filled with.
use mathlib.Core.Path.{◌≡◌, refl, sym, ap, ◌∙◌}
use mathlib.Core.Logic.{◌⊎◌, inl, inr}
use mathlib.Core.List.Memᴰ
use mathlib.Core.List.{List, [], ◌∷◌, ◌++◌, Memᴰ}
use Prim.Native.Nat.{ℕ, zero, suc, ◌+◌, ◌≤◌, ◌<◌}
use native.Mathlib.Omega.{arith}
use native.Mathlib.Numerals.{add-one}
use lib.ListN.{length, get_or, take, drop, set, length-set}
use lib.Seq.{drop-cons, set_at}
use Rattle.refusals.specs.Lent.{filled}
use Rattle.stored.specs.Stored.{tabulate}

module _ {A : Type 0} where
  -- it has n entries
  pub length-tabulate : (f : ℕ → A) (n : ℕ) → length (tabulate f n) ≡ n
  unfolding tabulate
  length-tabulate f zero = refl
  length-tabulate f (suc n) = ap suc (length-tabulate (λ i. f (suc i)) n)

  -- every f i below n is a member
  pub tabulate-member : (f : ℕ → A) (n : ℕ) {i : ℕ} → i < n → Memᴰ (f i) (tabulate f n)
  unfolding tabulate
  tabulate-member f zero h = absurd (omega arith)
  tabulate-member f (suc n) {i = zero} h = Memᴰ.head refl
  tabulate-member f (suc n) {i = suc i} h = Memᴰ.tail (tabulate-member (λ i. f (suc i)) n (omega arith))

  -- x stands at a place below n
  pub record Stands (f : ℕ → A) (n : ℕ) (x : A) : Type 0 where
    pub place : ℕ
    pub below : place < n
    pub is : x ≡ f place

  -- every member is an f i below n
  pub member-stands : (f : ℕ → A) (n : ℕ) {x : A} → Memᴰ x (tabulate f n) → Stands f n x
  unfolding tabulate
  member-stands f zero m = absurd (Memᴰ.not-nil m)
  member-stands f (suc n) {x} m = pick (λ later. member-stands (λ i. f (suc i)) n later) (Memᴰ.cases_cons m)
    where
      pick :
          (Memᴰ x (tabulate (λ i. f (suc i)) n) → Stands (λ i. f (suc i)) n x) →
          (x ≡ f 0) ⊎ Memᴰ x (tabulate (λ i. f (suc i)) n) →
          Stands f (suc n) x
      pick next (inl e) = record { place = 0; below = omega arith; is = e }
      pick next (inr later) = let w = next later in record { place = suc w.place; below = omega arith; is = w.is }

  -- one entry more stands behind the others
  pub tabulate_snoc : (f : ℕ → A) (n : ℕ) (rest : List A) → tabulate f (suc n) ++ rest ≡ tabulate f n ++ f n ∷ rest
  unfolding tabulate
  tabulate_snoc f zero rest = refl
  tabulate_snoc f (suc n) rest = ap (λ l. f 0 ∷ l) (tabulate_snoc (λ i. f (suc i)) n rest)

-- a list's first places are a table of them
pub tabulate-places : (l : List ℕ) (n : ℕ) → n ≤ length l → tabulate (λ i. get_or l i 0) n ≡ take n l
unfolding tabulate
tabulate-places l zero h = refl
tabulate-places [] (suc n) h = absurd (omega arith)
tabulate-places (x ∷ l) (suc n) h = ap (λ k. x ∷ k) (tabulate-places l n (omega arith))

-- ---- Filling a lent slice

-- a slice with no place filled is as it came
pub filled-start : (old : List ℕ) (f : ℕ → ℕ) → filled old (tabulate f 0) ≡ old
unfolding filled tabulate
filled-start old f = refl

-- writing f n behind the first n places fills one place more
pub filled_more : (old : List ℕ) (f : ℕ → ℕ) (n : ℕ) → n < length old → set (filled old (tabulate f n)) n (f n) ≡ filled old (tabulate f (n + 1))
unfolding filled
filled_more old f n h =
    rw (add-one n, length-tabulate f n, length-tabulate f (suc n), drop-cons old n 0, tabulate_snoc f n)
    (set_at (tabulate f n) (get_or old n 0) (drop (suc n) old) (f n) n (length-tabulate f n))

-- The first j places of a lent slice that held `old` hold f 0, f 1, …; it now is `new`
pub record Filling (f : ℕ → ℕ) (old : List ℕ) (j : ℕ) (new : List ℕ) : Type 0 where
  pub is : new ≡ filled old (tabulate f j)
  pub one_length : length new ≡ length old

-- none is filled
pub filling-none : (f : ℕ → ℕ) (old : List ℕ) → Filling f old 0 old
filling-none f old = record { is = sym (filled-start old f); one_length = refl }

-- one more is filled
pub filling-more :
    (f : ℕ → ℕ) {old new : List ℕ} {j x : ℕ} → Filling f old j new → j < length old → x ≡ f j → Filling f old (j + 1) (set new j x)
filling-more f {old} {new} {j} {x} filling h e =
    record {
      is = ap (λ l. set l j x) filling.is ∙ ap (set (filled old (tabulate f j)) j) e ∙ filled_more old f j h;
      one_length = length-set new j x ∙ filling.one_length;
    }

-- all n are filled
pub filling_all : (f : ℕ → ℕ) {old new : List ℕ} {j n : ℕ} → Filling f old j new → j ≡ n → new ≡ filled old (tabulate f n)
filling_all f {old} filling e = filling.is ∙ ap (λ n. filled old (tabulate f n)) e

-- all n are filled with the first places of a list
pub filling-places :
    (l : List ℕ) {old new : List ℕ} {j n : ℕ} → Filling (λ i. get_or l i 0) old j new → j ≡ n → n ≤ length l → new ≡ filled old (take n l)
filling-places l {old} {n = n} filling e h = filling_all (λ i. get_or l i 0) filling e ∙ ap (filled old) (tabulate-places l n h)
