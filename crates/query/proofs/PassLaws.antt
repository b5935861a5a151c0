-- Lists passed several at a time. In this order: products; lists of one entry; some lists at once.
use mathlib.Core.Path.{◌≡◌, refl, sym, ap, ap₂, ◌∙◌}
use mathlib.Core.List.{List}
use Prim.Native.Nat.{ℕ, zero, suc, ◌+◌, ◌-◌, ◌*◌, ◌≤◌, ◌<◌}
use native.Mathlib.Omega.{arith}
use native.Mathlib.Nat.{mul-le-mul_right}
use lib.ListN.{length}
use Rattle.file_bytes.specs.working.Reads.{Read16}
use Rattle.forest.specs.LabelFile.{count_at, list_end}
use Rattle.stored.specs.working.Scanned.{further}
use Rattle.stored.proofs.Places.{further_add, further-later, Moved, moved_none, moved_more, moved_all}
use Rattle.query.specs.working.Passing.{single_bytes, CountsProduct}

-- ---- Products

-- a product of two numbers below 65536
pub product_small : (a b : ℕ) → a < 65536 → b < 65536 → a * b ≤ 65535 * 65535
product_small a b h k = omega (arith, mul-le-mul_right {m = a} {n = 65535} b (omega arith))

-- and of two such products
pub product_fits : (a b : ℕ) → a ≤ 65535 * 65535 → b ≤ 65535 * 65535 → a * b < 18446744073709551616
product_fits a b h k = omega (arith, mul-le-mul_right {m = a} {n = 65535 * 65535} b h)

-- a product is 1 only where both are
pub product_one : (a b : ℕ) → a * b ≡ 1 → (a ≡ 1) × (b ≡ 1)
product_one zero b e = absurd (omega arith)
product_one (suc zero) b e = (refl, omega arith)
product_one (suc (suc a)) zero e = absurd (omega arith)
product_one (suc (suc a)) (suc b) e = absurd (omega (arith, mul-le-mul_right {m = 2} {n = suc (suc a)} (suc b) (omega arith)))

-- the product of two counts that were read
pub counts_product :
    {labels : List ℕ} (one other : ℕ) {a b : ℕ} → Read16 (count_at labels one) a → Read16 (count_at labels other) b → CountsProduct labels one other (a * b)
counts_product one other {a} {b} first second = record { is = ap₂ ◌*◌ first.is second.is; small = product_small a b first.small second.small }

-- ---- Lists of one entry

-- it ends behind that entry
single_end : (labels : List ℕ) (here : ℕ) → count_at labels here ≡ 1 → here + single_bytes ≡ list_end labels here
unfolding list_end
single_end labels here one = omega arith

-- one such list more
single_more :
    {labels : List ℕ} {at k i here : ℕ} → Moved labels at k i here → i < k → count_at labels here ≡ 1 → Moved labels at k (i + 1) (here + single_bytes)
single_more {labels} {here = here} moved h one = moved_more labels moved h (single_end labels here one)

-- four of them
four_singles :
    (labels : List ℕ) (at : ℕ) → count_at labels at ≡ 1 → count_at labels (at + single_bytes) ≡ 1 → count_at labels (at + 2 * single_bytes) ≡ 1 → count_at labels (at + 3 * single_bytes) ≡ 1 →
    further labels at 4 ≡ at + 4 * single_bytes
four_singles labels at one two three four = sym (moved_all labels all (omega arith))
  where
    first : Moved labels at 4 1 (at + 10)
    first = single_more (moved_none labels at 4) (omega arith) one

    second : Moved labels at 4 2 (at + 20)
    second = let e : at + 20 ≡ at + 10 + 10 = omega arith in rw e (single_more first (omega arith) two)

    third : Moved labels at 4 3 (at + 30)
    third = let e : at + 30 ≡ at + 20 + 10 = omega arith in rw e (single_more second (omega arith) three)

    all : Moved labels at 4 4 (at + 40)
    all = let e : at + 40 ≡ at + 30 + 10 = omega arith in rw e (single_more third (omega arith) four)

module _ {labels : List ℕ} where
  -- told by the products of their counts
  pub products_tell :
      {at p q : ℕ} → CountsProduct labels at (at + single_bytes) p → CountsProduct labels (at + 2 * single_bytes) (at + 3 * single_bytes) q → p * q ≡ 1 → further labels at 4 ≡ at + 4 * single_bytes
  products_tell {at} {p} {q} one two e =
      let both = product_one p q e in
      let near = product_one _ _ (sym one.is ∙ both.0) in
      let far = product_one _ _ (sym two.is ∙ both.1) in
      four_singles labels at near.0 near.1 far.0 far.1

  -- ---- Some lists at once

  module _ {at k i here : ℕ} (moved : Moved labels at k i here) where
    -- as many as are left stand in the file
    pub moved-ahead : (j : ℕ) → i + j ≤ k → further labels at k ≤ length labels → further labels here j ≤ length labels
    moved-ahead j h inside = rw (moved.is, further_add labels at i j) (omega (arith, behind))
      where
        all : further labels (further labels at (i + j)) (k - (i + j)) ≡ further labels at k
        all = further_add labels at (i + j) (k - (i + j)) ∙ ap (further labels at) (omega arith)

        behind : further labels at (i + j) ≤ further labels at k
        behind = omega (arith, all, further-later labels (further labels at (i + j)) (k - (i + j)))

    pub moved_by : {next : ℕ} (j : ℕ) → i + j ≤ k → next ≡ further labels here j → Moved labels at k (i + j) next
    moved_by j h e = record { few = h; is = e ∙ ap (λ p. further labels p j) moved.is ∙ further_add labels at i j }

    -- all that are left
    pub moved-rest : {next : ℕ} → next ≡ further labels here (k - i) → next ≡ further labels at k
    moved-rest e =
        e ∙ ap (λ p. further labels p (k - i)) moved.is ∙ further_add labels at i (k - i) ∙ ap (further labels at) (omega (arith, moved.few))
