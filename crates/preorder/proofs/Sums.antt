-- Sums of lists: what one place adds.
use mathlib.Core.Path.{◌≡◌, refl}
use mathlib.Core.List.{List, [], ◌∷◌}
use Prim.Native.Nat.{ℕ, zero, suc, ◌+◌, ◌≤◌, ◌<◌}
use native.Mathlib.Omega.{arith}
use lib.ListN.{length, get_or, set, replicate}
use Rattle.preorder.specs.working.Blocks.{sum_of}

-- a place that is set anew gives what it had and takes what it gets
pub sum_set : (l : List ℕ) (i x : ℕ) → i < length l → sum_of (set l i x) + get_or l i 0 ≡ sum_of l + x
unfolding sum_of
sum_set [] i x h = absurd (omega arith)
sum_set (y ∷ l) zero x h = omega arith
sum_set (y ∷ l) (suc i) x h = omega (arith, sum_set l i x (omega arith))

-- no place has more than the sum
pub place_in_sum : (l : List ℕ) (i : ℕ) → i < length l → get_or l i 0 ≤ sum_of l
place_in_sum l i h = omega (arith, sum_set l i 0 h)

-- n ones
pub sum_ones : (n : ℕ) → sum_of (replicate n 1) ≡ n
unfolding sum_of
sum_ones zero = refl
sum_ones (suc n) = omega (arith, sum_ones n)
