-- What holds from one place of a line to another.
use mathlib.Core.Path.{◌≡◌}
use Prim.Native.Nat.{ℕ, ◌+◌, ◌≤◌, ◌<◌}
use native.Mathlib.Decide.{ℕ_discrete}
use native.Mathlib.Omega.{arith}

-- what holds from one place to another, and there, holds one place further
pub between_more :
    (P : ℕ → Type 0) {start to : ℕ} → ((i : ℕ) → start ≤ i → i < to → P i) → P to → (i : ℕ) → start ≤ i → i < to + 1 → P i
between_more P {start} {to} f here i h k = pick (ℕ_discrete i to)
  where
    pick : Dec (i ≡ to) → P i
    pick (yes e) = rw e here
    pick (no n) = f i h (omega arith)
