-- Laws of lent slices.
use mathlib.Core.Path.{◌≡◌, refl}
use mathlib.Core.List.{List, []}
use Prim.Native.Nat.{ℕ, ◌≤◌}
use native.Mathlib.Omega.{arith}
use lib.ListN.{length, length-append, length-drop}
use Rattle.refusals.specs.Lent.{filled}

-- a filled slice is as long as before
pub filled-length : (old new : List ℕ) → length new ≤ length old → length (filled old new) ≡ length old
unfolding filled
filled-length old new h = simp (length-append, length-drop) (omega arith)

-- nothing filled, nothing changed
pub filled_none : (old : List ℕ) → filled old [] ≡ old
unfolding filled
filled_none old = refl
