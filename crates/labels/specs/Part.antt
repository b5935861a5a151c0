-- Show (SCOPE 5.7) for a caller who cannot be handed a part: its place in the lent bytes, and its length.
use Rattle.std.specs.Prelude.{◌≡◌, List, ℕ, ◌+◌, ◌≤◌, length, take, drop}
use Rattle.stored.specs.Stored.{list_place}
use Rattle.files.specs.Shown.{Shown}

-- The bytes from `at` on, as many as `count`, are what Show hands out (SCOPE 5.7); they stand in the lent bytes, and an empty part is at 0
pub record PartShown (labels : List ℕ) (v u at count : ℕ) : Type 0 where
  pub shown : Shown labels v u (take count (drop at labels))
  pub inside : at + count ≤ length labels
  pub place : 1 ≤ count → at ≡ list_place labels v u
  pub empty : count ≡ 0 → at ≡ 0
