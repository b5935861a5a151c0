-- Numbers read from bytes are no larger than their places allow.
use mathlib.Core.List.{List}
use Prim.Native.Nat.{ℕ, ◌+◌, ◌<◌}
use native.Mathlib.Omega.{arith}
use lib.ListN.{get_or}
use Rattle.file_bytes.specs.Bytes.{u16_at}

module _ (s : List ℕ) (bytes : (i : ℕ) → get_or s i 0 < 256) where
  -- two bytes make a number below 2 ^ 16
  pub u16_small : (at : ℕ) → u16_at s at < 65536
  unfolding u16_at
  u16_small at = omega (arith, bytes at, bytes (at + 1))
