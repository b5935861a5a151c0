-- What the functions that read numbers from a file tell their callers.
use Rattle.std.specs.Prelude.{◌≡◌, List, ℕ, ◌<◌}
use Rattle.file_bytes.specs.Bytes.{u16_at}

-- r is a number of 16 bits that was read
pub record Read16 (value r : ℕ) : Type 0 where
  pub is : r ≡ value
  pub small : r < 65536

-- r is the 16-bit number at byte `at`
abbrev pub ReadU16 : List ℕ → ℕ → ℕ → Type 0
ReadU16 s at r = Read16 (u16_at s at) r
