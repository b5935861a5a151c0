-- Numbers in files (SCOPE 3): little-endian.
use Rattle.std.specs.Prelude.{Bool, ◌&&◌, List, ℕ, ◌+◌, ◌*◌, eqb, get_or}

abbrev pub byte_at : List ℕ → ℕ → ℕ
byte_at s at = get_or s at 0

unfoldable pub u16_at : List ℕ → ℕ → ℕ
u16_at s at = byte_at s at + 256 * byte_at s (at + 1)

unfoldable pub u32_at : List ℕ → ℕ → ℕ
u32_at s at = byte_at s at + 256 * byte_at s (at + 1) + 65536 * byte_at s (at + 2) + 16777216 * byte_at s (at + 3)

-- Bytes 0 to 2 are the mark, and byte 5 is 0
unfoldable pub marked : ℕ → ℕ → ℕ → List ℕ → Bool
marked a b c s = eqb (byte_at s 0) a && eqb (byte_at s 1) b && eqb (byte_at s 2) c && eqb (byte_at s 5) 0
