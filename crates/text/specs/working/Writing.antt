-- Text put into a lent buffer, piece by piece.
use Rattle.std.specs.Prelude.{◌≡◌, List, ◌++◌, ℕ, ◌+◌, length, take}

-- The bytes stand behind the first `at` bytes of the buffer, which stay, and end at `end`
pub record Appended (before : List ℕ) (at : ℕ) (bytes after : List ℕ) (end : ℕ) : Type 0 where
  pub one_length : length after ≡ length before
  pub ends : end ≡ at + length bytes
  pub holds : take end after ≡ take at before ++ bytes
