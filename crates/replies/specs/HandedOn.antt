-- What the program takes in and hands on, in all that a contract can say: no contract knows what stands behind a descriptor.
use Rattle.std.specs.Prelude.{◌≡◌, List, ℕ, ◌+◌, ◌≤◌, length}
use Rattle.replies.specs.Printed.{Replies, Printed}

-- Behind the bytes handed on before, the replies to all lines of the input are handed on (SCOPE 6.3): from its first byte to its end
pub record RepliesHandedOn (net input : List ℕ) (before total : ℕ) : Type 0 where
  pub next : ℕ
  pub bytes : List ℕ
  pub replies : Replies net input 0 next bytes
  pub all : length input ≤ next
  pub counted : total ≡ before + length bytes

-- As many bytes are handed on as are to be printed (SCOPE 6.3)
pub record PrintedHandedOn (net labels input : List ℕ) (total : ℕ) : Type 0 where
  pub bytes : List ℕ
  pub printed : Printed net labels input bytes
  pub counted : total ≡ length bytes
