-- What is written part by part is what is printed: the first line, then one filled buffer after another.
use mathlib.Core.Path.{◌≡◌, ap}
use mathlib.Core.List.{List, ◌++◌, append_assoc, append-nil}
use Prim.Native.Nat.{ℕ, ◌≤◌}
use lib.ListN.{length, take}
use Rattle.replies.specs.Printed.{Replies, none, more, Printed}
use Rattle.replies.specs.Printed as printed
use Rattle.replies.specs.working.Buffer.{FirstLine, FilledTo}

-- replies that go on where others end
replies_then :
    {net input : List ℕ} {from next end : ℕ} {x y : List ℕ} → Replies net input from next x → Replies net input next end y → Replies net input from end (x ++ y)
replies_then {x = x} p none = rw append-nil p
replies_then {x = x} p (more {bytes = y} {reply = r} q left ends reply) = rw (← append_assoc x y r) (more (replies_then p q) left ends reply)

-- one filled buffer more
pub buffer_then :
    {net input written out : List ℕ} {next end used : ℕ} → Replies net input 0 next written → FilledTo net input next out end used →
    Replies net input 0 end (written ++ take used out)
buffer_then so_far filled = replies_then so_far filled.replies

module _ {net labels input depths tables out : List ℕ} {number used : ℕ} (first : FirstLine net labels depths tables out number used) where
  -- a refusal is all that is printed
  pub refused-printed : (number ≡ 0 → ⊥) → Printed net labels input (take used out)
  refused-printed some = printed.refused first.accepting.checked some (first.refusal some)

  -- the heading, then the replies to all lines
  pub answered-printed :
      {next : ℕ} {written : List ℕ} → number ≡ 0 → Replies net input 0 next written → length input ≤ next → Printed net labels input (take used out ++ written)
  answered-printed {written = written} zero replies all =
      printed.answered (rw zero at first.accepting.checked) replies all (ap (λ (l : List ℕ). l ++ written) (first.heading zero))
