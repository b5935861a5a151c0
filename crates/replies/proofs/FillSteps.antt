-- The ways through a filled buffer: nothing yet, one reply more.
use mathlib.Core.Path.{◌≡◌, refl, ◌∙◌}
use mathlib.Core.Logic.{◌⊎◌, inl, inr, ⊎_elim}
use mathlib.Core.List.{List}
use Prim.Native.Nat.{ℕ, ◌+◌, ◌≤◌, ◌<◌}
use native.Mathlib.Numerals.{add-one}
use native.Mathlib.Omega.{arith}
use lib.ListN.{length, take}
use Rattle.text.specs.Lines.{LineEnds, line_of}
use Rattle.replies.specs.Printed.{Replies, none, more}
use Rattle.replies.specs.working.Buffer.{Replied}

-- The replies so far stand in the first bytes of the buffer
pub record Filling (net input : List ℕ) (from : ℕ) (out : List ℕ) (next used : ℕ) : Type 0 where
  pub replies : Replies net input from next (take used out)
  pub room : length out ≡ 65536
  pub inside : used ≤ 65536
  pub begun : ((next ≡ from) × (used ≡ 0)) ⊎ (from < next)

module _ {net input : List ℕ} {from : ℕ} where
  pub filling-start : {out : List ℕ} → length out ≡ 65536 → Filling net input from out from 0
  filling-start e = record { replies = none; room = e; inside = omega arith; begun = inl (refl, refl) }

  module _ {out : List ℕ} {next used : ℕ} (held : Filling net input from out next used) where
    not_back : from ≤ next
    not_back = ⊎_elim (λ z. omega (arith, z.0)) (λ z. omega (arith, z)) held.begun

    -- one reply more
    pub filling-more :
        {after : List ℕ} {end used' : ℕ} →
        next < length input → used ≤ 53248 → LineEnds input next end → Replied net (line_of input next end) out used after used' →
        Filling net input from after (end + 1) used'
    filling-more {after} {end} {used'} left roomy ends replied =
        record {
          replies = rw (add-one end, replied.put.holds) (more held.replies left ends replied.is);
          room = replied.put.one_length ∙ held.room;
          inside = omega (arith, replied.put.ends, replied.short);
          begun = inr (omega (arith, not_back, ends.forward));
        }
