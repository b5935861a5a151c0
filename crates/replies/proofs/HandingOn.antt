-- The ways through what is handed on: nothing yet, one filled buffer more, all replies; the first line alone, or with the replies.
-- At the end: no second count meets the statement of what is handed on.
use mathlib.Core.Path.{◌≡◌, sym, ap, ◌∙◌}
use mathlib.Core.List.{List, [], ◌++◌}
use Prim.Native.Nat.{ℕ, ◌+◌, ◌*◌, ◌≤◌, ◌<◌}
use native.Mathlib.Omega.{arith}
use lib.ListN.{length, take, length-append}
use lib.Seq.{length-take-le}
use Rattle.replies.specs.Printed.{Replies, none, more}
use Rattle.replies.specs.HandedOn.{RepliesHandedOn, PrintedHandedOn}
use Rattle.replies.specs.working.Buffer.{FirstLine, FilledTo, FirstBytes}
use Rattle.replies.proofs.PrintedParts.{buffer_then, refused-printed, answered-printed}
use Rattle.replies.proofs.RepliesUnique.{printed_unique}

-- ---- The replies

-- the replies to the lines before byte `next` are handed on
pub record HandingOn (net input : List ℕ) (before : ℕ) (out : List ℕ) (next total : ℕ) : Type 0 where
  pub bytes : List ℕ
  pub replies : Replies net input 0 next bytes
  pub counted : total ≡ before + length bytes
  pub near : next ≤ length input + 1
  pub few : total ≤ 65536 + 65536 * next
  pub places : length out ≡ 65536

-- the next line starts at most behind the input's end
near_end : {net input : List ℕ} {from next : ℕ} {bytes : List ℕ} → Replies net input from next bytes → from ≤ length input + 1 → next ≤ length input + 1
near_end none h = h
near_end (more so_far left ends reply) h = omega (arith, ends.inside)

module _ {net input : List ℕ} {before : ℕ} where
  pub handing_start : {out : List ℕ} {next total : ℕ} → next ≡ 0 → total ≡ before → before ≤ 65536 → length out ≡ 65536 → HandingOn net input before out next total
  handing_start {out} {next} {total} first none_yet small e =
      record { bytes = []; replies = rw first none; counted = omega arith; near = omega arith; few = omega arith; places = e }

  module _ {out : List ℕ} {next total : ℕ} (held : HandingOn net input before out next total) where
    -- one filled buffer more
    pub handing_more :
        {after : List ℕ} {end used total' : ℕ} →
        next < length input → FilledTo net input next after end used → total' ≡ total + used → HandingOn net input before after end total'
    handing_more {after} {end} {used} {total'} left filled counted =
        record {
          bytes = held.bytes ++ take used after;
          replies = buffer_then held.replies filled;
          counted = omega (arith, held.counted, length-take-le used after filled.inside, length-append held.bytes (take used after));
          near = near_end filled.replies (omega arith);
          few = omega (arith, held.few, filled.places, filled.inside, filled.onward left);
          places = filled.places;
        }

    -- all replies
    pub handed_all : length input ≤ next → RepliesHandedOn net input before total
    handed_all ended = record { next = next; bytes = held.bytes; replies = held.replies; all = ended; counted = held.counted }

-- ---- The whole

module _ {net labels input depths tables out : List ℕ} {number used first : ℕ} (line : FirstLine net labels depths tables out number used) where
  -- a refusal is all that is handed on
  pub refusal_handed : first ≡ used → (number ≡ 0 → ⊥) → PrintedHandedOn net labels input first
  refusal_handed counted some =
      record { bytes = take used out; printed = refused-printed line some; counted = omega (arith, length-take-le used out line.inside) }

  -- the heading, then the replies to what was read
  pub answers_handed :
      {text places : List ℕ} {read total : ℕ} →
      first ≡ used → number ≡ 0 → FirstBytes places read text → input ≡ take read places → RepliesHandedOn net text first total →
      PrintedHandedOn net labels input total
  answers_handed {text} counted accepted was_read is handed =
      let same : text ≡ input = was_read.is ∙ sym is in
      record {
        bytes = take used out ++ handed.bytes;
        printed = answered-printed line accepted (rw same at handed.replies) (omega (arith, handed.all, ap length same));
        counted = omega (arith, handed.counted, length-take-le used out line.inside, length-append (take used out) handed.bytes);
      }

-- No second count meets the statement of what is handed on
pub handed_on_unique : {net labels input : List ℕ} {total total' : ℕ} → PrintedHandedOn net labels input total → PrintedHandedOn net labels input total' → total ≡ total'
handed_on_unique p q = p.counted ∙ ap length (printed_unique p.printed q.printed) ∙ sym q.counted
