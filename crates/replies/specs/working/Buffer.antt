-- What the working functions behind a reply leave in the buffer.
use Rattle.std.specs.Prelude.{◌≡◌, List, [], ◌∷◌, ◌++◌, ℕ, ◌+◌, ◌≤◌, ◌<◌, length, take}
use Rattle.text.specs.Numbers.{numeral, space_byte}
use Rattle.text.specs.Queries.{IsQuery}
use Rattle.text.specs.working.Writing.{Appended}
use Rattle.network.specs.NetworkFile.{junctions_of, roads_of}
use Rattle.forest.specs.LabelFile.{entries_of}
use Rattle.accepted.specs.working.Accepting.{Accepting}
use Rattle.replies.specs.Lines.{◌␣◌, heading_line, refused_line}
use Rattle.replies.specs.Reply.{Reply}
use Rattle.replies.specs.Printed.{Replies}

-- Text behind the first `at` bytes, of at most so many bytes
pub record Put (before : List ℕ) (at : ℕ) (bytes : List ℕ) (most : ℕ) (after : List ℕ) (end : ℕ) : Type 0 where
  pub put : Appended before at bytes after end
  pub short : end ≤ at + most

-- A number and the space behind it
abbrev pub word : ℕ → List ℕ
word number = numeral number ++ (space_byte ∷ [])

-- The first six words of a line, each with its space
unfoldable pub answer_words : ℕ → ℕ → ℕ → ℕ → ℕ → ℕ → List ℕ
answer_words s t limit number time energy = numeral s ␣ numeral t ␣ numeral limit ␣ numeral number ␣ numeral time ␣ numeral energy ␣ []

-- A line's reply stands in the buffer
pub record Replied (net line before : List ℕ) (at : ℕ) (after : List ℕ) (end : ℕ) : Type 0 where
  pub bytes : List ℕ
  pub put : Appended before at bytes after end
  pub is : Reply net line bytes
  pub short : length bytes ≤ 11344

-- The line of a query stands in the buffer, whatever its bytes were
pub record QueryReplied (net : List ℕ) (s t limit : ℕ) (before : List ℕ) (at : ℕ) (after : List ℕ) (end : ℕ) : Type 0 where
  pub bytes : List ℕ
  pub put : Appended before at bytes after end
  pub is : (line : List ℕ) → IsQuery line s t limit → Reply net line bytes
  pub short : length bytes ≤ 11344

-- The buffer holds the replies to the lines from byte `from` on and before byte `next`, and at least one if there is a line
pub record FilledTo (net input : List ℕ) (from : ℕ) (out : List ℕ) (next used : ℕ) : Type 0 where
  pub replies : Replies net input from next (take used out)
  pub inside : used ≤ length out
  pub onward : from < length input → from < next
  pub places : length out ≡ 65536

-- The part is the first bytes of a buffer
pub record FirstBytes (buffer : List ℕ) (count : ℕ) (part : List ℕ) : Type 0 where
  pub counted : length part ≡ count
  pub is : part ≡ take count buffer

-- The check's outcome and the first line: the heading of an accepted set, or the refusal
pub record FirstLine (net labels : List ℕ) (depths tables out : List ℕ) (number used : ℕ) : Type 0 where
  pub accepting : Accepting net labels number depths tables
  pub heading : number ≡ 0 → take used out ≡ heading_line (junctions_of net) (roads_of net) (entries_of labels)
  pub refusal : (number ≡ 0 → ⊥) → take used out ≡ refused_line number
  pub inside : used ≤ length out
  pub places : length out ≡ 65536
