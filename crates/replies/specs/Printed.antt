-- What the program prints, whole (SCOPE 6.3).
use Rattle.std.specs.Prelude.{◌≡◌, List, [], ◌++◌, ℕ, suc, ◌≤◌, ◌<◌, length}
use Rattle.text.specs.Lines.{LineEnds, line_of}
use Rattle.network.specs.NetworkFile.{junctions_of, roads_of}
use Rattle.forest.specs.LabelFile.{entries_of}
use Rattle.accepted.specs.Check.{Checked}
use Rattle.replies.specs.Lines.{heading_line, refused_line}
use Rattle.replies.specs.Reply.{Reply}

-- The lines that start from byte `from` on and before byte `next` print these bytes (SCOPE 6.2, 6.3). A line starts
-- wherever a byte is left, so none behind a last newline.
pub data Replies (net input : List ℕ) (from : ℕ) : ℕ → List ℕ → Type 0 where
  none : Replies net input from from []
  more :
      {next end : ℕ} {bytes reply : List ℕ} →
      Replies net input from next bytes →
      next < length input →
      LineEnds input next end →
      Reply net (line_of input next end) reply →
      Replies net input from (suc end) (bytes ++ reply)

-- Refused files have one line; accepted ones the heading, then a line for each line of the input (SCOPE 6.3)
pub data Printed (net labels input bytes : List ℕ) : Type 0 where
  refused : {number : ℕ} → Checked net labels number → (number ≡ 0 → ⊥) → bytes ≡ refused_line number → Printed net labels input bytes
  answered :
      {next : ℕ} {replies : List ℕ} →
      Checked net labels 0 →
      Replies net input 0 next replies →
      length input ≤ next →
      bytes ≡ heading_line (junctions_of net) (roads_of net) (entries_of labels) ++ replies →
      Printed net labels input bytes
