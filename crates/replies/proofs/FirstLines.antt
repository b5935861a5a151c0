-- The first line: the heading of an accepted set, or the refusal.
use mathlib.Core.Path.{◌≡◌, ◌∙◌}
use mathlib.Core.List.{List}
use Prim.Native.Nat.{ℕ, ◌≤◌}
use native.Mathlib.Omega.{arith}
use lib.ListN.{length}
use Rattle.file_bytes.specs.working.Reads.{Read16}
use Rattle.network.specs.NetworkFile.{junctions_of, roads_of}
use Rattle.forest.specs.LabelFile.{entries_of}
use Rattle.accepted.specs.working.Accepting.{Accepting}
use Rattle.accepted.proofs.Accepted.{ready_for_queries}
use Rattle.replies.specs.Lines.{heading_line, refused_line}
use Rattle.replies.specs.working.Buffer.{Put, FirstLine}

module _ {net labels depths tables : List ℕ} {number : ℕ} (accepting : Accepting net labels number depths tables) where
  -- both headers are there
  pub net_long : number ≡ 0 → 16 ≤ length net
  net_long zero = omega (arith, (ready_for_queries accepting zero).beside.network.whole)

  pub labels-long : number ≡ 0 → 16 ≤ length labels
  labels-long zero = omega (arith, (ready_for_queries accepting zero).beside.formed.parents.inside)

  pub first_refused :
      {before after : List ℕ} {end : ℕ} → (number ≡ 0 → ⊥) → length before ≡ 65536 → Put before 0 (refused_line number) 64 after end →
      FirstLine net labels depths tables after number end
  first_refused some long line =
      record {
        accepting = accepting;
        heading = λ zero. absurd (some zero);
        refusal = λ z. line.put.holds;
        inside = omega (arith, line.short, line.put.one_length);
        places = line.put.one_length ∙ long;
      }

  pub first_heading :
      {before after : List ℕ} {end junctions roads entries : ℕ} → number ≡ 0 → length before ≡ 65536 →
      Read16 (junctions_of net) junctions → roads ≡ roads_of net → entries ≡ entries_of labels → Put before 0 (heading_line junctions roads entries) 64 after end →
      FirstLine net labels depths tables after number end
  first_heading zero long read e f line =
      record {
        accepting = accepting;
        heading = λ z. line.put.holds ∙ (λ i. heading_line (read.is i) (e i) (f i));
        refusal = λ some. absurd (some zero);
        inside = omega (arith, line.short, line.put.one_length);
        places = line.put.one_length ∙ long;
      }
