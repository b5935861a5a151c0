-- What the functions that find the bytes to show tell their callers.
use Rattle.std.specs.Prelude.{◌≡◌, Bool, true, false, List, ℕ, ◌≤◌, length, Option, MatchOption}
use Rattle.paths.specs.Forest.{Above}
use Rattle.forest.specs.LabelFile.{parents_of, list_end}
use Rattle.stored.specs.Stored.{list_place}
use Rattle.files.specs.declared.show.Span.{Span}
use Rattle.files.specs.Shown.{Shows}

-- r says whether u is a proper ancestor of v
pub record AboveTested (labels : List ℕ) (u v : ℕ) (r : Bool) : Type 0 where
  pub yes! : r ≡ true → Above (parents_of labels) u v
  pub no! : r ≡ false → Above (parents_of labels) u v → ⊥

-- These bytes are the list that is handed out, and stand in the file
pub record ListSpan (labels : List ℕ) (v u : ℕ) (span : Span) : Type 0 where
  pub shows : Shows labels v u
  pub from : span.start ≡ list_place labels v u
  pub to : span.end ≡ list_end labels (list_place labels v u)
  pub rises : span.start ≤ span.end
  pub inside : span.end ≤ length labels

-- The bytes to hand out, if there are any
abbrev pub SpanFound : List ℕ → ℕ → ℕ → Option Span → Type 0
SpanFound labels v u r = MatchOption r (Shows labels v u → ⊥) (ListSpan labels v u)
