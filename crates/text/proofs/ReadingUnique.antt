-- A line ends at one byte, a line says one query, and nothing else can be read of it.
use mathlib.Core.Path.{◌≡◌, sym, ◌∙◌}
use mathlib.Core.List.{List}
use Prim.Native.Nat.{ℕ, ◌<◌}
use native.Mathlib.Omega.{arith}
use lib.ListN.{length}
use Rattle.text.specs.Lines.{LineEnds}
use Rattle.text.specs.Queries.{IsQuery}
use Rattle.text.specs.working.Reading.{query, bad}
use Rattle.text.specs.working.Reading.{QueryRead}
use Rattle.text.specs.working.Reading.{QueryAt}
use Rattle.std.specs.declared.option.Option.{Option}
use Rattle.text.specs.declared.Query.{Query}
use Rattle.text.proofs.LineParts.{line-whole}
use Rattle.text.proofs.NumberSteps.{SameNumber, number_unique}
use Rattle.text.proofs.QuerySteps.{query_at}

module _ {input : List ℕ} {start : ℕ} where
  no_later : {e e' : ℕ} → LineEnds input start e → LineEnds input start e' → e < e' → ⊥
  no_later {e} p q h = q.no_newline e p.forward h (p.newline (omega (arith, q.inside)))

  -- No second end meets the statement of a line's end
  pub line_end_unique : {e e' : ℕ} → LineEnds input start e → LineEnds input start e' → e ≡ e'
  line_end_unique p q = omega (arith, no_later p q, no_later q p)

pub record SameQuery (s t limit s' t' limit' : ℕ) : Type 0 where
  pub same_s : s ≡ s'
  pub same_t : t ≡ t'
  pub same-limit : limit ≡ limit'

module _ {input : List ℕ} {start end : ℕ} where
  places_unique : {s t limit s' t' limit' : ℕ} → QueryAt input start end s t limit → QueryAt input start end s' t' limit' → SameQuery s t limit s' t' limit'
  places_unique {s} {t} {limit} {s'} {t'} {limit'} p q =
      record { same_s = one.one_number; same_t = two.one_number; same-limit = (number_unique (rw two.one_end at p.third) q.third).one_number }
    where
      one : SameNumber s p.after_s s' q.after_s
      one = number_unique p.first q.first

      two : SameNumber t p.after_t t' q.after_t
      two = number_unique (rw one.one_end at p.second) q.second

module _ {line : List ℕ} where
  -- the line as the whole of an input
  whole_at : {s t limit : ℕ} → IsQuery line s t limit → QueryAt line 0 (length line) s t limit
  whole_at q = query_at (omega arith) (omega arith) (rw line-whole q)

  -- A line says at most one query
  pub query_unique : {s t limit s' t' limit' : ℕ} → IsQuery line s t limit → IsQuery line s' t' limit' → SameQuery s t limit s' t' limit'
  query_unique p q = places_unique (whole_at p) (whole_at q)

  -- Nothing else can be read of a line
  pub query_read_unique : {r r' : Option Query} → QueryRead line r → QueryRead line r' → r ≡ r'
  query_read_unique (query s t limit p e) (query s' t' limit' q f) = let same = query_unique p q in cc (same.same_s, same.same_t, same.same-limit)
  query_read_unique (query s t limit p e) (bad n f) = absurd (n s t limit p)
  query_read_unique (bad n e) (query s t limit p f) = absurd (n s t limit p)
  query_read_unique (bad n e) (bad m f) = e ∙ sym f
