-- The cases of a reply: a bad line, a query without an answer, a found pair with its route.
use mathlib.Core.Path.{◌≡◌, refl, sym, ap, ◌∙◌}
use mathlib.Core.List.{List}
use Prim.Native.Nat.{ℕ, zero, suc, ◌≤◌}
use native.Mathlib.Omega.{arith}
use lib.ListN.{length, take}
use Rattle.std.proofs.Common.{Some, None}
use Rattle.std.proofs.lemmas.Option.{none-some}
use Rattle.text.specs.Lines.{line_of}
use Rattle.text.specs.Queries.{IsQuery, BadLine}
use Rattle.text.specs.working.Reading.{query, bad}
use Rattle.text.specs.working.Reading.{QueryRead}
use Rattle.text.specs.declared.Query.{Query}
use Rattle.text.proofs.LineParts.{line-whole}
use Rattle.paths.specs.Weights.{pair}
use Rattle.paths.specs.Network.{Walk, stay, go, junctions}
use Rattle.network.specs.NetworkFile.{network_of}
use Rattle.query.specs.Answers.{Answers}
use Rattle.routes.specs.working.Written.{RouteFound}
use Rattle.replies.specs.Lines.{answer_line, bad_line, hyphened, no_route}
use Rattle.replies.specs.Reply as reply
use Rattle.replies.specs.working.Buffer.{Put, QueryReplied, Replied}

-- ---- A route

-- a walk meets a junction
some_junction : {net : List ℕ} {s t : ℕ} (w : Walk (network_of net) s t) → 1 ≤ length (junctions w)
unfolding junctions
some_junction stay = omega arith
some_junction (go a rest) = omega arith

-- the first places hold a route of one junction at least
pub record RouteSized (count : ℕ) (places : List ℕ) : Type 0 where
  pub some : 1 ≤ count
  pub few : count ≤ length places

pub route-sized : {net : List ℕ} {s t time energy count : ℕ} {places : List ℕ} → RouteFound net s t (pair time energy) count places → RouteSized count places
route-sized {count = zero} route = absurd (omega (arith, some_junction route.first.walk, ap length route.first.meets))
route-sized {count = suc count} route = record { some = omega arith; few = route.room }

-- ---- What stands in the buffer

module _ {net before after : List ℕ} {at end s t limit : ℕ} where
  pub found_replied :
      {time energy count : ℕ} {places : List ℕ} →
      Answers net s t limit 0 time energy → RouteFound net s t (pair time energy) count places →
      Put before at (answer_line s t limit 0 time energy (hyphened (take count places))) 11344 after end → QueryReplied net s t limit before at after end
  found_replied {time} {energy} {count} {places} answers route line =
      record {
        bytes = answer_line s t limit 0 time energy (hyphened (take count places));
        put = line.put;
        is = λ text h. reply.answered s t limit time energy (take count places) h answers route.first refl;
        short = omega (arith, line.short, line.put.ends);
      }

  pub refused_replied :
      {number : ℕ} → Answers net s t limit number 0 0 → (number ≡ 0 → ⊥) → Put before at (answer_line s t limit number 0 0 no_route) 68 after end →
      QueryReplied net s t limit before at after end
  refused_replied {number} answers some line =
      record {
        bytes = answer_line s t limit number 0 0 no_route;
        put = line.put;
        is = λ text h. reply.refused s t limit number h answers some refl;
        short = omega (arith, line.short, line.put.ends);
      }

  pub query_replied : {text : List ℕ} → IsQuery text s t limit → QueryReplied net s t limit before at after end → Replied net text before at after end
  query_replied {text} h replied = record { bytes = replied.bytes; put = replied.put; is = replied.is text h; short = replied.short }

pub bad_replied : {net text before after : List ℕ} {at end : ℕ} → BadLine text → Put before at bad_line 15 after end → Replied net text before at after end
bad_replied h line = record { bytes = bad_line; put = line.put; is = reply.bad h refl; short = omega (arith, line.short, line.put.ends) }

-- ---- What was read, of a line from its first byte to its last

pub query_line : {text : List ℕ} {asked : Query} → QueryRead (line_of text 0 (length text)) (Some asked) → IsQuery text asked.start asked.finish asked.limit
query_line {text} {asked} (query s t limit h e) = let same : asked ≡ record { start = s; finish = t; limit = limit } = cc in rw same (rw line-whole at h)
query_line (bad n e) = absurd (none-some _ (sym e))

pub no_query_line : {text : List ℕ} → QueryRead (line_of text 0 (length text)) None → BadLine text
no_query_line (query s t limit h e) = absurd (none-some _ e)
no_query_line (bad n e) = rw line-whole at n

-- ---- What was answered

-- an answer other than a found pair carries zeros beside its number
pub refusal_replied :
    {net before after : List ℕ} {s t limit at end code number time energy : ℕ} →
    Answers net s t limit number time energy → (time ≡ 0) × (energy ≡ 0) × (number ≡ 0 → ⊥) → code ≡ number →
    Put before at (answer_line s t limit code 0 0 no_route) 68 after end → QueryReplied net s t limit before at after end
refusal_replied answers zeros e line = refused_replied (rw e (rw (zeros.0, zeros.1) at answers)) (λ z. zeros.2 (sym e ∙ z)) line
