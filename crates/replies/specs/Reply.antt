-- What one query line prints, on an accepted set (SCOPE 6.3).
use Rattle.std.specs.Prelude.{◌≡◌, List, ℕ}
use Rattle.text.specs.Queries.{IsQuery, BadLine}
use Rattle.paths.specs.Weights.{pair}
use Rattle.paths.specs.Route.{FirstRoute}
use Rattle.network.specs.NetworkFile.{network_of}
use Rattle.query.specs.Answers.{Answers}
use Rattle.replies.specs.Lines.{answer_line, bad_line, hyphened, no_route}

-- A bad line's reply, that of a query without an answer, and that of an answered one, with its first route (SCOPE 6.3)
pub data Reply (net line bytes : List ℕ) : Type 0 where
  bad : BadLine line → bytes ≡ bad_line → Reply net line bytes
  refused :
      (s t limit number : ℕ) →
      IsQuery line s t limit →
      Answers net s t limit number 0 0 →
      (number ≡ 0 → ⊥) →
      bytes ≡ answer_line s t limit number 0 0 no_route →
      Reply net line bytes
  answered :
      (s t limit time energy : ℕ) (route : List ℕ) →
      IsQuery line s t limit →
      Answers net s t limit 0 time energy →
      FirstRoute (network_of net) s t (pair time energy) route →
      bytes ≡ answer_line s t limit 0 time energy (hyphened route) →
      Reply net line bytes
