-- What number 0 gives: both ends are on the map, and the pair is the best under the limit, so no path's pair beats it.
use mathlib.Core.Path.{◌≡◌}
use mathlib.Core.List.{List}
use Prim.Native.Nat.{ℕ, ◌<◌}
use native.Mathlib.Omega.{arith}
use Rattle.std.specs.Prelude.{Result, Ok}
use Rattle.paths.specs.declared.pair.Pair.{Pair}
use Rattle.paths.specs.Weights.{pair}
use Rattle.paths.specs.TradeOff.{Skyline}
use Rattle.paths.specs.Answer.{Best}
use Rattle.paths.proofs.Answers.{best_is_skyline}
use Rattle.paths.proofs.Figures.{number_lawful}
use Rattle.network.specs.NetworkFile.{network_of, junctions_of}
use Rattle.query.specs.declared.NoAnswer.{NoAnswer}
use Rattle.query.specs.Answers.{Answers, off_map, not_connected, over_limit, found}
use Rattle.query.specs.working.AnswerValues.{number_of, time_of, energy_of}

module _ (net : List ℕ) (s t limit time energy : ℕ) where
  pub record FoundPair : Type 0 where
    pub start_on_map : s < junctions_of net
    pub finish_on_map : t < junctions_of net
    pub best : Best (network_of net) s t limit (pair time energy)

module _ {net : List ℕ} {s t limit time energy : ℕ} where
  pub answered-zero : Answers net s t limit 0 time energy → FoundPair net s t limit time energy
  answered-zero (off_map off n f g) = absurd (omega arith)
  answered-zero (not_connected h k apart n f g) = absurd (omega arith)
  answered-zero (over_limit h k over n f g) = absurd (omega arith)
  answered-zero (found h k best n) = record { start_on_map = h; finish_on_map = k; best = best }

  -- the pair of an answer is unbeaten
  pub found_skyline : FoundPair net s t limit time energy → Skyline (network_of net) s t (pair time energy)
  found_skyline pair_found = best_is_skyline number_lawful pair_found.best

-- a found pair has number 0
pub found-zero :
    {net : List ℕ} {s t limit : ℕ} {a : Result Pair NoAnswer} {best : Pair} → a ≡ Ok best →
    Answers net s t limit (number_of a) (time_of a) (energy_of a) → Answers net s t limit 0 best.time.0 best.energy.0
found-zero e answers = rw e at answers
