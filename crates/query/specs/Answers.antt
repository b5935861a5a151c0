-- The answer to s, t and a limit (SCOPE 5.2, 7.2): a number, a time and an energy.
use Rattle.std.specs.Prelude.{◌≡◌, ◌⊎◌, List, ℕ, ◌≤◌, ◌<◌}
use Rattle.paths.specs.Weights.{pair}
use Rattle.paths.specs.Answer.{Best, Over, Apart}
use Rattle.network.specs.NetworkFile.{network_of, junctions_of}

-- 21 off the map, 22 no path, 23 no path within the limit, each with zeros; or the best answer
pub data Answers (net : List ℕ) (s t C number time energy : ℕ) : Type 0 where
  off_map : (junctions_of net ≤ s) ⊎ (junctions_of net ≤ t) → number ≡ 21 → time ≡ 0 → energy ≡ 0 → Answers net s t C number time energy
  not_connected :
      s < junctions_of net → t < junctions_of net → Apart (network_of net) s t → number ≡ 22 → time ≡ 0 → energy ≡ 0 → Answers net s t C number time energy
  over_limit :
      s < junctions_of net → t < junctions_of net → Over (network_of net) s t C → number ≡ 23 → time ≡ 0 → energy ≡ 0 → Answers net s t C number time energy
  found :
      s < junctions_of net → t < junctions_of net → Best (network_of net) s t C (pair time energy) → number ≡ 0 → Answers net s t C number time energy
