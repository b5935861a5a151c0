-- Route on an accepted set (SCOPE 5.3).
use Rattle.std.specs.Prelude.{◌≡◌, List, ℕ, ◌≤◌, ◌<◌, length}
use Rattle.paths.specs.Weights.{pair}
use Rattle.paths.specs.Route.{FirstRoute}
use Rattle.refusals.specs.Lent.{filled}
use Rattle.network.specs.NetworkFile.{network_of}
use Rattle.query.specs.Answers.{Answers}

module _ (before : List ℕ) (number time energy count : ℕ) (after : List ℕ) where
  -- Refused by a number: zeros beside it, and no lent place has changed (SCOPE 4.1)
  pub record RouteRefused (by : ℕ) : Type 0 where
    pub number_is : number ≡ by
    pub zero_time : time ≡ 0
    pub zero_energy : energy ≡ 0
    pub no_count : count ≡ 0
    pub stays : after ≡ before

module _ (net : List ℕ) (s t limit : ℕ) (before : List ℕ) (number time energy count : ℕ) (after : List ℕ) where
  -- What Route answers on an accepted set (SCOPE 5.3)
  pub data RouteAnswered : Type 0 where
    no_answer : Answers net s t limit number time energy → (number ≡ 0 → ⊥) → count ≡ 0 → after ≡ before → RouteAnswered
    no_room :
        {best_time best_energy : ℕ} {route : List ℕ} →
        Answers net s t limit 0 best_time best_energy →
        FirstRoute (network_of net) s t (pair best_time best_energy) route →
        length before < length route →
        RouteRefused before number time energy count after 24 →
        RouteAnswered
    routed :
        {route : List ℕ} →
        Answers net s t limit 0 time energy →
        FirstRoute (network_of net) s t (pair time energy) route →
        length route ≤ length before →
        number ≡ 0 → count ≡ length route → after ≡ filled before route →
        RouteAnswered
