-- What is left of Route once the best pair is known: its first route, put into the lent places or not.
use Rattle.std.specs.Prelude.{◌≡◌, List, ℕ, ◌≤◌, ◌<◌, length}
use Rattle.paths.specs.Weights.{pair}
use Rattle.paths.specs.Route.{FirstRoute}
use Rattle.refusals.specs.Lent.{filled}
use Rattle.network.specs.NetworkFile.{network_of}
use Rattle.accepted.specs.Route.{RouteRefused}

module _ (net : List ℕ) (s t best_time best_energy : ℕ) (before : List ℕ) (number time energy count : ℕ) (after : List ℕ) where
  -- The first route of a pair in the first of the lent places, or the reason why not
  pub data RoutePut : Type 0 where
    too_long :
        {route : List ℕ} →
        FirstRoute (network_of net) s t (pair best_time best_energy) route → length before < length route →
        RouteRefused before number time energy count after 24 →
        RoutePut
    put :
        {route : List ℕ} →
        FirstRoute (network_of net) s t (pair best_time best_energy) route → length route ≤ length before →
        number ≡ 0 → time ≡ best_time → energy ≡ best_energy → count ≡ length route → after ≡ filled before route →
        RoutePut
