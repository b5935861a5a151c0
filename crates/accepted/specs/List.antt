-- Trade-off list on an accepted set (SCOPE 5.4).
use Rattle.std.specs.Prelude.{◌≡◌, ◌⊎◌, List, ℕ, ◌≤◌, ◌<◌, min, length}
use Rattle.paths.specs.TradeOff.{IsTradeOff}
use Rattle.paths.specs.Answer.{Apart}
use Rattle.refusals.specs.Lent.{filled, ListRefused}
use Rattle.network.specs.NetworkFile.{network_of, junctions_of}
use Rattle.lists.specs.Entries.{Weight, times, energies}

module _ (net : List ℕ) (s t : ℕ) (times_before energies_before : List ℕ) (number count : ℕ) (times_after energies_after : List ℕ) where
  -- What Trade-off list answers on an accepted set (SCOPE 5.4)
  pub data ListAnswered : Type 0 where
    off_map :
        (junctions_of net ≤ s) ⊎ (junctions_of net ≤ t) →
        ListRefused times_before energies_before number count times_after energies_after 21 →
        ListAnswered
    not_connected :
        s < junctions_of net → t < junctions_of net → Apart (network_of net) s t →
        ListRefused times_before energies_before number count times_after energies_after 22 →
        ListAnswered
    no_room :
        {list : List Weight} →
        s < junctions_of net → t < junctions_of net →
        IsTradeOff (network_of net) s t list → 1 ≤ length list → min (length times_before) (length energies_before) < length list →
        ListRefused times_before energies_before number count times_after energies_after 24 →
        ListAnswered
    listed :
        {list : List Weight} →
        s < junctions_of net → t < junctions_of net →
        IsTradeOff (network_of net) s t list → 1 ≤ length list → length list ≤ min (length times_before) (length energies_before) →
        number ≡ 0 → count ≡ length list → times_after ≡ filled times_before (times list) → energies_after ≡ filled energies_before (energies list) →
        ListAnswered
