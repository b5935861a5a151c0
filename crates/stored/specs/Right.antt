-- When labels are right (SCOPE 2.9, 4.4).
use Rattle.std.specs.Prelude.{List, ℕ}
use Rattle.paths.specs.TradeOff.{IsTradeOff}
use Rattle.paths.specs.Forest.{Above}
use Rattle.network.specs.NetworkFile.{network_of}
use Rattle.forest.specs.LabelFile.{parents_of}
use Rattle.stored.specs.Stored.{stored}

-- Every stored list is the trade-off list of its junction and that junction's proper ancestor
pub record EveryListRight (net labels : List ℕ) : Type 0 where
  pub right : {v u : ℕ} → Above (parents_of labels) u v → IsTradeOff (network_of net) v u (stored labels v u)
