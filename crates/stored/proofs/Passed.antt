-- What follows for a pair of files that passed its form: the parents are a forest, roads run both ways and join related junctions,
-- and each stored list stands whole, in order. In this order: where a stored list stands; the whole pair.
use mathlib.Core.Path.{refl}
use mathlib.Core.List.{List}
use Prim.Native.Nat.{ℕ, ◌+◌, ◌-◌, ◌<◌}
use native.Mathlib.Omega.{arith}
use Rattle.paths.specs.TradeOff.{Ordered}
use Rattle.paths.specs.Forest.{Above, IsForest, RoadsJoinRelated}
use Rattle.paths.proofs.OneLimit.{ordered-rises, ordered_none_beaten}
use Rattle.paths.proofs.TwoWay.{TwoWay}
use Rattle.paths.proofs.LabelTest.{AllOrdered}
use Rattle.network.specs.NetworkFile.{network_of, junctions_of}
use Rattle.network.proofs.Arcs.{two_way}
use Rattle.forest.specs.LabelFile.{parents_of}
use Rattle.forest.specs.Forest.{depth_of}
use Rattle.forest.proofs.Forest.{parents-some, above_shallower, forest, roads_related}
use Rattle.stored.specs.Stored.{lists_before, list_place, stored}
use Rattle.stored.specs.working.Formed.{Formed, ListFits, FilesFit}
use Rattle.stored.specs.working.Scanned.{FoundList}
use Rattle.stored.proofs.Places.{list_number_of_lem, found-fits}
use Rattle.stored.proofs.Lists.{list-ordered}

-- a junction with an ancestor is on the map
pub below_on_map : (labels : List ℕ) {u v : ℕ} → Above (parents_of labels) u v → v < junctions_of labels
below_on_map labels (Above.parent_is e) = (parents-some labels e).on_map
below_on_map labels (Above.parent_has e above) = (parents-some labels e).on_map

module _ {labels : List ℕ} (formed : Formed labels) where
  -- the list of a junction and its proper ancestor is one of the file's lists
  pub stored-stands : {u v : ℕ} → Above (parents_of labels) u v → FoundList labels v u (list_place labels v u)
  unfolding list_place
  stored-stands {u} {v} above =
      record { place = refl; number = lists_before labels v + (depth_of labels v - depth_of labels u - 1); below = list_number_of_lem labels (below_on_map labels above) deeper; stands = refl }
    where
      deeper : depth_of labels v - depth_of labels u - 1 < depth_of labels v
      deeper = omega (arith, above_shallower labels formed.parents.ends above)

  pub stored-fits : {u v : ℕ} → Above (parents_of labels) u v → ListFits labels (list_place labels v u)
  stored-fits above = found-fits formed (stored-stands above)

  pub stored-ordered : {u v : ℕ} → Above (parents_of labels) u v → Ordered (stored labels v u)
  unfolding stored
  stored-ordered above = list-ordered (stored-fits above)

module _ {net labels : List ℕ} (beside : FilesFit net labels) where
  pub roads_two_way : TwoWay (network_of net)
  roads_two_way = record { back = two_way }

  pub parents-forest : IsForest (parents_of labels)
  parents-forest = forest beside.formed.parents

  pub roads_joined : RoadsJoinRelated (network_of net) (parents_of labels)
  roads_joined = roads_related beside.formed.parents beside.network beside.one_map beside.joins

  pub lists-ordered : AllOrdered (network_of net) (parents_of labels) (stored labels)
  lists-ordered =
      record {
        rises = λ above. ordered-rises (stored-ordered beside.formed above);
        unbeaten = λ above. ordered_none_beaten (stored-ordered beside.formed above);
      }
