-- The stored lists of a well-formed pair of files are all right exactly if each agrees with those one road further.
use mathlib.Core.Logic.{◌↔◌}
use mathlib.Core.List.{List}
use Prim.Native.Nat.{ℕ}
use Rattle.paths.proofs.Figures.{number_lawful}
use Rattle.paths.proofs.LabelTest.{AllAgree, AllRight, label_test_exact}
use Rattle.network.specs.NetworkFile.{network_of}
use Rattle.forest.specs.LabelFile.{parents_of}
use Rattle.stored.specs.Stored.{stored}
use Rattle.stored.specs.Right.{EveryListRight}
use Rattle.stored.specs.working.Formed.{FilesFit}
use Rattle.stored.proofs.Passed.{roads_two_way, roads_joined, parents-forest, lists-ordered}

module _ {net labels : List ℕ} (beside : FilesFit net labels) where
  -- the test road by road decides whether every list is right
  pub agreeing_is_right : AllAgree (network_of net) (parents_of labels) (stored labels) ↔ EveryListRight net labels
  agreeing_is_right = (
    λ all. record { right = λ above. (exact.0 all).right above },
    λ every. exact.1 (record { right = λ above. every.right above }),
  )
    where
      exact : AllAgree (network_of net) (parents_of labels) (stored labels) ↔ AllRight (network_of net) (parents_of labels) (stored labels)
      exact = label_test_exact number_lawful (roads_two_way beside) (roads_joined beside) (parents-forest beside) (lists-ordered beside)
