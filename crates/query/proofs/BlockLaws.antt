-- What the block of a junction tells. In this order: who stands in it; depths.
use mathlib.Core.Path.{◌≡◌}
use mathlib.Core.List.{List}
use Prim.Native.Nat.{ℕ, ◌<◌}
use Rattle.paths.specs.Forest.{Above, Ancestor}
use Rattle.network.specs.NetworkFile.{junctions_of}
use Rattle.forest.specs.LabelFile.{parents_of}
use Rattle.forest.specs.Forest.{depth_of}
use Rattle.forest.proofs.Forest.{above_shallower}
use Rattle.preorder.specs.working.Numbered.{Numbered}
use Rattle.stored.specs.working.Formed.{Formed}
use Rattle.query.specs.working.Blocks.{InBlock}
use Rattle.query.proofs.WholeAnswers.{proper}

-- ---- Who stands in it

module _ {labels tables : List ℕ} (numbered : Numbered labels tables) {u v : ℕ} (u-on-map : u < junctions_of labels) (v-on-map : v < junctions_of labels) where
  -- another junction in it stands below
  pub block_above : InBlock tables u v → (u ≡ v → ⊥) → Above (parents_of labels) u v
  block_above in-it apart = proper apart (numbered.block_below u v u-on-map v-on-map in-it.not_before in-it.not_behind)

  pub outside_block : (InBlock tables u v → ⊥) → Ancestor (parents_of labels) u v → ⊥
  outside_block outside up =
      let in-it = numbered.in_block u v u-on-map v-on-map up in
      outside (record { not_before = in-it.0; not_behind = in-it.1 })

-- ---- Depths

pub above-deeper : {labels : List ℕ} {u v : ℕ} → Formed labels → Above (parents_of labels) u v → depth_of labels u < depth_of labels v
above-deeper {labels} formed above = above_shallower labels formed.parents.ends above
