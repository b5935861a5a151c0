-- Where the lists of a level stand: those of one junction follow each other from the parent upward.
use mathlib.Core.Path.{◌≡◌, sym, ap, ◌∙◌}
use mathlib.Core.List.{List}
use Prim.Native.Nat.{ℕ, suc, ◌+◌, ◌-◌, ◌<◌}
use native.Mathlib.Omega.{arith}
use Rattle.network.specs.NetworkFile.{junctions_of}
use Rattle.forest.specs.LabelFile.{list_end}
use Rattle.forest.specs.Forest.{depth_of}
use Rattle.stored.specs.Stored.{lists_before, place_of, list_place}
use Rattle.stored.specs.working.Formed.{Formed, ListFits}
use Rattle.stored.proofs.Places.{place-next, list_number_of_lem}
use Rattle.query.specs.working.Levels.{behind}

-- the list for the next ancestor up stands behind
pub level-next : (labels : List ℕ) (v level : ℕ) → level < depth_of labels v → list_end labels (behind labels v (suc level)) ≡ behind labels v level
level-next labels v level h =
    sym (place-next labels (lists_before labels v + (depth_of labels v - suc level))) ∙ ap (place_of labels) (omega arith)

pub level-fits : {labels : List ℕ} {v level : ℕ} → Formed labels → v < junctions_of labels → level < depth_of labels v → ListFits labels (behind labels v (suc level))
level-fits {labels} {v} {level} formed on_map h =
    formed.lists (lists_before labels v + (depth_of labels v - suc level)) (list_number_of_lem labels on_map (omega arith))

-- the list for an ancestor is that of its level
pub level-place : (labels : List ℕ) (v u : ℕ) {level : ℕ} → depth_of labels u ≡ level → list_place labels v u ≡ behind labels v (suc level)
unfolding list_place
level-place labels v u e = ap (λ i. place_of labels (lists_before labels v + i)) (omega arith)
