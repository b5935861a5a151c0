-- Chains of parents in a label file, counted in steps (SCOPE 2.4). `proofs/Forest.antt` shows that these are the depths and ancestors of the paths' definitions.
use Rattle.std.specs.Prelude.{Bool, cond, ◌&&◌, ◌||◌, List, ℕ, zero, suc, ◌-◌, leb, ltb, eqb}
use Rattle.refusals.specs.Order.{every}
use Rattle.network.specs.NetworkFile.{junctions_of, road_low, road_high}
use Rattle.forest.specs.LabelFile.{parent_at, no_parent}

-- How many steps lead from v to a root, counted up to `most`
unfoldable pub steps_up : List ℕ → ℕ → ℕ → ℕ
steps_up labels zero v = 0
steps_up labels (suc most) v = cond (eqb (parent_at labels v) no_parent) 0 (suc (steps_up labels most (parent_at labels v)))

-- The depth of v. A chain that has not ended after n steps returns; it has n for a depth.
unfoldable pub depth_of : List ℕ → ℕ → ℕ
depth_of labels v = steps_up labels (junctions_of labels) v

-- The k-th ancestor of v, v itself being its 0th
unfoldable pub ancestor_of : List ℕ → ℕ → ℕ → ℕ
ancestor_of labels v zero = v
ancestor_of labels v (suc k) = ancestor_of labels (parent_at labels v) k

-- 15: a parent is a junction or none, and no chain comes back
unfoldable pub parent_fits : List ℕ → ℕ → Bool
parent_fits labels v = ltb (parent_at labels v) (junctions_of labels) || eqb (parent_at labels v) no_parent

unfoldable pub chain_ends : List ℕ → ℕ → Bool
chain_ends labels v = ltb (depth_of labels v) (junctions_of labels)

abbrev pub parents_pass : List ℕ → Bool
parents_pass labels = every (parent_fits labels) (junctions_of labels) && every (chain_ends labels) (junctions_of labels)

-- u is v or an ancestor of v
unfoldable pub is_ancestor : List ℕ → ℕ → ℕ → Bool
is_ancestor labels u v = leb (depth_of labels u) (depth_of labels v) && eqb (ancestor_of labels v (depth_of labels v - depth_of labels u)) u

-- 16: the ends of road k of the network are ancestor and descendant
unfoldable pub road_joins : List ℕ → List ℕ → ℕ → Bool
road_joins net labels k = is_ancestor labels (road_low net k) (road_high net k) || is_ancestor labels (road_high net k) (road_low net k)
