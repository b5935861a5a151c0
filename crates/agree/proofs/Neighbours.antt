-- The list of a neighbour: it is 𝟘 alone at the ancestor itself, else it is stored with the deeper of the two, and its entries are what is left.
-- In this order: neighbours are related; what is left; the list that is stored.
use mathlib.Core.Path.{◌≡◌, sym, ◌∙◌}
use mathlib.Core.Logic.{inl, inr}
use mathlib.Core.List.Memᴰ
use mathlib.Core.List.{List, [], ◌∷◌, Memᴰ}
use Prim.Native.Nat.{ℕ, ◌<◌}
use native.Mathlib.Omega.{arith}
use lib.ListN.{get_or}
use Rattle.paths.specs.Weights.{pair}
use Rattle.paths.specs.Forest.{Parents, Above, Related}
use Rattle.paths.proofs.Forest.{above_trans, above_irrefl, ancestor_trans, ancestors_related}
use Rattle.paths.specs.LocalTest.{arrived, below, above}
use Rattle.lists.specs.Entries.{Weight}
use Rattle.network.specs.NetworkFile.{junctions_of, road_time, road_energy, RoadArc}
use Rattle.network.specs.working.Roads.{other_end}
use Rattle.network.proofs.RoadsAt.{touches_arc, other_on_map}
use Rattle.forest.specs.LabelFile.{parents_of}
use Rattle.forest.proofs.Forest.{above_at}
use Rattle.stored.specs.Stored.{list_at, stored}
use Rattle.stored.specs.working.Formed.{ListFits, FilesFit}
use Rattle.agree.specs.working.Agreeing.{RoadInput, Left}
use Rattle.stored.proofs.Passed.{stored-fits, parents-forest, roads_joined}

-- ---- Neighbours are related

-- a neighbour of a junction is related to each ancestor of that junction
neighbour_related : {parent : Parents} {v u w : ℕ} → Above parent u v → Related parent v w → Related parent w u
neighbour_related h (inl k) = inr (ancestor_trans (inr h) k)
neighbour_related h (inr k) = ancestors_related k (inr h)

module _ {net labels : List ℕ} (beside : FilesFit net labels) where
  -- no junction is above itself, nor two above each other
  not_same : {x y : ℕ} → x ≡ y → Above (parents_of labels) x y → ⊥
  not_same e h = above_irrefl (parents-forest beside) (rw e at h)

  above_one_way : {x y : ℕ} → Above (parents_of labels) x y → Above (parents_of labels) y x → ⊥
  above_one_way h k = above_irrefl (parents-forest beside) (above_trans h k)

-- ---- What is left

-- The entries of a list are what is left from w to u
pub record Leaves (net labels : List ℕ) (w u : ℕ) (list : List Weight) : Type 0 where
  pub entry-left : {q : Weight} → Memᴰ q list → Left net labels w u q
  pub left-entry : {q : Weight} → Left net labels w u q → Memᴰ q list

module _ {net labels : List ℕ} (beside : FilesFit net labels) {w u : ℕ} where
  -- at the ancestor itself nothing is left
  pub leaves_nothing : w ≡ u → Leaves net labels w u (pair 0 0 ∷ [])
  leaves_nothing e = record { entry-left = λ m. arrived e (Memᴰ.eq_of_singleton m); left-entry = λ left. held left }
    where
      held : {q : Weight} → Left net labels w u q → Memᴰ q (pair 0 0 ∷ [])
      held (arrived f none) = Memᴰ.head none
      held (below k m) = absurd (not_same beside (sym e) k)
      held (above k m) = absurd (not_same beside e k)

  -- below it the neighbour has the list
  leaves-below : Above (parents_of labels) u w → Leaves net labels w u (stored labels w u)
  leaves-below k = record { entry-left = λ m. below k m; left-entry = λ left. held left }
    where
      held : {q : Weight} → Left net labels w u q → Memᴰ q (stored labels w u)
      held (arrived f none) = absurd (not_same beside (sym f) k)
      held (below l m) = m
      held (above l m) = absurd (above_one_way beside k l)

  -- above it the ancestor has the list
  leaves-above : Above (parents_of labels) w u → Leaves net labels w u (stored labels u w)
  leaves-above k = record { entry-left = λ m. above k m; left-entry = λ left. held left }
    where
      held : {q : Weight} → Left net labels w u q → Memᴰ q (stored labels u w)
      held (arrived f none) = absurd (not_same beside f k)
      held (below l m) = absurd (above_one_way beside k l)
      held (above l m) = m

-- ---- The list that is stored

-- The list at a byte fits, and is what is left from w to u
pub record RestAt (net labels : List ℕ) (w u at : ℕ) : Type 0 where
  pub fits : ListFits labels at
  pub leaves : Leaves net labels w u (list_at labels at)

module _ {net labels places : List ℕ} {v u k w : ℕ} (input : RoadInput net labels places v u k) (leads-to : w ≡ other_end net v k) where
  -- the road as an arc
  pub the_arc : RoadArc net v w k (pair (road_time net k) (road_energy net k))
  the_arc = rw leads-to (touches_arc input.beside.network v k input.stands input.here)

  -- the neighbour is a junction
  on_map : w < junctions_of labels
  on_map = omega (arith, leads-to, other_on_map input.beside.network v k input.stands input.here, input.beside.one_map)

  -- and has a place in the table, as the ancestor has
  pub neighbour_index : (w < 1024) × (u < 1024)
  neighbour_index =
      omega (arith, on_map, (above_at input.beside.formed.parents input.above).on_map, input.beside.formed.parents.few_junctions)

  -- where it is not the ancestor itself, the table has the byte of the list
  pub neighbour_rest : {at : ℕ} → (w ≡ u → ⊥) → at ≡ get_or places w 0 → RestAt net labels w u at
  unfolding stored
  neighbour_rest {at} apart at-is = pick (neighbour_related input.above ((roads_joined input.beside).joined the_arc))
    where
      pick : Related (parents_of labels) w u → RestAt net labels w u at
      pick (inl (inl e)) = absurd (apart e)
      pick (inl (inr k)) =
          rw (at-is ∙ input.places_for.above w on_map k) (record { fits = stored-fits input.beside.formed k; leaves = leaves-above input.beside k })
      pick (inr (inl e)) = absurd (apart (sym e))
      pick (inr (inr k)) =
          rw (at-is ∙ input.places_for.below w on_map k) (record { fits = stored-fits input.beside.formed k; leaves = leaves-below input.beside k })
