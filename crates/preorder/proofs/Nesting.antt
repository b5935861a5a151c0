-- Blocks inside the parents' blocks, those of one parent apart, make a numbering.
-- In this order: blocks that nest; blocks of one depth are apart; a block holds exactly the descendants; the numbering.
use mathlib.Core.Path.{◌≡◌, refl, sym, ap, ◌∙◌}
use mathlib.Core.Logic.{inl, inr, ⊎_elim}
use mathlib.Core.List.{List}
use Prim.Native.Nat.{ℕ, zero, suc, ◌+◌, ◌-◌, ◌*◌, ◌≤◌, ◌<◌}
use native.Mathlib.Decide.{ℕ_discrete, dec_lt}
use native.Mathlib.Omega.{arith}
use lib.ListN.{get_or}
use Rattle.paths.specs.Forest.{Above, parent_is, parent_has, Ancestor}
use Rattle.network.specs.NetworkFile.{junctions_of}
use Rattle.forest.specs.LabelFile.{parent_at, parents_of}
use Rattle.forest.specs.Forest.{depth_of, ancestor_of}
use Rattle.forest.specs.working.Fits.{ParentsFit}
use Rattle.forest.proofs.Chains.{IsRoot, root?, depth-none, depth-some, Climbed, one_up, climbed}
use Rattle.forest.proofs.Forest.{parents-some, ancestor_is_up, above_is_up}
use Rattle.preorder.specs.working.Numbered.{Numbered}
use Rattle.preorder.specs.working.Blocks.{Apart, AllMerged, Placed, Spread, Listed, CopiedBelow}
use Rattle.preorder.proofs.Onto.{Hit, onto}

-- ---- Blocks that nest

-- The block of v lies in the block of u, behind its first place
record Inside (spots sizes : List ℕ) (u v : ℕ) : Type 0 where
  behind : get_or spots u 0 < get_or spots v 0
  within : get_or spots v 0 + get_or sizes v 0 ≤ get_or spots u 0 + get_or sizes u 0

-- Every block lies in its parent's, a root's below n, and those of one parent are apart
record Nested (labels spots sizes : List ℕ) : Type 0 where
  itself : (v : ℕ) → v < junctions_of labels → 1 ≤ get_or sizes v 0
  of_root : (v : ℕ) → v < junctions_of labels → IsRoot labels v → get_or spots v 0 + get_or sizes v 0 ≤ junctions_of labels
  of_child : (v : ℕ) → v < junctions_of labels → (IsRoot labels v → ⊥) → Inside spots sizes (parent_at labels v) v
  apart : (u v : ℕ) → u < junctions_of labels → v < junctions_of labels → parent_at labels u ≡ parent_at labels v → (u ≡ v → ⊥) → Apart spots sizes u v

-- blocks at the spots that the offsets lead to nest
nested : {labels spots sizes offsets : List ℕ} → ParentsFit labels → AllMerged labels sizes offsets → Placed labels offsets spots (junctions_of labels) 0 → Nested labels spots sizes
nested {labels} {spots} {sizes} {offsets} fit merged placed =
    record {
      itself = merged.itself;
      of_root = λ v h root. omega (arith, placed.of_root v h (high v h) root, merged.of_root v h (deep v h) root);
      of_child = λ v h child. record {
        behind = omega (arith, placed.of_child v h (high v h) child, merged.of_child v h (deep v h) child);
        within = omega (arith, placed.of_child v h (high v h) child, merged.of_child v h (deep v h) child);
      };
      apart = λ u v h k same other. pick u v h k same other (root? labels u) (merged.apart u v h k (deep u h) (deep v k) same other);
    }
  where
    -- every junction is merged and placed
    deep : (v : ℕ) → v < junctions_of labels → 1024 * 0 + v < 1024 * depth_of labels v + 1024
    deep v h = omega (arith, fit.few_junctions)

    high : (v : ℕ) → v < junctions_of labels → 1024 * depth_of labels v + v < 1024 * junctions_of labels + 0
    high v h = omega (arith, fit.few_junctions, fit.ends v h)

    -- siblings start behind the same place
    moved :
        (x u v : ℕ) →
        get_or spots u 0 ≡ x + get_or offsets u 0 →
        get_or spots v 0 ≡ x + get_or offsets v 0 →
        Apart offsets sizes u v →
        Apart spots sizes u v
    moved x u v e f = ⊎_elim (λ h. inl (omega arith)) (λ h. inr (omega arith))

    pick :
        (u v : ℕ) →
        u < junctions_of labels →
        v < junctions_of labels →
        parent_at labels u ≡ parent_at labels v →
        (u ≡ v → ⊥) →
        Dec (IsRoot labels u) →
        Apart offsets sizes u v →
        Apart spots sizes u v
    pick u v h k same other (yes root) =
        moved 0 u v (omega (arith, placed.of_root u h (high u h) root)) (omega (arith, placed.of_root v k (high v k) (sym same ∙ root)))
    pick u v h k same other (no child) =
        moved
        (get_or spots (parent_at labels u) 0)
        u
        v
        (placed.of_child u h (high u h) child)
        (rw same (placed.of_child v k (high v k) (λ root. child (same ∙ root))))

module _ {labels spots sizes : List ℕ} (fit : ParentsFit labels) (nest : Nested labels spots sizes) where
  -- an ancestor's block holds the blocks below it
  above-inside : {u v : ℕ} → Above (parents_of labels) u v → Inside spots sizes u v
  above-inside {u} (parent_is {v} e) =
      let h = parents-some labels e in rw h.parent at (nest.of_child v h.on_map h.no_root)
  above-inside {u} (parent_has {v} {w} e above) =
      let h = parents-some labels e in
      let near : Inside spots sizes w v = rw h.parent at (nest.of_child v h.on_map h.no_root) in
      let far = above-inside above in
      record { behind = omega (arith, near.behind, far.behind); within = omega (arith, near.within, far.within) }

  -- ---- Blocks of one depth are apart

  level-apart : (d u v : ℕ) → u < junctions_of labels → v < junctions_of labels → depth_of labels u ≡ d → depth_of labels v ≡ d → (u ≡ v → ⊥) → Apart spots sizes u v
  level-apart zero u v h k e f other =
      nest.apart u v h k (depth-none labels u e (fit.ends u h) ∙ sym (depth-none labels v f (fit.ends v k))) other
  level-apart (suc d) u v h k e f other =
      pick
      (ℕ_discrete (parent_at labels u) (parent_at labels v))
      (level-apart
      d
      (parent_at labels u)
      (parent_at labels v)
      up_u.on_map
      up_v.on_map
      (omega (arith, up_u.depth))
      (omega (arith, up_v.depth)))
    where
      u_child : IsRoot labels u → ⊥
      u_child = depth-some labels u (omega arith)

      v_child : IsRoot labels v → ⊥
      v_child = depth-some labels v (omega arith)

      up_u : Climbed labels u 1 (parent_at labels u)
      up_u = one_up fit u h u_child

      up_v : Climbed labels v 1 (parent_at labels v)
      up_v = one_up fit v k v_child

      pick :
          Dec (parent_at labels u ≡ parent_at labels v) →
          ((parent_at labels u ≡ parent_at labels v → ⊥) → Apart spots sizes (parent_at labels u) (parent_at labels v)) →
          Apart spots sizes u v
      pick (yes same) further = nest.apart u v h k same other
      pick (no away) further =
          let in-u = nest.of_child u h u_child in
          let in-v = nest.of_child v k v_child in
          ⊎_elim
          (λ z. inl (omega (arith, in-u.within, in-v.behind)))
          (λ z. inr (omega (arith, in-v.within, in-u.behind)))
          (further away)

  -- ---- A block holds exactly the descendants

  -- Place x lies in the block of u
  abbrev Holds : ℕ → ℕ → Type 0
  Holds u x = (get_or spots u 0 ≤ x) × (x < get_or spots u 0 + get_or sizes u 0)

  -- an ancestor's block holds the spot of v
  in_block : (u v : ℕ) → v < junctions_of labels → Ancestor (parents_of labels) u v → Holds u (get_or spots v 0)
  in_block u v h (inl e) = rw e (omega arith, omega (arith, nest.itself v h))
  in_block u v h (inr above) =
      let z = above-inside above in (omega (arith, z.behind), omega (arith, z.within, nest.itself v h))

  -- of one depth only one block holds it
  one_holds : (u v x : ℕ) → u < junctions_of labels → v < junctions_of labels → depth_of labels u ≡ depth_of labels v → Holds u x → Holds v x → u ≡ v
  one_holds u v x h k level p q = pick (ℕ_discrete u v)
    where
      pick : Dec (u ≡ v) → u ≡ v
      pick (yes same) = same
      pick (no other) =
          absurd (⊎_elim (λ z. omega arith) (λ z. omega arith) (level-apart (depth_of labels v) u v h k level refl other))

  -- so the one that holds the spot of v is an ancestor: it is no deeper, as what holds the spot there would start behind v
  block_below : (u v : ℕ) → u < junctions_of labels → v < junctions_of labels → Holds u (get_or spots v 0) → Ancestor (parents_of labels) u v
  block_below u v h k held = pick (dec_lt (depth_of labels v) (depth_of labels u))
    where
      pick : Dec (depth_of labels v < depth_of labels u) → Ancestor (parents_of labels) u v
      pick (no level) =
          let above = ancestor_is_up fit (depth_of labels v - depth_of labels u) v k (omega arith) in
          let at = climbed fit (depth_of labels v - depth_of labels u) v k (omega arith) in
          rw
          (one_holds
          (ancestor_of labels v (depth_of labels v - depth_of labels u))
          u
          (get_or spots v 0)
          at.on_map
          h
          (omega (arith, at.depth))
          (in_block (ancestor_of labels v (depth_of labels v - depth_of labels u)) v k above)
          held)
          at above
      pick (yes deeper) =
          let inside = above-inside (above_is_up fit (depth_of labels u - depth_of labels v) u h (omega arith) (omega arith)) in
          let at = climbed fit (depth_of labels u - depth_of labels v) u h (omega arith) in
          let same =
          one_holds
          (ancestor_of labels u (depth_of labels u - depth_of labels v))
          v
          (get_or spots v 0)
          at.on_map
          k
          (omega (arith, at.depth))
          (omega (arith, inside.behind), omega (arith, inside.within))
          (omega arith, omega (arith, nest.itself v k)) in
          absurd (omega (arith, inside.behind, ap (λ w. get_or spots w 0) same))

  -- ---- The numbering

  -- every block lies below n
  block_inside : (d v : ℕ) → v < junctions_of labels → depth_of labels v ≡ d → get_or spots v 0 + get_or sizes v 0 ≤ junctions_of labels
  block_inside zero v h e = nest.of_root v h (depth-none labels v e (fit.ends v h))
  block_inside (suc d) v h e =
      let child = depth-some labels v (omega arith) in
      let up = one_up fit v h child in
      omega (arith, (nest.of_child v h child).within, block_inside d (parent_at labels v) up.on_map (omega (arith, up.depth)))

  -- no two junctions have one spot, as each block would hold the other's
  spread : Spread (junctions_of labels) spots
  spread =
      record {
        few = fit.few_junctions;
        below = λ v h. omega (arith, block_inside (depth_of labels v) v h refl, nest.itself v h);
        once =
            λ u v h k e.
            ⊎_elim
            (λ same. same)
            (λ above. absurd (omega (arith, (above-inside above).behind)))
            (block_below u v h k (omega arith, omega (arith, nest.itself u h)));
      }

  -- with the junctions listed by their spots and all copied to the table, it is whole
  numbered :
      {order before tables : List ℕ} →
      Listed spots order (junctions_of labels) →
      CopiedBelow order spots sizes before tables (junctions_of labels) →
      Numbered labels tables
  numbered {order} {before} {tables} listed copied =
      record {
        places = copied.places;
        at_spot = λ v h. rw (copied.spot v h) (copied.junction (get_or spots v 0) (spread.below v h) ∙ listed.at_spot v h);
        spot_below = λ v h. rw (copied.spot v h) (spread.below v h);
        on_map = λ i h. rw (copied.junction i h) (listed_on_map i h);
        spot_of_junction = λ i h. rw (copied.junction i h, copied.spot (get_or order i 0) (listed_on_map i h)) (let z = hit i h in rw (stands z) z.is);
        block_inside = λ v h. rw (copied.spot v h, copied.size v h) (block_inside (depth_of labels v) v h refl);
        in_block = λ u v h k above. omega (arith, copied.spot u h, copied.spot v k, copied.size u h, in_block u v k above);
        block_below =
            λ u v h k from to.
            block_below u v h k
            (omega (arith, copied.spot u h, copied.spot v k), omega (arith, copied.spot u h, copied.spot v k, copied.size u h));
      }
    where
      -- every spot is some junction's
      hit : (i : ℕ) → i < junctions_of labels → Hit (λ v. get_or spots v 0) (junctions_of labels) i
      hit = onto (λ v. get_or spots v 0) (junctions_of labels) spread.below spread.once

      stands : {i : ℕ} (z : Hit (λ v. get_or spots v 0) (junctions_of labels) i) → get_or order i 0 ≡ z.at
      stands z = rw (← z.is) (listed.at_spot z.at z.below)

      listed_on_map : (i : ℕ) → i < junctions_of labels → get_or order i 0 < junctions_of labels
      listed_on_map i h = let z = hit i h in rw (stands z) z.below

-- what merging and placing leave
module _
    {labels spots sizes offsets : List ℕ} {n : ℕ} (fit : ParentsFit labels) (merged : AllMerged labels sizes offsets)
    (placed : Placed labels offsets spots (junctions_of labels) 0) (size : n ≡ junctions_of labels)
  where
    pub placed-spread : Spread n spots
    placed-spread = rw size (spread fit (nested fit merged placed))

    pub listed-numbered :
        {order before tables : List ℕ} → Listed spots order n → CopiedBelow order spots sizes before tables n → Numbered labels tables
    listed-numbered listed copied = numbered fit (nested fit merged placed) (rw size at listed) (rw size at copied)
