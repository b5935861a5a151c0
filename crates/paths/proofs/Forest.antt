-- Laws of forests: a junction has one parent, so its ancestors stand in a row.
-- In this order: ancestors; the child on a branch; depth; what a forest decides; common ancestors.
use mathlib.Core.Path.{◌≡◌, refl, sym, ap}
use mathlib.Core.Logic.{inl, inr, ⊎_elim}
use mathlib.Core.Option.{none, some}
use Prim.Native.Nat.{ℕ, suc, ◌<◌}
use native.Mathlib.Decide.{ℕ_discrete}
use native.Mathlib.Omega.{arith}
use Rattle.paths.specs.Forest.{Parents, Above, parent_is, parent_has, Ancestor, Depth, root, child, IsForest, Related, Common, Deepest}
use Rattle.paths.proofs.Decisions.{map?, or?}

module _ (parent : Parents) where
  -- The child of l on the branch of s
  pub record ChildTowards (l s : ℕ) : Type 0 where
    pub branch : ℕ
    pub hangs : parent branch ≡ some l
    pub towards : Ancestor parent branch s

  -- v has a depth larger than d
  record Deeper (v d : ℕ) : Type 0 where
    depth : ℕ
    reached : Depth parent v depth
    larger : d < depth

module _ {parent : Parents} where
  -- ---- Ancestors

  -- an ancestor's ancestor is an ancestor, and a proper one if either is
  pub above_trans : {u v w : ℕ} → Above parent u v → Above parent v w → Above parent u w
  above_trans h (parent_is e) = parent_has e h
  above_trans h (parent_has e k) = parent_has e (above_trans h k)

  -- Every junction is an ancestor of itself
  pub ancestor-refl : (v : ℕ) → Ancestor parent v v
  ancestor-refl v = inl refl

  pub ancestor_then_above : {u v w : ℕ} → Ancestor parent u v → Above parent v w → Above parent u w
  ancestor_then_above (inl e) k = rw e k
  ancestor_then_above (inr h) k = above_trans h k

  pub above_then_ancestor : {u v w : ℕ} → Above parent u v → Ancestor parent v w → Above parent u w
  above_then_ancestor h (inl e) = rw e at h
  above_then_ancestor h (inr k) = above_trans h k

  pub ancestor_trans : {u v w : ℕ} → Ancestor parent u v → Ancestor parent v w → Ancestor parent u w
  ancestor_trans h (inl e) = rw e at h
  ancestor_trans h (inr k) = inr (ancestor_then_above h k)

  -- the proper ancestors of a child are the ancestors of its parent, both ways
  pub above-child : {u v w : ℕ} → parent w ≡ some v → Ancestor parent u v → Above parent u w
  above-child e h = ancestor_then_above h (parent_is e)

  pub ancestor_of_parent : {u v w : ℕ} → parent w ≡ some v → Above parent u w → Ancestor parent u v
  ancestor_of_parent e (parent_is f) = inl (cc)
  ancestor_of_parent {v = v} e (parent_has {w = x} f h) = inr (let z : x ≡ v = cc in rw z at h)

  -- a root has no proper ancestor
  pub root_has_none : {u v : ℕ} → parent v ≡ none → Above parent u v → ⊥
  root_has_none e (parent_is f) = let z : ◌≡◌ {A = ℕ} 0 1 = cc in omega arith
  root_has_none e (parent_has f h) = let z : ◌≡◌ {A = ℕ} 0 1 = cc in omega arith

  -- two ancestors of one junction are related: they stand on its one parent chain
  pub ancestors_related : {u v x : ℕ} → Ancestor parent u x → Ancestor parent v x → Related parent u v
  ancestors_related (inl e) k = inr (rw e k)
  ancestors_related (inr h) (inl e) = inl (inr (rw e h))
  ancestors_related (inr h) (inr k) = climb h k
    where
      climb : {u v x : ℕ} → Above parent u x → Above parent v x → Related parent u v
      climb (parent_is e) k = inr (ancestor_of_parent e k)
      climb (parent_has e h) k = ⊎_elim (λ f. inl (inr (rw f h))) (climb h) (ancestor_of_parent e k)

  -- what is related to a junction below c, and is itself not below c, stands above c
  pub outside_above : {c x y : ℕ} → Ancestor parent c x → (Ancestor parent c y → ⊥) → Related parent x y → Above parent y c
  outside_above h n (inl k) = absurd (n (ancestor_trans h k))
  outside_above h n (inr k) =
      ⊎_elim (⊎_elim (λ e. absurd (n (inl (sym e)))) (λ a. a)) (λ a. absurd (n a)) (ancestors_related k h)

  -- The child of l below which s stands
  pub child-towards : {l s : ℕ} → Above parent l s → ChildTowards parent l s
  child-towards {s = s} (parent_is e) = record { branch = s; hangs = e; towards = inl refl }
  child-towards (parent_has e h) =
      let z = child-towards h in
      record { branch = z.branch; hangs = z.hangs; towards = inr (above-child e z.towards) }

  -- ---- Depth

  -- a junction has one depth
  pub depth_unique : {v d e : ℕ} → Depth parent v d → Depth parent v e → d ≡ e
  depth_unique (root p) (root q) = refl
  depth_unique (root p) (child q k) = let z : ◌≡◌ {A = ℕ} 0 1 = cc in absurd (omega arith)
  depth_unique (child p h) (root q) = let z : ◌≡◌ {A = ℕ} 0 1 = cc in absurd (omega arith)
  depth_unique (child {w = x} p h) (child {w = y} q k) = ap suc (depth_unique h (let z : x ≡ y = cc in rw z k))

  -- depth grows from ancestor to descendant
  pub above_depth : {u v d e : ℕ} → Above parent u v → Depth parent u d → Depth parent v e → d < e
  above_depth h p q = let z = deeper h p in omega (arith, depth_unique z.reached q)
    where
      deeper : {u v d : ℕ} → Above parent u v → Depth parent u d → Deeper parent v d
      deeper {d = d} (parent_is e) p = record { depth = suc d; reached = child e p; larger = omega arith }
      deeper (parent_has e h) p =
          let z = deeper h p in record { depth = suc z.depth; reached = child e z.reached; larger = omega arith }

  -- ---- In a forest

  module _ (forest : IsForest parent) where
    -- no junction is its own proper ancestor
    pub above_irrefl : {v : ℕ} → Above parent v v → ⊥
    above_irrefl {v} h = omega (arith, above_depth h (forest.ends v) (forest.ends v))

    -- two junctions that are each other's ancestors are one
    pub ancestor_antisym : {u v : ℕ} → Ancestor parent u v → Ancestor parent v u → u ≡ v
    ancestor_antisym (inl e) k = e
    ancestor_antisym (inr h) k = absurd (above_irrefl (above_then_ancestor h k))

    -- every chain ends, so ancestors are found by climbing
    pub above? : (u v : ℕ) → Dec (Above parent u v)
    above? u v = climb (forest.ends v)
      where
        climb : {x d : ℕ} → Depth parent x d → Dec (Above parent u x)
        climb (root e) = no (root_has_none e)
        climb (child {w = y} e h) = map? (above-child e) (ancestor_of_parent e) (or? (ℕ_discrete u y) (climb h))

    pub ancestor? : (u v : ℕ) → Dec (Ancestor parent u v)
    ancestor? u v = or? (ℕ_discrete u v) (above? u v)

    -- "the" deepest common ancestor: there is one
    pub deepest_unique : {s t l m : ℕ} → Deepest parent s t l → Deepest parent s t m → l ≡ m
    deepest_unique {l = l} {m = m} h k = ancestor_antisym (k.below_all l h.common) (h.below_all m k.common)

    -- below it the branches are apart: no child of the deepest common ancestor is an ancestor of both
    pub child_not_common : {s t l c : ℕ} → Deepest parent s t l → parent c ≡ some l → Common parent s t c → ⊥
    child_not_common {l = l} {c = c} h e k = above_irrefl (above_then_ancestor (above-child e (ancestor-refl l)) (h.below_all c k))
