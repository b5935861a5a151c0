-- Chains of parents, counted in steps: how `steps_up`, `depth_of` and `ancestor_of` go on by one.
-- In this order: roots and parents; steps counted up to a bound; depths; ancestors; what passing 15 tells; climbing where it was passed.
use mathlib.Core.Path.{◌≡◌, refl, sym, ap, ◌∙◌}
use mathlib.Core.Logic.{◌⊎◌, inl, inr, ⊎_elim}
use mathlib.Core.Bool.{Bool, true, false, ◌||◌}
use mathlib.Core.List.{List}
use Prim.Native.Nat.{ℕ, zero, suc, ◌+◌, ◌≤◌, ◌<◌}
use native.Mathlib.Decide.{ℕ_discrete, dec_lt}
use native.Mathlib.Nat.{zero-add, suc-add}
use native.Mathlib.Omega.{arith}
use lib.Dec.{ltb, eqb}
use borrow.Author.Tests.{ltb-true, eqb-true, eq-eqb, ne_eqb}
use Rattle.refusals.specs.Order.{every}
use Rattle.refusals.proofs.Order.{and_both, every_holds}
use Rattle.network.specs.NetworkFile.{junctions_of}
use Rattle.forest.specs.LabelFile.{parent_at, no_parent}
use Rattle.forest.specs.Forest.{steps_up, depth_of, ancestor_of, parent_fits, chain_ends, parents_pass}
use Rattle.forest.specs.working.Fits.{ParentsFit}
use Rattle.forest.specs.working.ParentsRead.{ParentsStand}

-- ---- Roots and parents

-- one of two tests holds
pub or_either : (a b : Bool) → (a || b) ≡ true → (a ≡ true) ⊎ (b ≡ true)
or_either true b e = inl refl
or_either false b e = inr e

module _ (labels : List ℕ) where
  -- v has no parent
  abbrev pub IsRoot : ℕ → Type 0
  IsRoot v = parent_at labels v ≡ no_parent

  -- Every parent is on the map, or is none
  abbrev pub AllFit : Type 0
  AllFit = (v : ℕ) → v < junctions_of labels → parent_fits labels v ≡ true

  -- Every chain ends
  abbrev pub AllEnd : Type 0
  AllEnd = (v : ℕ) → v < junctions_of labels → depth_of labels v < junctions_of labels

  -- whether v has a parent is decided
  pub root? : (v : ℕ) → Dec (IsRoot v)
  root? v = ℕ_discrete (parent_at labels v) no_parent

  -- a parent that fits is a junction
  pub parent_on_map : (v : ℕ) → parent_fits labels v ≡ true → (IsRoot v → ⊥) → parent_at labels v < junctions_of labels
  unfolding parent_fits
  parent_on_map v e h =
      ⊎_elim
      (ltb-true (parent_at labels v) (junctions_of labels))
      (λ r. absurd (h (eqb-true (parent_at labels v) no_parent r)))
      (or_either (ltb (parent_at labels v) (junctions_of labels)) (eqb (parent_at labels v) no_parent) e)

  -- ---- Steps counted up to a bound

  -- no step, none counted; none from a root; one more from any other than from its parent
  pub steps-none : (v : ℕ) → steps_up labels 0 v ≡ 0
  unfolding steps_up
  steps-none v = refl

  pub steps-root : (most v : ℕ) → IsRoot v → steps_up labels most v ≡ 0
  unfolding steps_up
  steps-root zero v h = refl
  steps-root (suc most) v h = rw (eq-eqb (parent_at labels v) no_parent h)

  pub steps-parent : (most v : ℕ) → (IsRoot v → ⊥) → steps_up labels (suc most) v ≡ suc (steps_up labels most (parent_at labels v))
  unfolding steps_up
  steps-parent most v h = rw (ne_eqb (parent_at labels v) no_parent h)

  -- no more steps are counted than are asked for
  pub steps_bounded : (most v : ℕ) → steps_up labels most v ≤ most
  steps_bounded zero v = omega (arith, steps-none v)
  steps_bounded (suc most) v = pick (steps_bounded most (parent_at labels v)) (root? v)
    where
      pick : steps_up labels most (parent_at labels v) ≤ most → Dec (IsRoot v) → steps_up labels (suc most) v ≤ suc most
      pick h (yes r) = omega (arith, steps-root (suc most) v r)
      pick h (no r) = omega (arith, steps-parent most v r)

  -- a count that stopped before its bound is the same at any larger bound
  pub steps_stopped : (most more v : ℕ) → steps_up labels most v < most → most ≤ more → steps_up labels more v ≡ steps_up labels most v
  steps_stopped zero more v h l = absurd (omega arith)
  steps_stopped (suc most) zero v h l = absurd (omega arith)
  steps_stopped (suc most) (suc more) v h l = pick (λ k. steps_stopped most more (parent_at labels v) k (omega arith)) (root? v)
    where
      pick :
          (steps_up labels most (parent_at labels v) < most → steps_up labels more (parent_at labels v) ≡ steps_up labels most (parent_at labels v)) →
          Dec (IsRoot v) →
          steps_up labels (suc more) v ≡ steps_up labels (suc most) v
      pick f (yes r) = steps-root (suc more) v r ∙ sym (steps-root (suc most) v r)
      pick f (no r) = let here = steps-parent most v r in steps-parent more v r ∙ (ap suc (f (omega arith)) ∙ sym here)

  -- a larger bound counts no fewer steps
  steps-more : (most more v : ℕ) → most ≤ more → steps_up labels most v ≤ steps_up labels more v
  steps-more zero more v l = omega (arith, steps-none v)
  steps-more (suc most) zero v l = absurd (omega arith)
  steps-more (suc most) (suc more) v l = pick (steps-more most more (parent_at labels v) (omega arith)) (root? v)
    where
      pick : steps_up labels most (parent_at labels v) ≤ steps_up labels more (parent_at labels v) → Dec (IsRoot v) → steps_up labels (suc most) v ≤ steps_up labels (suc more) v
      pick h (yes r) = omega (arith, steps-root (suc most) v r)
      pick h (no r) = omega (arith, steps-parent most v r, steps-parent more v r)

  -- a count at a larger bound tells the count at a smaller: the same if it is below it, else the bound
  pub steps-below : (most more v : ℕ) → most ≤ more → steps_up labels more v < most → steps_up labels most v ≡ steps_up labels more v
  steps-below most more v l h = sym (steps_stopped most more v (omega (arith, steps-more most more v l)) l)

  pub steps_capped : (most more v : ℕ) → most ≤ more → most ≤ steps_up labels more v → steps_up labels most v ≡ most
  steps_capped most more v l h = pick (dec_lt (steps_up labels most v) most)
    where
      pick : Dec (steps_up labels most v < most) → steps_up labels most v ≡ most
      pick (yes stopped) = absurd (omega (arith, steps_stopped most more v stopped l))
      pick (no far) = omega (arith, steps_bounded most v)

  -- ---- Depths

  -- How deep v stands, a root at 0
  pub depth-root : (v : ℕ) → IsRoot v → depth_of labels v ≡ 0
  unfolding depth_of
  depth-root v h = steps-root (junctions_of labels) v h

  -- any other junction whose chain ends stands one below its parent
  pub depth-parent : (v : ℕ) → (IsRoot v → ⊥) → depth_of labels v < junctions_of labels → depth_of labels v ≡ suc (depth_of labels (parent_at labels v))
  unfolding depth_of
  depth-parent v h l = count (junctions_of labels) l
    where
      count : (n : ℕ) → steps_up labels n v < n → steps_up labels n v ≡ suc (steps_up labels n (parent_at labels v))
      count zero k = absurd (omega arith)
      count (suc n) k =
          let here = steps-parent n v h in
          here ∙ ap suc (sym (steps_stopped n (suc n) (parent_at labels v) (omega arith) (omega arith)))

  -- a junction of depth 0 whose chain ends is a root, and one of a larger depth is none
  pub depth-none : (v : ℕ) → depth_of labels v ≡ 0 → depth_of labels v < junctions_of labels → IsRoot v
  depth-none v e l = pick (root? v)
    where
      pick : Dec (IsRoot v) → IsRoot v
      pick (yes r) = r
      pick (no r) = absurd (omega (arith, depth-parent v r l))

  pub depth-some : (v : ℕ) → 1 ≤ depth_of labels v → IsRoot v → ⊥
  depth-some v h r = omega (arith, depth-root v r)

  -- ---- Ancestors

  -- no step leads to v itself, one more to the ancestors of its parent
  pub ancestor-none : (v : ℕ) → ancestor_of labels v 0 ≡ v
  unfolding ancestor_of
  ancestor-none v = refl

  pub ancestor-below : (v k : ℕ) → ancestor_of labels v (suc k) ≡ ancestor_of labels (parent_at labels v) k
  unfolding ancestor_of
  ancestor-below v k = refl

  -- the ancestors of an ancestor
  pub ancestor_add : (v i j : ℕ) → ancestor_of labels v (i + j) ≡ ancestor_of labels (ancestor_of labels v i) j
  unfolding ancestor_of
  ancestor_add v zero j = rw (zero-add j)
  ancestor_add v (suc i) j = rw (suc-add i j) (ancestor_add (parent_at labels v) i j)

  -- the next ancestor is the parent of the last
  pub ancestor-more : (v k : ℕ) → ancestor_of labels v (k + 1) ≡ parent_at labels (ancestor_of labels v k)
  unfolding ancestor_of
  ancestor-more v k = ancestor_add v k 1

-- ---- What passing 15 tells

-- both halves of the test
passed-both : (labels : List ℕ) → parents_pass labels ≡ true → (every (parent_fits labels) (junctions_of labels) ≡ true) × (every (chain_ends labels) (junctions_of labels) ≡ true)
passed-both labels e = and_both (every (parent_fits labels) (junctions_of labels)) (every (chain_ends labels) (junctions_of labels)) e

-- each holds of every junction
pub passed-fits : (labels : List ℕ) → parents_pass labels ≡ true → AllFit labels
passed-fits labels e v below = every_holds (parent_fits labels) (junctions_of labels) (passed-both labels e).0 below

pub passed-ends : (labels : List ℕ) → parents_pass labels ≡ true → AllEnd labels
unfolding chain_ends
passed-ends labels e v below =
    ltb-true (depth_of labels v) (junctions_of labels) (every_holds (chain_ends labels) (junctions_of labels) (passed-both labels e).1 below)

-- parents that stand whole and pass are fit to be read further
pub parents_fit : {labels : List ℕ} → ParentsStand labels → parents_pass labels ≡ true → ParentsFit labels
parents_fit {labels} stand e =
    record { few_junctions = stand.few_junctions; inside = stand.inside; fits = passed-fits labels e; ends = passed-ends labels e }

-- ---- Climbing where 15 was passed

-- u is k steps above v
pub record Climbed (labels : List ℕ) (v k u : ℕ) : Type 0 where
  pub on_map : u < junctions_of labels
  pub depth : depth_of labels u + k ≡ depth_of labels v

module _ {labels : List ℕ} (fit : ParentsFit labels) where
  -- the parent of a junction that is no root is one step above it
  pub one_up : (v : ℕ) → v < junctions_of labels → (parent_at labels v ≡ no_parent → ⊥) → Climbed labels v 1 (parent_at labels v)
  one_up v below h =
      record {
        on_map = parent_on_map labels v (fit.fits v below) h;
        depth = omega (arith, depth-parent labels v h (fit.ends v below));
      }

  -- the k-th ancestor is k steps above
  pub climbed : (k v : ℕ) → v < junctions_of labels → k ≤ depth_of labels v → Climbed labels v k (ancestor_of labels v k)
  unfolding ancestor_of
  climbed zero v below h = record { on_map = below; depth = omega arith }
  climbed (suc k) v below h =
      let here = one_up v below (depth-some labels v (omega arith)) in
      let further = climbed k (parent_at labels v) here.on_map (omega arith) in
      record { on_map = further.on_map; depth = omega arith }
