-- A chain of parents that comes back is one that has not ended after n steps: n steps on the map meet n + 1 junctions, so one twice.
-- In this order: the junctions that a chain meets; chains that do not return end; chains that end do not return; what 15 tests.
use mathlib.Core.Path.{◌≡◌, refl, ap}
use mathlib.Core.Bool.{true}
use mathlib.Core.Logic.{◌⊎◌, inl, inr, ⊎_elim}
use mathlib.Core.List.Memᴰ
use mathlib.Core.List.{List, [], ◌∷◌, Memᴰ}
use Prim.Native.Nat.{ℕ, zero, suc, ◌-◌, ◌≤◌, ◌<◌}
use native.Mathlib.Decide.{dec_lt}
use native.Mathlib.Omega.{arith}
use lib.ListN.{length}
use borrow.Author.Tests.{lt-ltb}
use Rattle.paths.specs.Route.{NoneTwice, none, next}
use Rattle.paths.specs.Forest.{Ancestor, Returns}
use Rattle.paths.proofs.Route.{visits_once_short}
use Rattle.paths.proofs.Forest.{above-child}
use Rattle.refusals.proofs.Order.{and_true, every_all}
use Rattle.network.specs.NetworkFile.{junctions_of}
use Rattle.forest.specs.LabelFile.{parent_at, parents_of}
use Rattle.forest.specs.Forest.{steps_up, depth_of, parent_fits, chain_ends, parents_pass}
use Rattle.forest.proofs.Chains.{IsRoot, AllFit, AllEnd, parent_on_map, steps-none, steps-root, steps-parent, passed-fits, passed-ends}
use Rattle.forest.proofs.Forest.{parents-child, above_shallower}

-- ---- The junctions that a chain meets

-- The junctions met on k steps up from v, v first
met : List ℕ → ℕ → ℕ → List ℕ
met labels zero v = v ∷ []
met labels (suc k) v = v ∷ met labels k (parent_at labels v)

-- one more than the steps
met_length : (labels : List ℕ) (k v : ℕ) → length (met labels k v) ≡ suc k
unfolding met
met_length labels zero v = refl
met_length labels (suc k) v = ap suc (met_length labels k (parent_at labels v))

-- A step up from v that was counted
record Stepped (labels : List ℕ) (most k v : ℕ) : Type 0 where
  no_root : IsRoot labels v → ⊥
  further : k ≤ steps_up labels (most - 1) (parent_at labels v)

-- a step that was counted left a junction that is no root
stepped : (labels : List ℕ) (most k v : ℕ) → suc k ≤ steps_up labels most v → Stepped labels most k v
stepped labels zero k v h = absurd (omega (arith, steps-none labels v))
stepped labels (suc most) k v h = record { no_root = other; further = rw one (omega (arith, steps-parent labels most v other)) }
  where
    other : IsRoot labels v → ⊥
    other r = omega (arith, steps-root labels (suc most) v r)

    one : suc most - 1 ≡ most
    one = omega arith

-- A junction that the chain of v meets
record Met (labels : List ℕ) (u v : ℕ) : Type 0 where
  on_map : u < junctions_of labels
  ancestor : Ancestor (parents_of labels) u v

module _ (labels : List ℕ) (fits : AllFit labels) where
  -- each is a junction and an ancestor
  all_met : (most k v : ℕ) {u : ℕ} → v < junctions_of labels → k ≤ steps_up labels most v → Memᴰ u (met labels k v) → Met labels u v
  unfolding met
  all_met most zero v {u} below h m =
      ⊎_elim
      (λ e. record { on_map = omega arith; ancestor = inl e })
      (λ z. absurd (Memᴰ.not-nil z))
      (Memᴰ.cases_cons m)
  all_met most (suc k) v {u} below h m =
      pick (all_met (most - 1) k (parent_at labels v) {u = u} up step.further) (Memᴰ.cases_cons m)
    where
      step : Stepped labels most k v
      step = stepped labels most k v h

      up : parent_at labels v < junctions_of labels
      up = parent_on_map labels v (fits v below) step.no_root

      pick : (Memᴰ u (met labels k (parent_at labels v)) → Met labels u (parent_at labels v)) → (u ≡ v) ⊎ Memᴰ u (met labels k (parent_at labels v)) → Met labels u v
      pick f (inl e) = record { on_map = omega arith; ancestor = inl e }
      pick f (inr z) =
          record {
            on_map = (f z).on_map;
            ancestor = inr (above-child (parents-child labels v below step.no_root) (f z).ancestor);
          }

  -- ---- Chains that do not return end

  module _ (apart : (v : ℕ) → v < junctions_of labels → Returns (parents_of labels) v → ⊥) where
    -- none is met twice
    none_met_twice : (most k v : ℕ) → v < junctions_of labels → k ≤ steps_up labels most v → NoneTwice (met labels k v)
    unfolding met
    none_met_twice most zero v below h = next Memᴰ.not-nil none
    none_met_twice most (suc k) v below h =
        let step = stepped labels most k v h in
        let up = parent_on_map labels v (fits v below) step.no_root in
        next
        (λ m.
        apart v below
        (record {
          at = v;
          met = inl refl;
          again = above-child (parents-child labels v below step.no_root) (all_met (most - 1) k (parent_at labels v) up step.further m).ancestor;
        }))
        (none_met_twice (most - 1) k (parent_at labels v) up step.further)

    -- n steps would meet n + 1 junctions, and there are n
    pub chains_end : AllEnd labels
    unfolding depth_of
    chains_end v below = pick (dec_lt (steps_up labels (junctions_of labels) v) (junctions_of labels))
      where
        pick : Dec (steps_up labels (junctions_of labels) v < junctions_of labels) → steps_up labels (junctions_of labels) v < junctions_of labels
        pick (yes h) = h
        pick (no h) =
            let far : junctions_of labels ≤ steps_up labels (junctions_of labels) v = omega arith in
            let once = none_met_twice (junctions_of labels) (junctions_of labels) v below far in
            let short : length (met labels (junctions_of labels) v) ≤ junctions_of labels =
            visits_once_short (junctions_of labels) once (λ u m. (all_met (junctions_of labels) (junctions_of labels) v below far m).on_map) in
            absurd (omega (arith, met_length labels (junctions_of labels) v))

-- ---- Chains that end do not return

-- a chain that returns would go up for ever
pub ends_not_returns : (labels : List ℕ) {v : ℕ} → AllEnd labels → Returns (parents_of labels) v → ⊥
ends_not_returns labels ends r = omega (arith, above_shallower labels ends r.again)

-- ---- 15 is given exactly where a parent is out of range or a chain of parents comes back

-- Every parent is a junction or none, and no chain returns
pub record NoneReturns (labels : List ℕ) : Type 0 where
  pub fits : AllFit labels
  pub apart : (v : ℕ) → v < junctions_of labels → Returns (parents_of labels) v → ⊥

-- what passes has no fault, and what has none passes
pub passed_apart : (labels : List ℕ) → parents_pass labels ≡ true → NoneReturns labels
passed_apart labels e = record { fits = passed-fits labels e; apart = λ v below. ends_not_returns labels (passed-ends labels e) }

pub apart-passed : {labels : List ℕ} → NoneReturns labels → parents_pass labels ≡ true
unfolding chain_ends
apart-passed {labels} kept =
    and_true
    (every_all (parent_fits labels) (junctions_of labels) kept.fits)
    (every_all (chain_ends labels) (junctions_of labels) (λ v below.
    lt-ltb (depth_of labels v) (junctions_of labels) (chains_end labels kept.fits kept.apart v below)))
