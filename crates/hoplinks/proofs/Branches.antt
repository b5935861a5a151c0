-- Two junctions have the common ancestors of what stands above them at one depth, so their branches are climbed side by side.
-- In this order: no step, and a depth read; ancestors by depth; the climb side by side, from its start to either end.
use mathlib.Core.Path.{◌≡◌, sym, ap}
use mathlib.Core.Logic.{inl, inr, ⊎_elim}
use mathlib.Core.List.{List}
use Prim.Native.Nat.{ℕ, ◌+◌, ◌-◌, ◌*◌, ◌≤◌, ◌<◌}
use native.Mathlib.Omega.{arith}
use lib.ListN.{get_or}
use Rattle.paths.specs.Forest.{Above, parent_is, Ancestor, Related, Common}
use Rattle.paths.proofs.Forest.{ancestor_trans, ancestor_of_parent, ancestors_related}
use Rattle.network.specs.NetworkFile.{junctions_of}
use Rattle.file_bytes.specs.working.Reads.{ReadU16}
use Rattle.forest.specs.LabelFile.{parent_at, no_parent, parents_of}
use Rattle.forest.specs.Forest.{depth_of, ancestor_of}
use Rattle.forest.specs.working.Fits.{ParentsFit, DepthsFilled}
use Rattle.forest.specs.working.ParentsRead.{AncestorRead}
use Rattle.forest.proofs.Chains.{ancestor-none, depth-some, one_up, climbed}
use Rattle.forest.proofs.Forest.{above_shallower, parents-child, ancestor_is_up}
use Rattle.hoplinks.specs.working.Meeting.{MeetsAt}

-- ---- No step, and a depth read

-- a junction that is no deeper stays where it is
pub no_climb : (labels : List ℕ) (v from to : ℕ) → from ≤ to → ancestor_of labels v (from - to) ≡ v
no_climb labels v from to h = let none : from - to ≡ 0 = omega arith in rw none (ancestor-none labels v)

-- the table has the depth
pub depth-read : {labels depths : List ℕ} {v : ℕ} → DepthsFilled labels depths → v < junctions_of labels → get_or depths v 0 ≡ depth_of labels v
depth-read {v = v} filled below = filled.depth v below

-- ---- Ancestors by depth

-- u stands k steps above v
record Raised (labels : List ℕ) (v k u : ℕ) : Type 0 where
  up : Ancestor (parents_of labels) u v
  depth : depth_of labels u + k ≡ depth_of labels v

module _ {labels : List ℕ} (fit : ParentsFit labels) where
  -- where a climb by k steps leads
  raised_up : {v k u : ℕ} → v < junctions_of labels → k ≤ depth_of labels v → AncestorRead labels v k u → Raised labels v k u
  raised_up {v} {k} below h read =
      rw read.is (record { up = ancestor_is_up fit k v below h; depth = (climbed fit k v below h).depth })

  -- an ancestor is no deeper, and of the same depth only the junction itself
  pub no_deeper : {u v : ℕ} → Ancestor (parents_of labels) u v → depth_of labels u ≤ depth_of labels v
  no_deeper (inl e) = omega (arith, ap (depth_of labels) e)
  no_deeper (inr above) = omega (arith, above_shallower labels fit.ends above)

  pub level-same : {u v : ℕ} → Ancestor (parents_of labels) u v → depth_of labels u ≡ depth_of labels v → u ≡ v
  level-same (inl e) level = e
  level-same (inr above) level = absurd (omega (arith, above_shallower labels fit.ends above))

  -- of two related junctions the one that is no deeper is the ancestor
  pub shallower_ancestor : {u v : ℕ} → Related (parents_of labels) u v → depth_of labels u ≤ depth_of labels v → Ancestor (parents_of labels) u v
  shallower_ancestor (inl up) h = up
  shallower_ancestor (inr down) h = inl (sym (level-same down (omega (arith, no_deeper down))))

  -- and a proper one where it is less deep
  pub strictly-above : {u v : ℕ} → Ancestor (parents_of labels) u v → depth_of labels u < depth_of labels v → Above (parents_of labels) u v
  strictly-above (inl e) h = absurd (omega (arith, ap (depth_of labels) e))
  strictly-above (inr above) h = above

  -- so it is with two ancestors of one junction
  pub stays-above : {u a v : ℕ} → Ancestor (parents_of labels) u v → Ancestor (parents_of labels) a v → depth_of labels u ≤ depth_of labels a → Ancestor (parents_of labels) u a
  stays-above h k shallow = shallower_ancestor (ancestors_related h k) shallow

  -- what is above two different junctions of one depth is a proper ancestor
  level-proper : {a b u : ℕ} → depth_of labels a ≡ depth_of labels b → (a ≡ b → ⊥) → Ancestor (parents_of labels) u a → Ancestor (parents_of labels) u b → Above (parents_of labels) u a
  level-proper level apart h k = ⊎_elim (λ e. absurd (apart (level-same (rw e at k) level))) (λ above. above) h

-- ---- The climb side by side

-- left and right stand above x and y at one depth, and what is common to x and y is common to them
pub record SideBySide (labels : List ℕ) (x y left right : ℕ) : Type 0 where
  pub left_on_map : left < junctions_of labels
  pub right_on_map : right < junctions_of labels
  pub level : depth_of labels left ≡ depth_of labels right
  pub left_up : Ancestor (parents_of labels) left x
  pub right_up : Ancestor (parents_of labels) right y
  pub kept : (u : ℕ) → Common (parents_of labels) x y u → Common (parents_of labels) left right u

module _ {labels depths : List ℕ} (fit : ParentsFit labels) (filled : DepthsFilled labels depths) where
  -- the deeper of the two was raised to the depth of the other
  pub side-start :
      {x y left right : ℕ} →
      x < junctions_of labels →
      y < junctions_of labels →
      AncestorRead labels x (get_or depths x 0 - get_or depths y 0) left →
      AncestorRead labels y (get_or depths y 0 - get_or depths x 0) right →
      SideBySide labels x y left right
  side-start {x} {y} {left} {right} x_below y-below left-read right-read =
      record {
        left_on_map = left-read.on_map;
        right_on_map = right-read.on_map;
        level = omega (arith, x_depth, y_depth, from_x.depth, from_y.depth);
        left_up = from_x.up;
        right_up = from_y.up;
        kept = λ u c.
            record {
              of_start = stays-above fit c.of_start from_x.up (omega (arith, x_depth, y_depth, from_x.depth, no_deeper fit c.of_start, no_deeper fit c.of_finish));
              of_finish = stays-above fit c.of_finish from_y.up (omega (arith, x_depth, y_depth, from_y.depth, no_deeper fit c.of_start, no_deeper fit c.of_finish));
            };
      }
    where
      x_depth : get_or depths x 0 ≡ depth_of labels x
      x_depth = filled.depth x x_below

      y_depth : get_or depths y 0 ≡ depth_of labels y
      y_depth = filled.depth y y-below

      from_x : Raised labels x (get_or depths x 0 - get_or depths y 0) left
      from_x = raised_up fit x_below (omega (arith, x_depth)) left-read

      from_y : Raised labels y (get_or depths y 0 - get_or depths x 0) right
      from_y = raised_up fit y-below (omega (arith, y_depth)) right-read

  module _ {x y left right : ℕ} (now : SideBySide labels x y left right) where
    -- met: what is common to x and y is above the place where they meet
    pub side_met : left ≡ right → MeetsAt labels x y left
    side_met e =
        record {
          on_map = now.left_on_map;
          deepest = record { common = record { of_start = now.left_up; of_finish = rw e now.right_up }; below_all = λ u c. (now.kept u c).of_start };
        }

    module _ (apart : left ≡ right → ⊥) where
      -- not met: what is common is above both
      above-left : (u : ℕ) → Common (parents_of labels) x y u → Above (parents_of labels) u left
      above-left u c = let k = now.kept u c in level-proper fit now.level apart k.of_start k.of_finish

      above-right : (u : ℕ) → Common (parents_of labels) x y u → Above (parents_of labels) u right
      above-right u c = let k = now.kept u c in level-proper fit (sym now.level) (λ e. apart (sym e)) k.of_finish k.of_start

      -- different roots have nothing above them
      pub side_roots : get_or depths left 0 ≡ 0 → (u : ℕ) → Common (parents_of labels) x y u → ⊥
      side_roots root u c = omega (arith, filled.depth left now.left_on_map, above_shallower labels fit.ends (above-left u c))

      module _ (deep : get_or depths left 0 ≡ 0 → ⊥) {up_left : ℕ} (left_is : ReadU16 labels (16 + 2 * left) up_left) where
        left-deep : 1 ≤ depth_of labels left
        left-deep = omega (arith, deep, filled.depth left now.left_on_map)

        -- one step less is left to the root
        pub side-less : depth_of labels up_left < depth_of labels left
        side-less = rw left_is.is (omega (arith, (one_up fit left now.left_on_map (depth-some labels left left-deep)).depth))

        -- both climb a step
        pub side-more : {up_right : ℕ} → ReadU16 labels (16 + 2 * right) up_right → SideBySide labels x y up_left up_right
        side-more {up_right} right_is = rw (left_is.is, right_is.is) both
          where
            left-child : parent_at labels left ≡ no_parent → ⊥
            left-child = depth-some labels left left-deep

            right_child : parent_at labels right ≡ no_parent → ⊥
            right_child = depth-some labels right (omega (arith, left-deep, now.level))

            both : SideBySide labels x y (parent_at labels left) (parent_at labels right)
            both =
                let from-left = parents-child labels left now.left_on_map left-child in
                let from-right = parents-child labels right now.right_on_map right_child in
                let left_step = one_up fit left now.left_on_map left-child in
                let right-step = one_up fit right now.right_on_map right_child in
                record {
                  left_on_map = left_step.on_map;
                  right_on_map = right-step.on_map;
                  level = omega (arith, now.level, left_step.depth, right-step.depth);
                  left_up = ancestor_trans (inr (parent_is from-left)) now.left_up;
                  right_up = ancestor_trans (inr (parent_is from-right)) now.right_up;
                  kept = λ u c. record { of_start = ancestor_of_parent from-left (above-left u c); of_finish = ancestor_of_parent from-right (above-right u c) };
                }
