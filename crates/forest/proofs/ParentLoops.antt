-- The loops that read the parents, one law for each way through.
-- In this order: the table of depths that are known; climbing to one; writing the depths of a chain; all depths; climbing k steps; the depths of two junctions.
use mathlib.Core.Path.{◌≡◌, sym, ap, ◌∙◌}
use mathlib.Core.Logic.{◌⊎◌, inl, inr, ⊎_elim}
use mathlib.Core.Bool.{Bool, true, false, not, false≢true}
use mathlib.Core.List.{List}
use mathlib.Core.Option.{none, some}
use Prim.Native.Nat.{ℕ, suc, ◌+◌, ◌-◌, ◌≤◌, ◌<◌}
use native.Mathlib.Decide.{ℕ_discrete, dec_lt}
use native.Mathlib.Nat.{zero-add}
use native.Mathlib.Omega.{arith}
use borrow.Author.Tests.{lt-ltb, le-ltb, not-true, not-false}
use lib.Dec.{ltb}
use lib.ListN.{length, get_or, set, length-set}
use lib.Seq.{get_or-set_same, get_or-set_other}
use Rattle.std.specs.Prelude.{None, Some}
use Rattle.std.specs.Bool.{then_some}
use Rattle.std.proofs.lemmas.List.{places}
use Rattle.refusals.specs.Order.{every}
use Rattle.refusals.proofs.Order.{and_true, and_false_right, every_holds, every-fails, every_all}
use Rattle.network.specs.NetworkFile.{junctions_of}
use Rattle.forest.specs.LabelFile.{parent_at, parents_of}
use Rattle.forest.specs.Forest.{steps_up, depth_of, ancestor_of, parent_fits, chain_ends}
use Rattle.forest.specs.working.Fits.{ParentsFit, DepthsFilled}
use Rattle.forest.specs.working.ParentsRead.{ParentsStand, Climbable, DepthsKnown, DepthFound, DepthsWritten, DepthSettled, ParentsTested, AncestorRead}
use Rattle.forest.proofs.Chains.{AllFit, parent_on_map, steps-root, steps-parent, steps-below, steps_capped, depth-parent, depth-some, ancestor-more, climbed}
use Rattle.forest.proofs.Forest.{parents-some, parents-none}

-- ---- The table of depths that are known

-- the number that a store leaves at w is the one stored, or the one that was there
pub stored_or_old : (depths : List ℕ) (u d w : ℕ) → u < length depths → ((w ≡ u) × (get_or (set depths u d) w 0 ≡ d)) ⊎ (get_or (set depths u d) w 0 ≡ get_or depths w 0)
stored_or_old depths u d w inside = pick (ℕ_discrete w u)
  where
    pick : Dec (w ≡ u) → ((w ≡ u) × (get_or (set depths u d) w 0 ≡ d)) ⊎ (get_or (set depths u d) w 0 ≡ get_or depths w 0)
    pick (yes e) = inl (e, ap (λ i. get_or (set depths u d) i 0) e ∙ get_or-set_same depths u d 0 inside)
    pick (no apart) = inr (get_or-set_other depths u w d 0 apart)

module _ (labels depths : List ℕ) (u d : ℕ) (few : junctions_of labels ≤ 1024) (on_map : u < junctions_of labels) (is : d ≡ depth_of labels u) where
  -- a table that is right stays so where a depth is stored
  pub known_more : DepthsKnown labels depths → DepthsKnown labels (set depths u d)
  known_more known =
      record {
        places = length-set depths u d ∙ known.places;
        right = λ w l h.
            ⊎_elim
            (λ same. same.1 ∙ is ∙ ap (depth_of labels) (sym same.0))
            (λ old. old ∙ known.right w l (omega (arith, old)))
            (stored_or_old depths u d w (omega (arith, known.places)));
      }

  -- and what was known still is
  pub stays-more : d < junctions_of labels → length depths ≡ 1024 → (w : ℕ) → get_or depths w 0 < junctions_of labels → get_or (set depths u d) w 0 < junctions_of labels
  stays-more near places w h =
      ⊎_elim (λ same. omega (arith, same.1)) (λ old. omega (arith, old)) (stored_or_old depths u d w (omega arith))

-- ---- Climbing to a depth that is known

-- After `steps` steps from v the climb has come to u, and the steps that are left make up the depth
pub record Climbing (labels : List ℕ) (n v u steps : ℕ) : Type 0 where
  pub on_map : u < junctions_of labels
  pub few : steps ≤ n
  pub depth : depth_of labels v ≡ steps + steps_up labels (n - steps) u

-- no step yet
pub climbing_start : {labels : List ℕ} {n v : ℕ} → Climbable labels n v → Climbing labels n v v 0
unfolding depth_of
climbing_start {labels} {n} {v} h =
    record { on_map = h.on_map; few = omega arith; depth = rw whole (sym (zero-add (steps_up labels (junctions_of labels) v))) }
  where
    whole : n - 0 ≡ junctions_of labels
    whole = omega (arith, h.size)

module _ {labels : List ℕ} {n v u steps : ℕ} (now : Climbing labels n v u steps) where
  -- one more step
  pub climbing_more : {parent : ℕ} → AllFit labels → steps < n → parents_of labels u ≡ some parent → Climbing labels n v parent (steps + 1)
  climbing_more fits more is =
      let has = parents-some labels is in
      rw (← has.parent) (
      record {
        on_map = parent_on_map labels u (fits u now.on_map) has.no_root;
        few = omega arith;
        depth = omega (arith, now.depth, ap (λ most. steps_up labels most u) left, steps-parent labels (n - (steps + 1)) u has.no_root);
      }
      )
    where
      left : n - steps ≡ suc (n - (steps + 1))
      left = omega arith

  -- the climb is over at a root, after n steps, or at a junction whose depth is known
  pub climbing_root : n ≡ junctions_of labels → steps < n → parents_of labels u ≡ none → DepthFound labels v (Some steps)
  climbing_root size more is =
      (omega (arith, now.depth, steps-root labels (n - steps) u (parents-none labels now.on_map is)), omega arith)

  pub climbing_end : n ≡ junctions_of labels → n ≤ steps → DepthFound labels v None
  climbing_end size all = omega (arith, now.depth)

  module _ {depths : List ℕ} (size : n ≡ junctions_of labels) (known : DepthsKnown labels depths) (below : get_or depths u 0 < n) where
    known_is : get_or depths u 0 ≡ steps_up labels (junctions_of labels) u
    unfolding depth_of
    known_is = known.right u now.on_map (omega arith)

    climbing_near : steps + get_or depths u 0 < n → DepthFound labels v (Some (steps + get_or depths u 0))
    climbing_near h =
        (omega (arith, now.depth, known_is, steps-below labels (n - steps) (junctions_of labels) u (omega arith) (omega (arith, known_is))), omega arith)

    climbing_far : n ≤ steps + get_or depths u 0 → DepthFound labels v None
    climbing_far h =
        omega (arith, now.depth, now.few, steps_capped labels (n - steps) (junctions_of labels) u (omega arith) (omega (arith, known_is)))

    pub climbing_known : DepthFound labels v (then_some (ltb (steps + get_or depths u 0) n) (steps + get_or depths u 0))
    climbing_known = pick (dec_lt (steps + get_or depths u 0) n)
      where
        pick : Dec (steps + get_or depths u 0 < n) → DepthFound labels v (then_some (ltb (steps + get_or depths u 0) n) (steps + get_or depths u 0))
        pick (yes h) = rw (lt-ltb (steps + get_or depths u 0) n h) (climbing_near h)
        pick (no far) = let h : n ≤ steps + get_or depths u 0 = omega arith in rw (le-ltb (steps + get_or depths u 0) n h) (climbing_far h)

-- ---- Writing the depths of a chain

-- The depth of u, `left`, is the last that was written on the way up from v
pub record Writing (labels : List ℕ) (v : ℕ) (before depths : List ℕ) (u left : ℕ) : Type 0 where
  pub written : DepthsWritten labels v before depths
  pub on_map : u < junctions_of labels
  pub depth : left ≡ depth_of labels u
  pub near : left < junctions_of labels

module _ {labels : List ℕ} {n v : ℕ} (from : Climbable labels n v) where
  module _ {before depths : List ℕ} {u left parent : ℕ} (now : Writing labels v before depths u left) (more : 0 < left) (is : parent ≡ parent_at labels u) where
    -- a junction that is no root has a parent, one step above it
    pub parent_above : (parent < junctions_of labels) × (left - 1 ≡ depth_of labels parent)
    parent_above =
        let no_root = depth-some labels u (omega (arith, now.depth)) in (
          rw is (parent_on_map labels u (from.fits u now.on_map) no_root),
          rw is (omega (arith, now.depth, depth-parent labels u no_root (omega (arith, now.depth, now.near)))),
        )

    -- its depth is written next
    pub writing_more : Writing labels v before (set depths parent (left - 1)) parent (left - 1)
    writing_more =
        let above = parent_above in
        let few = from.stand.few_junctions in
        let known = now.written.known in
        record {
          written =
              record {
                known = known_more labels depths parent (left - 1) few above.0 above.1 known;
                stays = λ w h. still w (now.written.stays w h);
                here = still v now.written.here;
              };
          on_map = above.0;
          depth = above.1;
          near = omega (arith, now.near);
        }
      where
        still : (w : ℕ) → get_or depths w 0 < junctions_of labels → get_or (set depths parent (left - 1)) w 0 < junctions_of labels
        still =
            stays-more labels depths parent (left - 1) from.stand.few_junctions parent_above.0 parent_above.1 (omega (arith, now.near))
            now.written.known.places

-- ---- All depths

-- The depths of the junctions below v are known
pub record Filling (labels depths : List ℕ) (v : ℕ) : Type 0 where
  pub known : DepthsKnown labels depths
  pub few : v ≤ junctions_of labels
  pub below : (w : ℕ) → w < v → get_or depths w 0 < junctions_of labels

module _
    {labels : List ℕ} (stand : ParentsStand labels) {n : ℕ} (size : n ≡ junctions_of labels) {r : Bool} (all : r ≡ every (parent_fits labels) (junctions_of labels))
  where
    module _ (fine : not r ≡ false) where
      -- where every parent fits, each junction may be climbed from
      all_hold : every (parent_fits labels) (junctions_of labels) ≡ true
      all_hold = sym all ∙ not-false r fine

      pub can_climb : (v : ℕ) → v < n → Climbable labels n v
      can_climb v h =
          record {
            stand = stand;
            size = size;
            fits = λ w l. every_holds (parent_fits labels) (junctions_of labels) all_hold l;
            on_map = omega arith;
          }

      module _ {depths after : List ℕ} {v : ℕ} {settled : Bool} (now : Filling labels depths v) (more : v < n) (does : DepthSettled labels v depths after settled) where
        -- a chain that returns ends it too
        pub filling-returns : not settled ≡ true → ParentsTested labels after false
        unfolding chain_ends
        filling-returns e =
            record {
              is =
                  sym
                  (and_false_right (every (parent_fits labels) (junctions_of labels))
                  (every-fails (chain_ends labels) (junctions_of labels) {i = v} (omega arith)
                  (le-ltb (depth_of labels v) (junctions_of labels) (does.returns (not-true settled e)))));
              filled = λ z. absurd (false≢true z);
              places = does.places;
            }

      -- all are filled
      pub filling_end : {depths : List ℕ} {v : ℕ} → Filling labels depths v → n ≤ v → ParentsTested labels depths true
      unfolding chain_ends
      filling_end {depths} {v} now over =
          record {
            is = sym (and_true all_hold (every_all (chain_ends labels) (junctions_of labels) (λ w l. lt-ltb (depth_of labels w) (junctions_of labels) (omega (arith, below w l, depth w l)))));
            filled = λ z. record { places = now.known.places; depth = depth };
            places = now.known.places;
          }
        where
          below : (w : ℕ) → w < junctions_of labels → get_or depths w 0 < junctions_of labels
          below w l = now.below w (omega arith)

          depth : (w : ℕ) → w < junctions_of labels → get_or depths w 0 ≡ depth_of labels w
          depth w l = now.known.right w l (below w l)

-- ---- Climbing k steps

module _ {labels : List ℕ} {v k steps u : ℕ} (fit : ParentsFit labels) (below : v < junctions_of labels) (shallow : k ≤ depth_of labels v) (is : u ≡ ancestor_of labels v steps) where
  -- up to the k-th ancestor the climb stays on the map
  pub climb_on_map : steps ≤ k → u < junctions_of labels
  climb_on_map few = rw is (climbed fit steps v below (omega arith)).on_map

  pub climb_end : steps ≤ k → k ≤ steps → AncestorRead labels v k u
  climb_end few all = record { is = is ∙ ap (ancestor_of labels v) same; on_map = climb_on_map few }
    where
      same : steps ≡ k
      same = omega arith

-- one step more
pub climb-more : (labels : List ℕ) (v steps : ℕ) {u parent : ℕ} → u ≡ ancestor_of labels v steps → parent ≡ parent_at labels u → parent ≡ ancestor_of labels v (steps + 1)
climb-more labels v steps now is = is ∙ (ap (parent_at labels) now ∙ sym (ancestor-more labels v steps))

-- ---- The depths of two junctions

module _
    {labels depths : List ℕ} (fit : ParentsFit labels) (filled : DepthsFilled labels depths)
    (u v : ℕ) (u-below : u < junctions_of labels) (v_below : v < junctions_of labels)
  where
    -- the depths of both fit
    pub depths_small : (get_or depths u 0 < 1024) × (get_or depths v 0 < 1024)
    depths_small = (
      omega (arith, filled.depth u u-below, fit.ends u u-below, fit.few_junctions),
      omega (arith, filled.depth v v_below, fit.ends v v_below, fit.few_junctions),
    )
