-- Feet: why two junctions above one are related, and the loops over feet.
-- In this order: two ancestors of one; an ancestor's parent; the table; climbing to a junction with the same foot.
use mathlib.Core.Path.{◌≡◌, sym, ap, ◌∙◌}
use mathlib.Core.Bool.{true}
use mathlib.Core.List.{List}
use mathlib.Core.Option.{some}
use Rattle.std.specs.Prelude.{Option, None, Some}
use Prim.Native.Nat.{ℕ, suc, ◌+◌, ◌-◌, ◌≤◌, ◌<◌}
use native.Mathlib.Decide.{ℕ_discrete}
use native.Mathlib.Omega.{arith}
use lib.Dec.{leb, eqb}
use lib.ListN.{get_or, set, length-set, replicate, length-replicate, get_or-replicate}
use lib.Seq.{get_or-set_same, get_or-set_other}
use borrow.Author.Tests.{leb-true, le-leb, lt-leb, eqb-true, eq-eqb, ne_eqb}
use Rattle.refusals.proofs.Order.{and_both, and_true}
use Rattle.network.specs.NetworkFile.{junctions_of}
use Rattle.forest.specs.LabelFile.{parent_at, parents_of}
use Rattle.forest.specs.Forest.{depth_of, ancestor_of, is_ancestor}
use Rattle.forest.specs.working.Fits.{ParentsFit, DepthsFilled}
use Rattle.forest.specs.working.ParentsRead.{FeetRight, OneFoot}
use Rattle.forest.proofs.Forest.{parents-some, parent_up}
use Rattle.forest.proofs.Chains.{IsRoot, Climbed, depth-some, ancestor-none, ancestor-below, ancestor_add, ancestor-more, one_up}

-- what the test of an ancestor tells: it is no deeper, and the climb by the difference meets it
record Met (labels : List ℕ) (u v : ℕ) : Type 0 where
  no_deeper : depth_of labels u ≤ depth_of labels v
  meets : ancestor_of labels v (depth_of labels v - depth_of labels u) ≡ u

ancestor_met : (labels : List ℕ) (u v : ℕ) → is_ancestor labels u v ≡ true → Met labels u v
unfolding is_ancestor
ancestor_met labels u v e =
    let both = and_both (leb (depth_of labels u) (depth_of labels v)) (eqb (ancestor_of labels v (depth_of labels v - depth_of labels u)) u) e in
    record { no_deeper = leb-true (depth_of labels u) (depth_of labels v) both.0; meets = eqb-true (ancestor_of labels v (depth_of labels v - depth_of labels u)) u both.1 }

met_ancestor : {labels : List ℕ} {u v : ℕ} → Met labels u v → is_ancestor labels u v ≡ true
unfolding is_ancestor
met_ancestor {labels} {u} {v} met =
    and_true (le-leb (depth_of labels u) (depth_of labels v) met.no_deeper) (eq-eqb (ancestor_of labels v (depth_of labels v - depth_of labels u)) u met.meets)

-- ---- Two ancestors of one

-- of two ancestors of one junction the one that is no deeper is an ancestor of the other
pub related_by_foot :
    (labels : List ℕ) (u v foot : ℕ) → is_ancestor labels u foot ≡ true → is_ancestor labels v foot ≡ true → depth_of labels u ≤ depth_of labels v → is_ancestor labels u v ≡ true
related_by_foot labels u v foot above below h = met_ancestor (record { no_deeper = h; meets = climbed })
  where
    upper : Met labels u foot
    upper = ancestor_met labels u foot above

    lower : Met labels v foot
    lower = ancestor_met labels v foot below

    steps : depth_of labels foot - depth_of labels u ≡ depth_of labels foot - depth_of labels v + (depth_of labels v - depth_of labels u)
    steps = omega (arith, lower.no_deeper)

    climbed : ancestor_of labels v (depth_of labels v - depth_of labels u) ≡ u
    climbed =
        ap (λ w. ancestor_of labels w (depth_of labels v - depth_of labels u)) (sym lower.meets) ∙
        sym (ancestor_add labels foot (depth_of labels foot - depth_of labels v) (depth_of labels v - depth_of labels u)) ∙
        ap (ancestor_of labels foot) (sym steps) ∙
        upper.meets

-- ---- An ancestor's parent

-- a junction is above itself
pub above-itself : (labels : List ℕ) (v : ℕ) → is_ancestor labels v v ≡ true
above-itself labels v = met_ancestor (record { no_deeper = omega arith; meets = ap (ancestor_of labels v) none ∙ ancestor-none labels v })
  where
    none : depth_of labels v - depth_of labels v ≡ 0
    none = omega arith

-- the parent of an ancestor is an ancestor
pub above_parent :
    {labels : List ℕ} {u parent : ℕ} (v : ℕ) → ParentsFit labels → u < junctions_of labels → parent ≡ parent_at labels u → (IsRoot labels u → ⊥) → is_ancestor labels u v ≡ true →
    is_ancestor labels parent v ≡ true
above_parent {labels} {u} v fit below is no_root e = rw is (met_ancestor (record { no_deeper = omega (arith, met.no_deeper, deeper); meets = climbed }))
  where
    met : Met labels u v
    met = ancestor_met labels u v e

    deeper : depth_of labels (parent_at labels u) + 1 ≡ depth_of labels u
    deeper = (one_up fit u below no_root).depth

    steps : depth_of labels v - depth_of labels (parent_at labels u) ≡ depth_of labels v - depth_of labels u + 1
    steps = omega (arith, deeper, met.no_deeper)

    climbed : ancestor_of labels v (depth_of labels v - depth_of labels (parent_at labels u)) ≡ parent_at labels u
    climbed = ap (ancestor_of labels v) steps ∙ ancestor-more labels v (depth_of labels v - depth_of labels u) ∙ ap (parent_at labels) met.meets

-- ---- The table

-- a table that is right stays so where a junction below is stored
feet_more :
    {labels : List ℕ} {feet : List (Option ℕ)} (x foot : ℕ) → FeetRight labels feet → x < 1024 → is_ancestor labels x foot ≡ true → FeetRight labels (set feet x (Some foot))
feet_more {labels} {feet} x foot now inside below =
    record {
      places = length-set feet x (Some foot) ∙ now.places;
      right = λ w f l e. pick w f l e (ℕ_discrete w x);
    }
  where
    pick : (w f : ℕ) → w < junctions_of labels → get_or (set feet x (Some foot)) w None ≡ Some f → Dec (w ≡ x) → is_ancestor labels w f ≡ true
    pick w f l e (yes same) =
        let stored = get_or-set_same feet x (Some foot) None (omega (arith, now.places)) in
        let is : foot ≡ f = cc in
        rw (same, ← is) below
    pick w f l e (no apart) = now.right w f l (sym (get_or-set_other feet x w (Some foot) None apart) ∙ e)

-- no foot is known yet
pub feet_none : (labels : List ℕ) → junctions_of labels ≤ 1024 → FeetRight labels (replicate 1024 None)
feet_none labels few =
    record {
      places = length-replicate {A = Option ℕ} 1024 None;
      right = λ x foot l e.
          let none = get_or-replicate {A = Option ℕ} 1024 x None None (omega arith) in
          cc;
    }

-- The walk up from v has come to u
pub record Walking (labels : List ℕ) (feet : List (Option ℕ)) (v u : ℕ) : Type 0 where
  pub feet_right : FeetRight labels feet
  pub on_map : u < junctions_of labels
  pub above : is_ancestor labels u v ≡ true

-- it starts at v
pub walking_start : {labels : List ℕ} {feet : List (Option ℕ)} {v : ℕ} → FeetRight labels feet → v < junctions_of labels → Walking labels feet v v
walking_start {labels} {v = v} now below = record { feet_right = now; on_map = below; above = above-itself labels v }

module _ {labels : List ℕ} {feet : List (Option ℕ)} {v u : ℕ} (fit : ParentsFit labels) (now : Walking labels feet v u) where
  -- v is the foot of u
  pub walking_stored : FeetRight labels (set feet u (Some v))
  walking_stored = feet_more u v now.feet_right (omega (arith, now.on_map, fit.few_junctions)) now.above

  -- and the walk goes on to the parent, which is less deep
  module _ {parent : ℕ} (is : parents_of labels u ≡ some parent) where
    pub walking_more : Walking labels (set feet u (Some v)) v parent
    walking_more =
        record {
          feet_right = walking_stored;
          on_map = (parent_up fit is).on_map;
          above = above_parent v fit now.on_map (sym (parents-some labels is).parent) (parents-some labels is).no_root now.above;
        }

    pub walking_less : depth_of labels parent < depth_of labels u
    walking_less = omega (arith, parent_up fit is)

-- ---- Climbing to a junction with the same foot

-- The climb from v has come to w, which is below u if v is
pub record Lifting (labels : List ℕ) (u v w : ℕ) : Type 0 where
  pub on_map : w < junctions_of labels
  pub same : is_ancestor labels u w ≡ is_ancestor labels u v

module _ {labels depths : List ℕ} (fit : ParentsFit labels) (filled : DepthsFilled labels depths) {u : ℕ} (u-below : u < junctions_of labels) where
  module _ {v w : ℕ} (now : Lifting labels u v w) where
    depths_are : (get_or depths u 0 ≡ depth_of labels u) × (get_or depths w 0 ≡ depth_of labels w)
    depths_are = (filled.depth u u-below, filled.depth w now.on_map)

    -- a junction with the same foot is below u
    pub lifting_meets : {feet : List (Option ℕ)} → FeetRight labels feet → get_or depths u 0 < get_or depths w 0 → OneFoot feet u w → true ≡ is_ancestor labels u v
    lifting_meets right deeper one =
        sym (related_by_foot labels u w one.foot (right.right u one.foot u-below one.of_u) (right.right w one.foot now.on_map one.of_v) (omega (arith, depths_are)))
        ∙ now.same

    -- at the depth of u only u itself is
    pub lifting_end : get_or depths w 0 ≤ get_or depths u 0 → eqb w u ≡ is_ancestor labels u v
    unfolding is_ancestor
    lifting_end shallow = level (ℕ_discrete (depth_of labels w) (depth_of labels u)) ∙ now.same
      where
        level : Dec (depth_of labels w ≡ depth_of labels u) → eqb w u ≡ is_ancestor labels u w
        level (yes e) = rw (le-leb (depth_of labels u) (depth_of labels w) (omega arith), none) (ap (λ x. eqb x u) (sym (ancestor-none labels w)))
          where
            none : depth_of labels w - depth_of labels u ≡ 0
            none = omega arith
        level (no apart) =
            rw (lt-leb (depth_of labels u) (depth_of labels w) (omega (arith, depths_are))) (ne_eqb w u (λ e. apart (ap (depth_of labels) e)))

    module _ {parent : ℕ} (deeper : get_or depths u 0 < get_or depths w 0) (is : parent ≡ parent_at labels w) where
      one_step : Climbed labels w 1 (parent_at labels w)
      one_step = one_up fit w now.on_map (depth-some labels w (omega (arith, depths_are)))

      -- any other is below u if its parent is, which is less deep
      pub lifting_more : Lifting labels u v parent
      unfolding is_ancestor
      lifting_more = rw is (record { on_map = one_step.on_map; same = lifted ∙ now.same })
        where
          steps : depth_of labels w - depth_of labels u ≡ suc (depth_of labels (parent_at labels w) - depth_of labels u)
          steps = omega (arith, one_step.depth, depths_are)

          lifted : is_ancestor labels u (parent_at labels w) ≡ is_ancestor labels u w
          lifted =
              rw (
                le-leb (depth_of labels u) (depth_of labels w) (omega (arith, depths_are)),
                le-leb (depth_of labels u) (depth_of labels (parent_at labels w)) (omega (arith, one_step.depth, depths_are)),
                steps,
              )
              (ap (λ x. eqb x u) (sym (ancestor-below labels w (depth_of labels (parent_at labels w) - depth_of labels u))))

      pub lifting_less : depth_of labels parent < depth_of labels w
      lifting_less = rw is (omega (arith, one_step.depth))
