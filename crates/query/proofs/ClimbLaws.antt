-- Two climbs side by side, each list place with its ancestor. In this order: one climb; two climbs; climbs from the table of depths.
use mathlib.Core.Path.{◌≡◌, sym, ap, ◌∙◌}
use mathlib.Core.Logic.{◌⊎◌, inl, inr, ⊎_elim}
use mathlib.Core.List.{List}
use Prim.Native.Nat.{ℕ, suc, ◌+◌, ◌-◌, ◌*◌, ◌≤◌, ◌<◌}
use native.Mathlib.Decide.{ℕ_discrete}
use native.Mathlib.Omega.{arith}
use lib.ListN.{length, get_or}
use Rattle.paths.specs.Forest.{Above, Ancestor, Common}
use Rattle.tables.specs.working.Layout.{starts_from}
use Rattle.network.specs.NetworkFile.{junctions_of}
use Rattle.forest.specs.LabelFile.{parent_at, parents_of}
use Rattle.forest.specs.Forest.{depth_of, ancestor_of}
use Rattle.forest.specs.working.Fits.{DepthsFilled}
use Rattle.forest.proofs.Chains.{ancestor-none, ancestor-more, Climbed, climbed}
use Rattle.forest.proofs.Forest.{ancestor_at, ancestor_is_up, above_is_up}
use Rattle.stored.specs.Stored.{place_of}
use Rattle.stored.specs.working.Formed.{Formed, StartsFilled, ListFits}
use Rattle.hoplinks.proofs.Branches.{no_deeper, stays-above}
use Rattle.query.specs.declared.Between.{Between}
use Rattle.query.specs.declared.climbing.Climb.{Climb}
use Rattle.query.specs.working.Between.{Climbs, Steps, Abreast, ListsBetween, Leads}
use Rattle.query.proofs.ListPlaces.{count-stands}
use Rattle.query.proofs.MarkedSums.{level-next, level-fits}

-- ---- One climb

-- it starts at the junction and its first list
pub climb_starts :
    {labels tables : List ℕ} {v : ℕ} {climb : Climb} → StartsFilled labels tables → v < junctions_of labels → climb.from ≡ v → climb.up ≡ v →
    climb.at ≡ get_or tables (starts_from + v) 0 → Climbs labels v (depth_of labels v - 0) climb
climb_starts {labels} {v = v} filled on_map of up at =
    let none : depth_of labels v - (depth_of labels v - 0) ≡ 0 = omega arith in
    record {
      of = of;
      on_map = on_map;
      no_deeper = omega arith;
      up = record { is = rw none (up ∙ sym (ancestor-none labels v)); on_map = rw up on_map };
      place = at ∙ filled.start v on_map ∙ ap (place_of labels) (omega arith);
    }

-- two climbs of junctions under equal names
abreast_of :
    {labels : List ℕ} {x y x' y' level : ℕ} {near far : Climb} → x' ≡ x → y' ≡ y → Abreast labels x y level near far → Abreast labels x' y' level near far
abreast_of e f now = rw (e, f) now

module _ {labels : List ℕ} (formed : Formed labels) where
  module _ {v level : ℕ} {climb : Climb} (now : Climbs labels v level climb) where
    -- where it is
    climb_at : Climbed labels v (depth_of labels v - level) climb.up
    climb_at = rw now.up.is (climbed formed.parents (depth_of labels v - level) v now.on_map (omega arith))

    pub climb-depth : depth_of labels climb.up ≡ level
    climb-depth = omega (arith, climb_at.depth, now.no_deeper)

    climb-ancestor : Ancestor (parents_of labels) climb.up v
    climb-ancestor = rw now.up.is (ancestor_is_up formed.parents (depth_of labels v - level) v now.on_map (omega arith))

    -- an ancestor of its depth is the one
    climb-only : {u : ℕ} → Ancestor (parents_of labels) u v → depth_of labels u ≡ level → u ≡ climb.up
    climb-only up e = sym (ancestor_at formed.parents now.on_map up).is ∙ ap (λ k. ancestor_of labels v (depth_of labels v - k)) e ∙ sym now.up.is

    module _ (deep : 0 < level) where
      -- a step stays in the file
      pub climb-inside : (18 + 2 * climb.up ≤ length labels) × (climb.at + 2 ≤ length labels)
      climb-inside = (omega (arith, now.up.on_map, formed.parents.inside), count-stands list-fits)
        where
          list-fits : ListFits labels climb.at
          list-fits =
              let e : level ≡ suc (level - 1) = omega arith in
              rw (now.place, e) (level-fits formed now.on_map (omega (arith, now.no_deeper)))

  module _ {v level level' : ℕ} {below above : Climb} (now : Climbs labels v level below) (e : level ≡ suc level') (step : Steps labels below above) where
    -- one step up
    pub climb-more : Climbs labels v level' above
    climb-more =
        record {
          of = step.of_one ∙ now.of;
          on_map = now.on_map;
          no_deeper = omega (arith, now.no_deeper);
          up = record { is = up; on_map = rw up (climbed formed.parents (depth_of labels v - level') v now.on_map (omega arith)).on_map };
          place = step.next ∙ rw (now.place, e) (level-next labels v level' (omega (arith, now.no_deeper)));
        }
      where
        up : above.up ≡ ancestor_of labels v (depth_of labels v - level')
        up =
            step.parent ∙ ap (parent_at labels) now.up.is ∙ sym (ancestor-more labels v (depth_of labels v - level)) ∙
            ap (ancestor_of labels v) (omega (arith, now.no_deeper))

    -- what it comes to stands above
    pub step-above : Above (parents_of labels) above.up v
    step-above =
        rw climb-more.up.is (above_is_up formed.parents (depth_of labels v - level') v now.on_map (omega (arith, now.no_deeper)) (omega arith))

  -- ---- Two climbs

  -- at the depth of the higher junction
  pub abreast_starts :
      {x y level : ℕ} {near far : Climb} → Climbs labels x level near → Climbs labels y level far → (level ≡ depth_of labels x) ⊎ (level ≡ depth_of labels y) →
      (near.up ≡ far.up → ⊥) → Abreast labels near.from far.from level near far
  abreast_starts one two least apart =
      abreast_of one.of two.of
      (record {
        near_climbs = one;
        far_climbs = two;
        apart = apart;
        highest =
            λ u c.
            ⊎_elim
            (λ e. omega (arith, e, no_deeper formed.parents c.of_start))
            (λ e. omega (arith, e, no_deeper formed.parents c.of_finish))
            least;
      })

  module _ {x y level : ℕ} {near far : Climb} (now : Abreast labels x y level near far) where
    -- no common ancestor is so deep
    higher : (u : ℕ) → Common (parents_of labels) x y u → depth_of labels u < level
    higher u c = pick (ℕ_discrete (depth_of labels u) level)
      where
        pick : Dec (depth_of labels u ≡ level) → depth_of labels u < level
        pick (yes e) = absurd (now.apart (sym (climb-only now.near_climbs c.of_start e) ∙ climb-only now.far_climbs c.of_finish e))
        pick (no other) = omega (arith, now.highest u c)

    -- different roots have nothing above them
    pub abreast_ends : level ≤ 0 → (u : ℕ) → Common (parents_of labels) x y u → ⊥
    abreast_ends h u c = omega (arith, higher u c)

    module _ {level' : ℕ} {near' far' : Climb} (e : level ≡ suc level') (near_step : Steps labels near near') (far-step : Steps labels far far') where
      -- one step up
      pub abreast_more : (near'.up ≡ far'.up → ⊥) → Abreast labels x y level' near' far'
      abreast_more apart =
          record {
            near_climbs = climb-more now.near_climbs e near_step;
            far_climbs = climb-more now.far_climbs e far-step;
            apart = apart;
            highest = λ u c. omega (arith, higher u c);
          }

      -- the parents are one: there the branches meet
      pub abreast_meets : near'.up ≡ far'.up → ListsBetween labels x y near.at far.at level near'.up
      abreast_meets met =
          record {
            meets = record { on_map = one.up.on_map; deepest = record { common = common; below_all = below_all } };
            below_x = step-above now.near_climbs e near_step;
            below_y = rw met (step-above now.far_climbs e far-step);
            deep = e ∙ ap suc (sym (climb-depth one));
            near_is = now.near_climbs.place;
            far_is = now.far_climbs.place;
          }
        where
          one : Climbs labels x level' near'
          one = climb-more now.near_climbs e near_step

          common : Common (parents_of labels) x y near'.up
          common = record { of_start = climb-ancestor one; of_finish = rw met (climb-ancestor (climb-more now.far_climbs e far-step)) }

          below_all : (u : ℕ) → Common (parents_of labels) x y u → Ancestor (parents_of labels) u near'.up
          below_all u c = stays-above formed.parents c.of_start common.of_start (omega (arith, higher u c, climb-depth one))

-- ---- From the table of depths

-- what leads from one pair of junctions leads from the same under other names
pub leads_of : (labels : List ℕ) {x y x' y' : ℕ} (r : Between) → x' ≡ x → y' ≡ y → Leads labels x' y' r → Leads labels x y r
leads_of labels r e f h = rw (e, f) at h

-- a climb that has not begun is at its junction
pub climb_own : {labels : List ℕ} {v : ℕ} {climb : Climb} → Climbs labels v (depth_of labels v - 0) climb → climb.up ≡ v
climb_own {labels} {v} now =
    let none : depth_of labels v - (depth_of labels v - 0) ≡ 0 = omega arith in
    now.up.is ∙ rw none (ancestor-none labels v)

module _ {labels depths : List ℕ} (formed : Formed labels) (filled : DepthsFilled labels depths) where
  -- at the depth that the table has
  own_level : {v : ℕ} {climb : Climb} → Climbs labels v (depth_of labels v - 0) climb → Climbs labels v (get_or depths v 0) climb
  own_level {v} now = let e : get_or depths v 0 ≡ depth_of labels v - 0 = omega (arith, filled.depth v now.on_map) in rw e now

  -- v is no higher than u, which does not stand above it, and its climb goes to the depth of u
  module _ {u v : ℕ} {raised own : Climb} (no_higher : get_or depths u 0 ≤ get_or depths v 0)
      (climb : Climbs labels v (depth_of labels v - (get_or depths v 0 - get_or depths u 0)) raised) (own-climb : Climbs labels u (depth_of labels u - 0) own)
      (beside : Ancestor (parents_of labels) u v → ⊥) where
    raised_level : Climbs labels v (get_or depths u 0) raised
    raised_level =
        let e : get_or depths u 0 ≡ depth_of labels v - (get_or depths v 0 - get_or depths u 0) = omega (arith, filled.depth v climb.on_map) in
        rw e climb

    raised_apart : raised.up ≡ own.up → ⊥
    raised_apart e = beside (rw (e ∙ climb_own own-climb) at (climb-ancestor formed raised_level))

    -- both climb on, whichever of the two comes first
    pub raised_near : Abreast labels raised.from own.from (get_or depths u 0) raised own
    raised_near = abreast_starts formed raised_level (own_level own-climb) (inr (filled.depth u own-climb.on_map)) raised_apart

    pub raised_far : Abreast labels own.from raised.from (get_or depths u 0) own raised
    raised_far = abreast_starts formed (own_level own-climb) raised_level (inl (filled.depth u own-climb.on_map)) (λ e. raised_apart (sym e))
