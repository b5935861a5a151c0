-- The lists of one junction, walked once from its first on, give the byte of the list for each of its ancestors.
-- In this order: the walk so far; its list stands in the file; its ways.
use mathlib.Core.Path.{◌≡◌, refl, sym, ap, ◌∙◌}
use mathlib.Core.List.{List}
use Prim.Native.Nat.{ℕ, ◌+◌, ◌-◌, ◌*◌, ◌≤◌, ◌<◌}
use native.Mathlib.Decide.{ℕ_discrete}
use native.Mathlib.Omega.{arith}
use lib.ListN.{length, get_or, set, length-set}
use lib.Seq.{get_or-set_same, get_or-set_other}
use Rattle.paths.specs.Forest.{Above}
use Rattle.tables.specs.working.Layout.{starts_from}
use Rattle.network.specs.NetworkFile.{junctions_of}
use Rattle.forest.specs.LabelFile.{parent_at, parents_of, list_end}
use Rattle.forest.specs.Forest.{depth_of, ancestor_of}
use Rattle.forest.specs.working.Fits.{DepthsFilled}
use Rattle.forest.proofs.Chains.{ancestor-none, ancestor-more, climbed}
use Rattle.forest.proofs.Forest.{above_at, above_is_up, above_shallower}
use Rattle.stored.specs.Stored.{lists_before, place_of, list_place}
use Rattle.stored.specs.working.Formed.{ListFits, Formed, StartsFilled}
use Rattle.stored.proofs.Places.{place-next, list-takes, list_number_of_lem}
use Rattle.exact.specs.working.Sweep.{Noted}

-- The lists for the first `steps` of u's `deep` ancestors are noted; w is the last of them, or u, and the next list is at byte `here`
pub record Noting (labels : List ℕ) (u steps deep w here : ℕ) (before now : List ℕ) : Type 0 where
  pub whole : deep ≡ depth_of labels u
  pub climbed_to : w ≡ ancestor_of labels u steps
  pub place : here ≡ place_of labels (lists_before labels u + steps)
  pub one_length : length now ≡ 1024
  pub noted : (j : ℕ) → j < steps → get_or now (ancestor_of labels u (j + 1)) 0 ≡ place_of labels (lists_before labels u + j)
  pub others : (x : ℕ) → (Above (parents_of labels) x u → ⊥) → get_or now x 0 ≡ get_or before x 0

module _ {labels : List ℕ} (formed : Formed labels) {u : ℕ} (below : u < junctions_of labels) where
  -- none is noted
  pub noting_none :
      {depths tables places : List ℕ} → DepthsFilled labels depths → StartsFilled labels tables → length places ≡ 1024 →
      Noting labels u 0 (get_or depths u 0) u (get_or tables (starts_from + u) 0) places places
  noting_none depths_filled starts_filled places_length =
      record {
        whole = depths_filled.depth u below;
        climbed_to = sym (ancestor-none labels u);
        place = starts_filled.start u below ∙ ap (place_of labels) (omega arith);
        one_length = places_length;
        noted = λ j to. absurd (omega arith);
        others = λ x apart. refl;
      }

  module _ {steps deep w here : ℕ} {before now : List ℕ} (so_far : Noting labels u steps deep w here before now) (more : steps < deep) where
    some_left : steps < depth_of labels u
    some_left = omega (arith, so_far.whole)

    -- the junction reached is on the map, so its parent may be read
    pub reached_inside : 18 + 2 * w ≤ length labels
    reached_inside = omega (arith, so_far.climbed_to, (climbed formed.parents steps u below (omega (arith, some_left))).on_map, formed.parents.inside)

    -- the next list is one of the file's
    here_fits : ListFits labels here
    here_fits = rw so_far.place (formed.lists (lists_before labels u + steps) (list_number_of_lem labels below some_left))

    pub here_inside : here + 2 ≤ length labels
    here_inside = omega (arith, list-takes labels here, here_fits.inside)

    -- the parent is the next ancestor
    next_is : {parent : ℕ} → parent ≡ parent_at labels w → parent ≡ ancestor_of labels u (steps + 1)
    next_is e = e ∙ ap (parent_at labels) so_far.climbed_to ∙ sym (ancestor-more labels u steps)

    pub next_on_map : {parent : ℕ} → parent ≡ parent_at labels w → parent < junctions_of labels
    next_on_map e = omega (arith, next_is e, (climbed formed.parents (steps + 1) u below (omega (arith, some_left))).on_map)

    -- one more is noted
    pub noting_more :
        {parent next : ℕ} → parent ≡ parent_at labels w → next ≡ list_end labels here →
        Noting labels u (steps + 1) deep parent next before (set now parent here)
    noting_more {parent} {next} parent_is next_place =
        record {
          whole = so_far.whole;
          climbed_to = next_is parent_is;
          place =
              next_place ∙ ap (list_end labels) so_far.place ∙ sym (place-next labels (lists_before labels u + steps)) ∙ ap (place_of labels) (omega arith);
          one_length = length-set now parent here ∙ so_far.one_length;
          noted = λ j to. pick j to (ℕ_discrete j steps);
          others = λ x apart. get_or-set_other now parent x here 0 (λ e. apart (rw (e ∙ next_is parent_is) up)) ∙ so_far.others x apart;
        }
      where
        up : Above (parents_of labels) (ancestor_of labels u (steps + 1)) u
        up = above_is_up formed.parents (steps + 1) u below (omega (arith, some_left)) (omega arith)

        inside : parent < length now
        inside = omega (arith, next_on_map parent_is, so_far.one_length, formed.parents.few_junctions)

        -- ancestors of other depths are other junctions
        other : (j : ℕ) → j < steps → ancestor_of labels u (j + 1) ≡ parent → ⊥
        other j to e =
            omega (
              arith,
              (climbed formed.parents (j + 1) u below (omega (arith, some_left))).depth,
              (climbed formed.parents (steps + 1) u below (omega (arith, some_left))).depth,
              ap (depth_of labels) (e ∙ next_is parent_is),
            )

        pick :
            (j : ℕ) → j < steps + 1 → Dec (j ≡ steps) →
            get_or (set now parent here) (ancestor_of labels u (j + 1)) 0 ≡ place_of labels (lists_before labels u + j)
        pick j to (yes e) =
            ap (λ x. get_or (set now parent here) x 0) (ap (λ i. ancestor_of labels u (i + 1)) e ∙ sym (next_is parent_is)) ∙
            get_or-set_same now parent here 0 inside ∙ so_far.place ∙ ap (place_of labels) (omega arith)
        pick j to (no apart) =
            get_or-set_other now parent (ancestor_of labels u (j + 1)) here 0 (other j (omega arith)) ∙ so_far.noted j (omega arith)

  -- all are noted
  pub noting_all :
      {steps deep w here : ℕ} {before now : List ℕ} → Noting labels u steps deep w here before now → deep ≤ steps → Noted labels u before now
  unfolding list_place
  noting_all {now = now} so_far all =
      record { one_length = so_far.one_length; above = λ w up. own w up; others = so_far.others }
    where
      own : (w : ℕ) → Above (parents_of labels) w u → get_or now w 0 ≡ list_place labels u w
      own w up =
          let shallower : depth_of labels w < depth_of labels u = above_shallower labels formed.parents.ends up in
          ap (λ x. get_or now x 0) (sym (above_at formed.parents up).is ∙ ap (ancestor_of labels u) (omega arith)) ∙
          so_far.noted (depth_of labels u - depth_of labels w - 1) (omega (arith, so_far.whole)) ∙ ap (place_of labels) (omega arith)
