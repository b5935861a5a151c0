-- The marks of the hoplinks: what a road marks, and how the marks fill, road by road.
-- In this order: a road between two junctions; road k of the file; the marks of the roads below k, at the start, with one road more, and at the end.
use mathlib.Core.Path.{◌≡◌, refl, sym, ap, ◌∙◌}
use mathlib.Core.Logic.{◌⊎◌, inl, inr, ⊎_elim}
use mathlib.Core.Bool.{Bool, true, false, false≢true}
use mathlib.Core.List.{List}
use Prim.Native.Nat.{ℕ, ◌+◌, ◌-◌, ◌*◌, ◌≤◌, ◌<◌}
use native.Mathlib.Decide.{ℕ_discrete}
use native.Mathlib.Omega.{arith}
use lib.ListN.{length, get_or, set, length-set}
use lib.Seq.{get_or-set_same, get_or-set_other}
use Rattle.paths.specs.Weights.{weights, energy, pair}
use Rattle.paths.specs.Forest.{Above, Ancestor, Related, WorkingSet, itself, crossing}
use Rattle.refusals.proofs.Order.{every_holds}
use Rattle.file_bytes.specs.working.Reads.{ReadU16}
use Rattle.network.specs.NetworkFile.{junctions_of, roads_of, road_time, road_energy, RoadArc, network_of}
use Rattle.network.proofs.Arcs.{two_way}
use Rattle.forest.specs.LabelFile.{parents_of}
use Rattle.forest.specs.Forest.{depth_of, ancestor_of, is_ancestor, road_joins}
use Rattle.forest.specs.working.Fits.{ParentsFit, DepthsFilled}
use Rattle.stored.specs.working.Formed.{FilesFit}
use Rattle.forest.proofs.Chains.{climbed}
use Rattle.forest.proofs.Forest.{above_shallower, above_at, is_ancestor_sound, is_ancestor_complete, low_on_map, high_on_map, joined-related}
use Rattle.hoplinks.specs.working.Meeting.{HopMarks}
use Rattle.hoplinks.specs.working.Marking.{OneMark, OnBranch, CrossingDepth, crosses, passes_by, RoadMark}
use Rattle.hoplinks.proofs.Branches.{no_climb, no_deeper, shallower_ancestor, strictly-above, stays-above}

-- ---- A road between two junctions

module _
    {labels depths : List ℕ} (fit : ParentsFit labels) (filled : DepthsFilled labels depths)
    {l upper lower : ℕ} (l-below : l < junctions_of labels) (branch : OnBranch labels upper lower)
  where
    -- their depths
    l_depth : get_or depths l 0 ≡ depth_of labels l
    l_depth = filled.depth l l-below

    upper-depth : get_or depths upper 0 ≡ depth_of labels upper
    upper-depth = filled.depth upper branch.upper_on_map

    lower-depth : get_or depths lower 0 ≡ depth_of labels lower
    lower-depth = filled.depth lower branch.lower_on_map

    -- upper is no less deep than l
    pub upper-deep : get_or depths l 0 ≤ get_or depths upper 0 → CrossingDepth labels l upper lower (get_or depths l 0)
    upper-deep h = passes_by (λ above below. omega (arith, above_shallower labels fit.ends above, l_depth, upper-depth)) l_depth

    -- lower is less deep than l
    pub lower-shallow : get_or depths lower 0 < get_or depths l 0 → CrossingDepth labels l upper lower (get_or depths l 0)
    lower-shallow h = passes_by (λ above below. omega (arith, no_deeper fit below, l_depth, lower-depth)) l_depth

    module _ {under : Bool} (is : under ≡ is_ancestor labels l lower) where
      -- l is not above lower
      pub lower-elsewhere : under ≡ false → CrossingDepth labels l upper lower (get_or depths l 0)
      lower-elsewhere e =
          passes_by (λ above below. false≢true (sym e ∙ (is ∙ is_ancestor_complete fit branch.lower_on_map below))) l_depth

      -- l is between them
      pub road-crosses : under ≡ true → get_or depths upper 0 < get_or depths l 0 → CrossingDepth labels l upper lower (get_or depths upper 0)
      road-crosses e h = crosses (strictly-above fit (stays-above fit (inr branch.above) below (omega (arith, shallow))) shallow) below upper-depth
        where
          below : Ancestor (parents_of labels) l lower
          below = is_ancestor_sound fit l lower branch.lower_on_map (sym is ∙ e)

          shallow : depth_of labels upper < depth_of labels l
          shallow = omega (arith, l_depth, upper-depth)

-- ---- Road k of the file

-- Two junctions are the other two, in their order or turned round
abbrev SameEnds : ℕ → ℕ → ℕ → ℕ → Type 0
SameEnds a b c d = ((a ≡ c) × (b ≡ d)) ⊎ ((a ≡ d) × (b ≡ c))

-- a road has two ends
same-road : {net : List ℕ} {a b c d k : ℕ} {w z : (weights energy).Figure} → RoadArc net a b k w → RoadArc net c d k z → SameEnds a b c d
same-road p q =
    ⊎_elim
    (λ e. ⊎_elim (λ f. inl (e.0 ∙ sym f.0, e.1 ∙ sym f.1)) (λ f. inr (e.0 ∙ sym f.1, e.1 ∙ sym f.0)) q.ends)
    (λ e. ⊎_elim (λ f. inr (e.0 ∙ sym f.1, e.1 ∙ sym f.0)) (λ f. inl (e.0 ∙ sym f.0, e.1 ∙ sym f.1)) q.ends)
    p.ends

module _ {net labels : List ℕ} (fit : ParentsFit labels) {l upper lower k : ℕ} {w : (weights energy).Figure} (arc : RoadArc net upper lower k w) (branch : OnBranch labels upper lower) where
  -- a road that ends below l and starts above it starts at its upper end
  starts_up : {h end : ℕ} {z : (weights energy).Figure} → Above (parents_of labels) h l → Ancestor (parents_of labels) l end → RoadArc net h end k z → (h ≡ upper) × (end ≡ lower)
  starts_up {h} {end} above below other = ⊎_elim (λ e. e) (λ e. absurd (turned (rw e.0 at above) (rw e.1 at below))) (same-road other arc)
    where
      turned : Above (parents_of labels) lower l → Ancestor (parents_of labels) l upper → ⊥
      turned p q = omega (arith, above_shallower labels fit.ends p, no_deeper fit q, above_shallower labels fit.ends branch.above)

  -- the depth that it marks
  crossing_marks : {r : ℕ} → CrossingDepth labels l upper lower r → RoadMark net labels l k r
  crossing_marks {r} (crosses above below is) =
      record {
        up = omega (arith, above_shallower labels fit.ends above);
        right = rw (is, (above_at fit above).is) (crossing above (record { end = lower; below = below; number = k; weighs = w; arc = inl arc }));
        all = λ p q other. is ∙ ap (depth_of labels) (sym (starts_up p q other).0);
      }
  crossing_marks {r} (passes_by none is) =
      record {
        up = omega arith;
        right = itself (no_climb labels l (depth_of labels l) r (omega arith));
        all = λ p q other. let e = starts_up p q other in absurd (none (rw e.0 at p) (rw e.1 at q));
      }

module _
    {net labels depths : List ℕ} (beside : FilesFit net labels) (filled : DepthsFilled labels depths) {k low high : ℕ}
    (stands : k < roads_of net) (low-is : ReadU16 net (16 + 8 * k) low) (high_is : ReadU16 net (18 + 8 * k) high)
  where
    fit : ParentsFit labels
    fit = beside.formed.parents

    low_below : low < junctions_of labels
    low_below = low_on_map net labels beside.network beside.one_map k stands low-is.is

    high-below : high < junctions_of labels
    high-below = high_on_map net labels beside.network beside.one_map k stands high_is.is

    related : Related (parents_of labels) low high
    related = rw (low-is.is, high_is.is) (joined-related fit beside.network beside.one_map k stands (every_holds (road_joins net labels) (roads_of net) beside.joins stands))

    forth : RoadArc net low high k (pair (road_time net k) (road_energy net k))
    forth = record { stands = stands; ends = inl (low-is.is, high_is.is); weighs = refl; slow = beside.network.takes_time k stands }

    -- the end that is less deep is above the other
    pub low_branch : get_or depths low 0 < get_or depths high 0 → OnBranch labels low high
    low_branch h =
        record { upper_on_map = low_below; lower_on_map = high-below; above = strictly-above fit (shallower_ancestor fit related (omega (arith, shallow))) shallow }
      where
        shallow : depth_of labels low < depth_of labels high
        shallow = omega (arith, filled.depth low low_below, filled.depth high high-below)

    pub high-branch : get_or depths high 0 ≤ get_or depths low 0 → OnBranch labels high low
    high-branch h = record { upper_on_map = high-below; lower_on_map = low_below; above = ⊎_elim (λ e. absurd (apart e)) (λ above. above) up }
      where
        apart : high ≡ low → ⊥
        apart e = omega (arith, low-is.is, high_is.is, beside.network.low_below_high k stands)

        up : Ancestor (parents_of labels) high low
        up = shallower_ancestor fit (⊎_elim inr inl related) (omega (arith, filled.depth low low_below, filled.depth high high-below))

    -- the depth that a branch marks, road k marks
    pub low_marks : {l r : ℕ} → get_or depths low 0 < get_or depths high 0 → CrossingDepth labels l low high r → RoadMark net labels l k r
    low_marks h c = crossing_marks fit forth (low_branch h) c

    pub high_marks : {l r : ℕ} → get_or depths high 0 ≤ get_or depths low 0 → CrossingDepth labels l high low r → RoadMark net labels l k r
    high_marks h c = crossing_marks fit (two_way forth) (high-branch h) c

-- ---- The marks of the roads below k

-- l is marked, what is marked is in its working set, what the roads below k put there is marked, and a mark is 0 or 1
pub record Marking (net labels : List ℕ) (l : ℕ) (marks : List ℕ) (k : ℕ) : Type 0 where
  pub places : length marks ≡ 1024
  pub own : get_or marks (depth_of labels l) 0 ≡ 1
  pub small : (j : ℕ) → j ≤ depth_of labels l → get_or marks j 0 ≤ 1
  pub right : (j : ℕ) → j ≤ depth_of labels l → get_or marks j 0 ≡ 1 → WorkingSet (network_of net) (parents_of labels) l (ancestor_of labels l (depth_of labels l - j))
  pub all : {h end i : ℕ} {w : (weights energy).Figure} → i < k → Above (parents_of labels) h l → Ancestor (parents_of labels) l end → RoadArc net h end i w → get_or marks (depth_of labels h) 0 ≡ 1

-- no road yet: l alone
pub marking-start : {net labels marks : List ℕ} {l own : ℕ} → own ≡ depth_of labels l → OneMark marks own → Marking net labels l marks 0
marking-start {net} {labels} {marks} {l} {own} is one =
    record { places = one.places; own = rw (← is) one.last; small = λ j h. small j h (ℕ_discrete j own); right = λ j h e. pick j h e (ℕ_discrete j own); all = λ below p q arc. absurd (omega arith) }
  where
    pick : (j : ℕ) → j ≤ depth_of labels l → get_or marks j 0 ≡ 1 → Dec (j ≡ own) → WorkingSet (network_of net) (parents_of labels) l (ancestor_of labels l (depth_of labels l - j))
    pick j h e (yes same) = itself (no_climb labels l (depth_of labels l) j (omega arith))
    pick j h e (no apart) = absurd (omega (arith, one.others j (omega arith)))

    small : (j : ℕ) → j ≤ depth_of labels l → Dec (j ≡ own) → get_or marks j 0 ≤ 1
    small j h (yes same) = omega (arith, ap (λ i. get_or marks i 0) same, one.last)
    small j h (no apart) = omega (arith, one.others j (omega arith))

-- a mark stays
mark_stays : (marks : List ℕ) (at j : ℕ) → at < length marks → get_or marks j 0 ≡ 1 → get_or (set marks at 1) j 0 ≡ 1
mark_stays marks at j inside e = pick (ℕ_discrete j at)
  where
    pick : Dec (j ≡ at) → get_or (set marks at 1) j 0 ≡ 1
    pick (yes same) = rw same (get_or-set_same marks at 1 0 inside)
    pick (no apart) = get_or-set_other marks at j 1 0 apart ∙ e

module _ {net labels : List ℕ} (fit : ParentsFit labels) {l : ℕ} (l-below : l < junctions_of labels) where
  -- what a road marks has a place
  pub mark_inside : {k r : ℕ} → RoadMark net labels l k r → r < 1024
  mark_inside mark = omega (arith, mark.up, fit.ends l l-below, fit.few_junctions)

  -- one road more
  pub marking-more : {marks : List ℕ} {k r : ℕ} → Marking net labels l marks k → RoadMark net labels l k r → Marking net labels l (set marks r 1) (k + 1)
  marking-more {marks} {k} {r} now mark =
      record {
        places = simp length-set now.places;
        own = mark_stays marks r (depth_of labels l) inside now.own;
        small = λ j h. small j h (ℕ_discrete j r);
        right = λ j h e. right j h e (ℕ_discrete j r);
        all = λ {h} {end} {i} {w} below p q arc. all below p q arc (ℕ_discrete i k);
      }
    where
      inside : r < length marks
      inside = omega (arith, mark_inside mark, now.places)

      right : (j : ℕ) → j ≤ depth_of labels l → get_or (set marks r 1) j 0 ≡ 1 → Dec (j ≡ r) → WorkingSet (network_of net) (parents_of labels) l (ancestor_of labels l (depth_of labels l - j))
      right j h e (yes same) = rw same mark.right
      right j h e (no apart) = now.right j h (sym (get_or-set_other marks r j 1 0 apart) ∙ e)

      small : (j : ℕ) → j ≤ depth_of labels l → Dec (j ≡ r) → get_or (set marks r 1) j 0 ≤ 1
      small j h (yes same) = omega (arith, ap (λ i. get_or (set marks r 1) i 0) same, get_or-set_same marks r 1 0 inside)
      small j h (no apart) = omega (arith, get_or-set_other marks r j 1 0 apart, now.small j h)

      all : {h end i : ℕ} {w : (weights energy).Figure} → i < k + 1 → Above (parents_of labels) h l → Ancestor (parents_of labels) l end → RoadArc net h end i w → Dec (i ≡ k) → get_or (set marks r 1) (depth_of labels h) 0 ≡ 1
      all below p q arc (yes same) = rw (← mark.all p q (rw same at arc)) (get_or-set_same marks r 1 0 inside)
      all {h} below p q arc (no apart) = mark_stays marks r (depth_of labels h) inside (now.all (omega arith) p q arc)

  -- all roads
  pub marking_end : {marks : List ℕ} {k : ℕ} → Marking net labels l marks k → roads_of net ≤ k → HopMarks net labels l marks
  marking_end {marks} {k} now over = record { marks_length = now.places; small = now.small; marked = now.right; all_marked = all_marked }
    where
      all_marked : (j : ℕ) → j ≤ depth_of labels l → WorkingSet (network_of net) (parents_of labels) l (ancestor_of labels l (depth_of labels l - j)) → get_or marks j 0 ≡ 1
      all_marked j h w = rw (← depth) (found w)
        where
          depth : depth_of labels (ancestor_of labels l (depth_of labels l - j)) ≡ j
          depth = omega (arith, (climbed fit (depth_of labels l - j) l l-below (omega arith)).depth)

          found : {u : ℕ} → WorkingSet (network_of net) (parents_of labels) l u → get_or marks (depth_of labels u) 0 ≡ 1
          found (itself e) = rw e now.own
          found (crossing above into) = ⊎_elim (λ a. now.all (reached a) above into.below a) (λ a. now.all (reached a) above into.below (two_way a)) into.arc
            where
              reached : {x y i : ℕ} {z : (weights energy).Figure} → RoadArc net x y i z → i < k
              reached a = omega (arith, a.stands)
