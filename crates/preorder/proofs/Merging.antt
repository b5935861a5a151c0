-- Blocks are put into their parents' blocks, the deepest first.
-- In this order: what counts as done; no junction yet; a root; a child; a level; all.
use mathlib.Core.Path.{◌≡◌, refl, sym, ap, ◌∙◌}
use mathlib.Core.Logic.{inl, inr}
use mathlib.Core.List.{List}
use Prim.Native.Nat.{ℕ, ◌+◌, ◌*◌, ◌≤◌, ◌<◌}
use native.Mathlib.Decide.{ℕ_discrete, dec_lt}
use native.Mathlib.Omega.{arith}
use lib.ListN.{length, get_or, set, replicate, length-set, length-replicate, get_or-replicate}
use lib.Seq.{get_or-set_same, get_or-set_other}
use Rattle.network.specs.NetworkFile.{junctions_of}
use Rattle.forest.specs.LabelFile.{parent_at, no_parent}
use Rattle.forest.specs.Forest.{depth_of}
use Rattle.forest.specs.working.Fits.{ParentsFit}
use Rattle.forest.proofs.Chains.{IsRoot, root?, Climbed, one_up}
use Rattle.preorder.specs.working.Levels.{First, LevelsFrom, Deeper}
use Rattle.preorder.specs.working.Blocks.{Apart, sum_of, Merged, AllMerged, OffsetsSmall}
use Rattle.preorder.proofs.Sums.{sum_set, place_in_sum, sum_ones}

-- ---- What counts as done

-- the same junctions are done
module _ {labels sizes offsets : List ℕ} {total d v e x : ℕ} where
  merged_same :
      ((w : ℕ) → w < junctions_of labels → Deeper labels e x w → Deeper labels d v w) →
      ((w : ℕ) → w < junctions_of labels → Deeper labels d v w → Deeper labels e x w) →
      Merged labels sizes offsets total d v →
      Merged labels sizes offsets total e x
  merged_same back forth now =
      let blocks = now.blocks in
      let rests = now.rests in
      record {
        blocks =
            record {
              size_places = blocks.size_places;
              offset_places = blocks.offset_places;
              itself = blocks.itself;
              small = blocks.small;
              of_root = λ w h done. blocks.of_root w h (back w h done);
              of_child = λ w h done. blocks.of_child w h (back w h done);
              apart = λ u w h k p q. blocks.apart u w h k (back u h p) (back w k q);
            };
        rests =
            record {
              rests = rests.rests;
              places = rests.places;
              rest = λ w h left. rests.rest w h (λ done. left (forth w h done));
              all = rests.all;
            };
      }

-- ---- No junction yet

-- no junction is as deep as there are junctions
pub merged_none :
    {labels heads nexts sizes offsets : List ℕ} →
    ParentsFit labels →
    LevelsFrom labels heads nexts sizes 0 →
    length offsets ≡ 1024 →
    Merged labels sizes offsets 0 (junctions_of labels) 1024
merged_none {labels} {sizes = sizes} {offsets} fit levels places =
    record {
      blocks =
          record {
            size_places = levels.size_places;
            offset_places = places;
            itself = λ w h. omega (arith, levels.alone w (omega arith) h);
            small = λ w h. omega (arith, levels.alone w (omega arith) h);
            of_root = λ w h done. absurd (none w h done);
            of_child = λ w h done. absurd (none w h done);
            apart = λ u w h k done. absurd (none u h done);
          };
      rests =
          record {
            rests = replicate (junctions_of labels) 1;
            places = length-replicate {A = ℕ} (junctions_of labels) 1;
            rest = λ w h left. get_or-replicate (junctions_of labels) w 1 0 h ∙ sym (levels.alone w (omega arith) h);
            all = omega (arith, sum_ones (junctions_of labels));
          };
    }
  where
    none : (w : ℕ) → w < junctions_of labels → Deeper labels (junctions_of labels) 1024 w → ⊥
    none w h done = omega (arith, fit.ends w h)

module _
    {labels sizes offsets : List ℕ} {total v : ℕ} (fit : ParentsFit labels) (below : v < junctions_of labels) (now : Merged labels sizes offsets total (depth_of labels v) v)
  where
    -- w is done before v is, and with v
    abbrev Before : ℕ → Type 0
    Before w = Deeper labels (depth_of labels v) v w

    abbrev Done : ℕ → Type 0
    Done w = Deeper labels (depth_of labels v) (v + 1) w

    few : v < 1024
    few = omega (arith, fit.few_junctions)

    -- v is not done before
    v_open : Before v → ⊥
    v_open done = omega arith

    -- what is done then was done before, or is v
    earlier : (w : ℕ) → w < junctions_of labels → (w ≡ v → ⊥) → Done w → Before w
    earlier w h apart done = omega (arith, few, fit.few_junctions)

    later : (w : ℕ) → Before w → Done w
    later w done = omega arith

    -- what v holds is in the sum of the rests
    own_rest : get_or now.rests.rests v 0 ≡ get_or sizes v 0
    own_rest = now.rests.rest v below v_open

    -- an offset that is not v's stays
    offset_stays : (x w : ℕ) → (w ≡ v → ⊥) → get_or (set offsets v x) w 0 ≡ get_or offsets w 0
    offset_stays x w apart = get_or-set_other offsets v w x 0 apart

    offset_put : (x : ℕ) → get_or (set offsets v x) v 0 ≡ x
    offset_put x = get_or-set_same offsets v x 0 (omega (arith, few, now.blocks.offset_places))

    -- where v starts behind its siblings that are done, and no block that is done changes its size, blocks stay apart
    apart_more :
        (start : ℕ) (after : List ℕ) →
        ((w : ℕ) → w < junctions_of labels → Done w → get_or after w 0 ≡ get_or sizes w 0) →
        ((w : ℕ) →
        w < junctions_of labels →
        Before w →
        parent_at labels w ≡ parent_at labels v →
        get_or offsets w 0 + get_or sizes w 0 ≤ start) →
        (u w : ℕ) →
        u < junctions_of labels →
        w < junctions_of labels →
        Done u →
        Done w →
        parent_at labels u ≡ parent_at labels w →
        (u ≡ w → ⊥) →
        Apart (set offsets v start) after u w
    apart_more start after keeps behind u w h k p q same other =
        rw (keeps u h p, keeps w k q) (pick (ℕ_discrete u v) (ℕ_discrete w v))
      where
        pick : Dec (u ≡ v) → Dec (w ≡ v) → Apart (set offsets v start) sizes u w
        pick (yes a) (yes b) = absurd (other (a ∙ sym b))
        pick (yes a) (no b) =
            inr (rw (a, offset_put start, offset_stays start w b) (behind w k (earlier w k b q) (sym same ∙ ap (parent_at labels) a)))
        pick (no a) (yes b) =
            inl (rw (b, offset_put start, offset_stays start u a) (behind u h (earlier u h a p) (same ∙ ap (parent_at labels) b)))
        pick (no a) (no b) =
            rw (offset_stays start u a, offset_stays start w b) (now.blocks.apart u w h k (earlier u h a p) (earlier w k b q) same other)

    -- ---- A root

    module _ {parent : ℕ} (read : parent ≡ parent_at labels v) (none : parent ≡ no_parent) where
      root : parent_at labels v ≡ no_parent
      root = sym read ∙ none

      -- the total stays within the count
      pub root-total : total + get_or sizes v 0 ≤ 1024
      root-total =
          omega (arith, own_rest, place_in_sum now.rests.rests v (omega (arith, now.rests.places)), now.rests.all, fit.few_junctions)

      pub merged_root : Merged labels sizes (set offsets v total) (total + get_or sizes v 0) (depth_of labels v) (v + 1)
      merged_root =
          record {
            blocks =
                record {
                  size_places = now.blocks.size_places;
                  offset_places = length-set offsets v total ∙ now.blocks.offset_places;
                  itself = now.blocks.itself;
                  small = now.blocks.small;
                  of_root = λ w h done is. of_root w h done is (ℕ_discrete w v);
                  of_child = λ w h done other. of_child w h done other (ℕ_discrete w v);
                  apart =
                      apart_more total sizes (λ w h done. refl) (λ w h done same. now.blocks.of_root w h done (same ∙ root));
                };
            rests =
                record {
                  rests = set now.rests.rests v 0;
                  places = length-set now.rests.rests v 0 ∙ now.rests.places;
                  rest = λ w h left. rest w h left (ℕ_discrete w v);
                  all = omega (arith, own_rest, sum_set now.rests.rests v 0 (omega (arith, now.rests.places)), now.rests.all);
                };
          }
        where
          of_root :
              (w : ℕ) →
              w < junctions_of labels →
              Done w →
              parent_at labels w ≡ no_parent →
              Dec (w ≡ v) →
              get_or (set offsets v total) w 0 + get_or sizes w 0 ≤ total + get_or sizes v 0
          of_root w h done is (yes same) = rw (same, offset_put total) (omega arith)
          of_root w h done is (no other) =
              rw (offset_stays total w other) (omega (arith, now.blocks.of_root w h (earlier w h other done) is))

          of_child :
              (w : ℕ) →
              w < junctions_of labels →
              Done w →
              (parent_at labels w ≡ no_parent → ⊥) →
              Dec (w ≡ v) →
              (1 ≤ get_or (set offsets v total) w 0) × (get_or (set offsets v total) w 0 + get_or sizes w 0 ≤ get_or sizes (parent_at labels w) 0)
          of_child w h done other (yes same) = absurd (other (rw same root))
          of_child w h done other (no apart) =
              rw (offset_stays total w apart) (now.blocks.of_child w h (earlier w h apart done) other)

          rest : (w : ℕ) → w < junctions_of labels → (Done w → ⊥) → Dec (w ≡ v) → get_or (set now.rests.rests v 0) w 0 ≡ get_or sizes w 0
          rest w h left (yes same) = absurd (left (rw same (omega arith)))
          rest w h left (no other) =
              get_or-set_other now.rests.rests v w 0 0 other ∙ now.rests.rest w h (λ done. left (later w done))

    -- ---- A child

    module _ {p : ℕ} (is : p ≡ parent_at labels v) (child : p ≡ no_parent → ⊥) where
      -- what the parent's block has so far
      abbrev room : ℕ
      room = get_or sizes p 0

      -- both blocks together
      abbrev whole : ℕ
      whole = room + get_or sizes v 0

      up : Climbed labels v 1 p
      up = rw is (one_up fit v below (λ root. child (is ∙ root)))

      pub parent-inside : p < 1024
      parent-inside = omega (arith, up.on_map, fit.few_junctions)

      parent-other : v ≡ p → ⊥
      parent-other e = omega (arith, up.depth, ap (depth_of labels) e)

      -- the parent is not done, neither before nor after
      parent_open : Done p → ⊥
      parent_open done = omega (arith, up.depth, few)

      parent-rest : get_or now.rests.rests p 0 ≡ room
      parent-rest = now.rests.rest p up.on_map (λ done. parent_open (later p done))

      size-stays : (x w : ℕ) → (w ≡ p → ⊥) → get_or (set sizes p x) w 0 ≡ get_or sizes w 0
      size-stays x w other = get_or-set_other sizes p w x 0 other

      size_put : (x : ℕ) → get_or (set sizes p x) p 0 ≡ x
      size_put x = get_or-set_same sizes p x 0 (omega (arith, parent-inside, now.blocks.size_places))

      done_keeps : (x w : ℕ) → w < junctions_of labels → Done w → get_or (set sizes p x) w 0 ≡ get_or sizes w 0
      done_keeps x w h done = size-stays x w (λ e. parent_open (rw e at done))

      -- no block loses a place
      grown : (w : ℕ) → get_or sizes w 0 ≤ get_or (set sizes p whole) w 0
      grown w = pick (ℕ_discrete w p)
        where
          pick : Dec (w ≡ p) → get_or sizes w 0 ≤ get_or (set sizes p whole) w 0
          pick (yes same) = rw (same, size_put whole) (omega arith)
          pick (no other) = rw (size-stays whole w other) (omega arith)

      -- what v holds goes to its parent
      abbrev moved : List ℕ
      moved = set (set now.rests.rests p whole) v 0

      cleared : get_or (set now.rests.rests p whole) v 0 ≡ get_or sizes v 0
      cleared = get_or-set_other now.rests.rests p v whole 0 parent-other ∙ own_rest

      moved_sum : sum_of moved ≡ sum_of now.rests.rests
      moved_sum =
          omega (
            arith,
            cleared,
            parent-rest,
            sum_set now.rests.rests p whole (omega (arith, now.rests.places, up.on_map)),
            sum_set
                (set now.rests.rests p whole)
                v
                0
                (omega (arith, now.rests.places, length-set now.rests.rests p whole)),
          )

      moved-places : length moved ≡ junctions_of labels
      moved-places =
          length-set (set now.rests.rests p whole) v 0 ∙ (length-set now.rests.rests p whole ∙ now.rests.places)

      parent-moved : get_or moved p 0 ≡ whole
      parent-moved =
          get_or-set_other (set now.rests.rests p whole) v p 0 0 (λ e. parent-other (sym e))
          ∙ get_or-set_same now.rests.rests p whole 0 (omega (arith, now.rests.places, up.on_map))

      -- both blocks together stay within the count
      pub child-total : whole ≤ 1024
      child-total =
          omega (
            arith,
            parent-moved,
            place_in_sum moved p (omega (arith, moved-places, up.on_map)),
            moved_sum,
            now.rests.all,
            fit.few_junctions,
          )

      pub merged_child : Merged labels (set sizes p whole) (set offsets v room) total (depth_of labels v) (v + 1)
      merged_child =
          record {
            blocks =
                record {
                  size_places = length-set sizes p whole ∙ now.blocks.size_places;
                  offset_places = length-set offsets v room ∙ now.blocks.offset_places;
                  itself = λ w h. omega (arith, now.blocks.itself w h, grown w);
                  small = λ w h. small w h (ℕ_discrete w p);
                  of_root = λ w h done root. of_root w h done root (ℕ_discrete w v);
                  of_child = λ w h done other. of_child w h done other (ℕ_discrete w v);
                  apart =
                      apart_more
                      room
                      (set sizes p whole)
                      (done_keeps whole)
                      (λ w h done same. rw (same ∙ sym is) at (now.blocks.of_child w h done (λ root. child (is ∙ (sym same ∙ root)))).1);
                };
            rests =
                record {
                  rests = moved;
                  places = moved-places;
                  rest = λ w h left. rest w h left (ℕ_discrete w v) (ℕ_discrete w p);
                  all = omega (arith, moved_sum, now.rests.all);
                };
          }
        where
          small : (w : ℕ) → w < junctions_of labels → Dec (w ≡ p) → get_or (set sizes p whole) w 0 ≤ 1024
          small w h (yes is-p) = rw (is-p, size_put whole) child-total
          small w h (no away) = rw (size-stays whole w away) (now.blocks.small w h)

          of_root :
              (w : ℕ) →
              w < junctions_of labels →
              Done w →
              parent_at labels w ≡ no_parent →
              Dec (w ≡ v) →
              get_or (set offsets v room) w 0 + get_or (set sizes p whole) w 0 ≤ total
          of_root w h done root (yes same) = absurd (child (is ∙ (rw same at root)))
          of_root w h done root (no other) =
              rw (offset_stays room w other, done_keeps whole w h done) (now.blocks.of_root w h (earlier w h other done) root)

          of_child :
              (w : ℕ) →
              w < junctions_of labels →
              Done w →
              (parent_at labels w ≡ no_parent → ⊥) →
              Dec (w ≡ v) →
              (1 ≤ get_or (set offsets v room) w 0)
              × (get_or (set offsets v room) w 0 + get_or (set sizes p whole) w 0
              ≤ get_or (set sizes p whole) (parent_at labels w) 0)
          of_child w h done other (yes same) =
              rw
              (same, ← is, offset_put room, size-stays whole v parent-other, size_put whole)
              (now.blocks.itself p up.on_map, omega arith)
          of_child w h done other (no apart) =
              let before = now.blocks.of_child w h (earlier w h apart done) other in
              rw
              (offset_stays room w apart, done_keeps whole w h done)
              (before.0, omega (arith, before.1, grown (parent_at labels w)))

          rest : (w : ℕ) → w < junctions_of labels → (Done w → ⊥) → Dec (w ≡ v) → Dec (w ≡ p) → get_or moved w 0 ≡ get_or (set sizes p whole) w 0
          rest w h left (yes same) is-p = absurd (left (rw same (omega arith)))
          rest w h left (no other) (yes is-p) = rw (is-p, size_put whole) parent-moved
          rest w h left (no other) (no away) =
              get_or-set_other (set now.rests.rests p whole) v w 0 0 other
              ∙ (get_or-set_other now.rests.rests p w whole 0 away
              ∙ (now.rests.rest w h (λ done. left (later w done)) ∙ sym (size-stays whole w away)))

-- ---- A level

-- two names of one depth
pub merged_as : {labels sizes offsets : List ℕ} {total d e v : ℕ} → Merged labels sizes offsets total d v → d ≡ e → Merged labels sizes offsets total e v
merged_as now same = rw same at now

module _ {labels sizes offsets : List ℕ} {total d : ℕ} (fit : ParentsFit labels) where
  -- it goes on at the next junction of the same depth
  pub merged_next : {v r : ℕ} → Merged labels sizes offsets total d v → First labels d v r → Merged labels sizes offsets total d r
  merged_next {v} {r} now first =
      merged_same (λ w h done. pick w h done (dec_lt (1024 * d + w) (1024 * depth_of labels w + v))) (λ w h done. omega (arith, first.from_on)) now
    where
      pick : (w : ℕ) → w < junctions_of labels → Deeper labels d r w → Dec (Deeper labels d v w) → Deeper labels d v w
      pick w h done (yes before) = before
      pick w h done (no behind) =
          let level : depth_of labels w ≡ d = omega (arith, first.few, fit.few_junctions) in
          absurd (first.skips w (omega arith) (omega arith) h level)

-- ---- All

-- with all merged the offsets are small
pub offsets_small : {labels sizes offsets : List ℕ} → ParentsFit labels → AllMerged labels sizes offsets → OffsetsSmall labels offsets
offsets_small {labels} {offsets = offsets} fit all = record { places = all.offset_places; small = λ w h. pick w h (root? labels w) }
  where
    pick : (w : ℕ) → w < junctions_of labels → Dec (IsRoot labels w) → get_or offsets w 0 ≤ 1024
    pick w h (yes root) = omega (arith, all.of_root w h (omega (arith, fit.few_junctions)) root, fit.few_junctions)
    pick w h (no child) =
        omega (
          arith,
          all.of_child w h (omega (arith, fit.few_junctions)) child,
          all.small (parent_at labels w) (one_up fit w h child).on_map,
        )
