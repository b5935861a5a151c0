-- Spots are found from the roots down.
-- In this order: one junction more; the copy.
use mathlib.Core.Path.{◌≡◌, refl, sym, ap, ◌∙◌}
use mathlib.Core.List.{List}
use Prim.Native.Nat.{ℕ, ◌+◌, ◌-◌, ◌*◌, ◌≤◌, ◌<◌}
use native.Mathlib.Decide.{ℕ_discrete}
use native.Mathlib.Omega.{arith}
use borrow.Rule.Slice.PartMut.{put_mid}
use borrow.Author.Rules.{rules}
use Rattle.std.proofs.lemmas.List.{places}
use lib.ListN.{length, take, get_or, set, length-set}
use lib.Seq.{get_or-set_same, get_or-set_other}
use Rattle.tables.specs.working.Layout.{order_from, spots_from, sizes_from, table_places}
use Rattle.network.specs.NetworkFile.{junctions_of}
use Rattle.forest.specs.LabelFile.{parent_at, no_parent}
use Rattle.forest.specs.Forest.{depth_of}
use Rattle.forest.specs.working.Fits.{ParentsFit}
use Rattle.forest.proofs.Chains.{Climbed, one_up}
use Rattle.preorder.specs.working.Levels.{Higher}
use Rattle.preorder.specs.working.Blocks.{OffsetsSmall, Placed, CopiedBelow}

-- ---- One junction more

module _
    {labels offsets spots : List ℕ} {v : ℕ} (fit : ParentsFit labels) (below : v < junctions_of labels) (few : OffsetsSmall labels offsets)
    (now : Placed labels offsets spots (depth_of labels v) v)
  where
    -- what is done then was done before, or is v
    earlier : (w : ℕ) → w < junctions_of labels → (w ≡ v → ⊥) → Higher labels (depth_of labels v) (v + 1) w → Higher labels (depth_of labels v) v w
    earlier w h other done = omega (arith, fit.few_junctions)

    -- the parent of what is done is higher, so it is not v
    module _ (w : ℕ) (h : w < junctions_of labels) (done : Higher labels (depth_of labels v) (v + 1) w) (child : parent_at labels w ≡ no_parent → ⊥) where
      up : Climbed labels w 1 (parent_at labels w)
      up = one_up fit w h child

      parent-other : parent_at labels w ≡ v → ⊥
      parent-other e = omega (arith, up.depth, ap (depth_of labels) e, fit.few_junctions)

    module _ (x : ℕ) where
      put : get_or (set spots v x) v 0 ≡ x
      put = get_or-set_same spots v x 0 (omega (arith, now.places, fit.few_junctions))

      stays : (w : ℕ) → (w ≡ v → ⊥) → get_or (set spots v x) w 0 ≡ get_or spots w 0
      stays w other = get_or-set_other spots v w x 0 other

      -- with the spot that v is to have, one more is placed
      placed-more :
          x ≤ 1024 * (depth_of labels v + 1) →
          (parent_at labels v ≡ no_parent → x ≡ get_or offsets v 0) →
          ((parent_at labels v ≡ no_parent → ⊥) → x ≡ get_or spots (parent_at labels v) 0 + get_or offsets v 0) →
          Placed labels offsets (set spots v x) (depth_of labels v) (v + 1)
      placed-more bound as-root as-child =
          record {
            places = length-set spots v x ∙ now.places;
            of_root = λ w h done root. of_root w h done root (ℕ_discrete w v);
            of_child = λ w h done child. rw (stays (parent_at labels w) (parent-other w h done child)) (of_child w h done child (ℕ_discrete w v));
            small = λ w h done. small w h done (ℕ_discrete w v);
          }
        where
          of_root :
              (w : ℕ) →
              w < junctions_of labels →
              Higher labels (depth_of labels v) (v + 1) w →
              parent_at labels w ≡ no_parent →
              Dec (w ≡ v) →
              get_or (set spots v x) w 0 ≡ get_or offsets w 0
          of_root w h done root (yes same) = rw (same, put) (as-root (rw same at root))
          of_root w h done root (no other) = stays w other ∙ now.of_root w h (earlier w h other done) root

          of_child :
              (w : ℕ) →
              w < junctions_of labels →
              Higher labels (depth_of labels v) (v + 1) w →
              (parent_at labels w ≡ no_parent → ⊥) →
              Dec (w ≡ v) →
              get_or (set spots v x) w 0 ≡ get_or spots (parent_at labels w) 0 + get_or offsets w 0
          of_child w h done child (yes same) = rw (same, put) (as-child (rw same at child))
          of_child w h done child (no other) = stays w other ∙ now.of_child w h (earlier w h other done) child

          small : (w : ℕ) → w < junctions_of labels → Higher labels (depth_of labels v) (v + 1) w → Dec (w ≡ v) → get_or (set spots v x) w 0 ≤ 1024 * (depth_of labels w + 1)
          small w h done (yes same) = rw (same, put) bound
          small w h done (no other) = rw (stays w other) (now.small w h (earlier w h other done))

    -- a root stands at its offset
    pub placed-root :
        {parent : ℕ} → parent ≡ parent_at labels v → parent ≡ no_parent → Placed labels offsets (set spots v (get_or offsets v 0)) (depth_of labels v) (v + 1)
    placed-root read none =
        placed-more (get_or offsets v 0) (omega (arith, few.small v below)) (λ is. refl) (λ child. absurd (child (sym read ∙ none)))

    -- a child behind its parent
    module _ {p : ℕ} (is : p ≡ parent_at labels v) (child : p ≡ no_parent → ⊥) where
      above : Climbed labels v 1 p
      above = rw is (one_up fit v below (λ root. child (is ∙ root)))

      pub parent-inside : p < 1024
      parent-inside = omega (arith, above.on_map, fit.few_junctions)

      pub spot-small : get_or spots p 0 + get_or offsets v 0 ≤ 1024 * (depth_of labels v + 1)
      spot-small =
          let higher : Higher labels (depth_of labels v) v p = omega (arith, above.depth, parent-inside) in
          omega (arith, above.depth, now.small p above.on_map higher, few.small v below)

      pub placed-child : Placed labels offsets (set spots v (get_or spots p 0 + get_or offsets v 0)) (depth_of labels v) (v + 1)
      placed-child =
          placed-more (get_or spots p 0 + get_or offsets v 0) spot-small (λ root. absurd (child (is ∙ root))) (λ away. rw is)

-- ---- The copy

-- The first n of a list were copied to the table from a place on, and the others stay
record Copied (from n : ℕ) (list before after : List ℕ) : Type 0 where
  one_length : length after ≡ length before
  each : (j : ℕ) → j < n → get_or after (from + j) 0 ≡ get_or list j 0
  earlier : (j : ℕ) → j < from → get_or after j 0 ≡ get_or before j 0
  later : (j : ℕ) → from + n ≤ j → get_or after j 0 ≡ get_or before j 0

module _ (from n : ℕ) (list before part : List ℕ) where
  -- so it is with a part that is written over
  copied : part ≡ take n list → n ≤ length list → from + n ≤ length before → Copied from n list before (put_mid from (from + n - from) before part)
  copied is few inside =
      record {
        one_length = search (rules, places);
        each = λ j h. search (rules, places);
        earlier = λ j h. search (rules, places);
        later = λ j h. search (rules, places);
      }

-- three lists, each copied behind the other
pub copied_all :
    {order spots sizes tables first second third : List ℕ} {n : ℕ} →
    n ≤ 1024 →
    length order ≡ 1024 →
    length spots ≡ 1024 →
    length sizes ≡ 1024 →
    length tables ≡ table_places →
    first ≡ take n order →
    second ≡ take n spots →
    third ≡ take n sizes →
    CopiedBelow
    order
    spots
    sizes
    tables
    (put_mid sizes_from (sizes_from + n - sizes_from) (put_mid spots_from (spots_from + n - spots_from) (put_mid order_from (order_from + n - order_from) tables first) second) third)
    n
copied_all {order} {spots} {sizes} {tables} {first} {second} {third} {n} few order_places spot_places size_places table_full is_order is_spots is_sizes =
    let one = copied order_from n order tables first is_order (omega arith) (omega arith) in
    let two = copied spots_from n spots (put_mid order_from (order_from + n - order_from) tables first) second is_spots (omega arith) (omega (arith, one.one_length)) in
    let three =
    copied
    sizes_from
    n
    sizes
    (put_mid spots_from (spots_from + n - spots_from) (put_mid order_from (order_from + n - order_from) tables first) second)
    third
    is_sizes
    (omega arith)
    (omega (arith, one.one_length, two.one_length)) in
    record {
      places = three.one_length ∙ (two.one_length ∙ (one.one_length ∙ table_full));
      junction = λ i h. three.earlier (order_from + i) (omega arith) ∙ (two.earlier (order_from + i) (omega arith) ∙ one.each i h);
      spot = λ v h. three.earlier (spots_from + v) (omega arith) ∙ two.each v h;
      size = three.each;
      lower_stay =
          record {
            one_length = three.one_length ∙ (two.one_length ∙ one.one_length);
            stays = λ i h. three.earlier i (omega arith) ∙ (two.earlier i (omega arith) ∙ one.earlier i (omega arith));
          };
    }
