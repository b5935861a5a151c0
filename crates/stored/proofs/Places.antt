-- Where the lists stand. In this order: each list stands behind the one before; a number of lists further on; how many lists the
-- junctions have; entries and bytes; places inside the file; finding the list of a junction and its proper ancestor.
use mathlib.Core.Path.{◌≡◌, refl, sym, ap, ◌∙◌}
use mathlib.Core.List.{List}
use Prim.Native.Nat.{ℕ, zero, suc, ◌+◌, ◌-◌, ◌*◌, ◌≤◌, ◌<◌}
use native.Mathlib.Omega.{arith}
use native.Mathlib.Nat.{add-zero, add-suc}
use native.Mathlib.Numerals.{add-one}
use native.Mathlib.Decide.{ℕ_discrete}
use lib.ListN.{length, get_or}
use Rattle.tables.specs.working.Layout.{starts_from, firsts_from, StaysBelow}
use Rattle.network.specs.NetworkFile.{junctions_of}
use Rattle.forest.specs.LabelFile.{list_end}
use Rattle.forest.specs.Forest.{depth_of}
use Rattle.stored.specs.Stored.{lists_before, lists_of, place_of, list_place, entries_before}
use Rattle.stored.specs.working.Formed.{start_of}
use Rattle.forest.specs.working.Fits.{DepthsFilled}
use Rattle.stored.specs.working.Formed.{ListFits, Formed, StartsFilled}
use Rattle.stored.specs.working.Scanned.{further, FoundList}

module _ (labels : List ℕ) where
  -- ---- Each list stands behind the one before

  -- a list takes the two bytes of its count at least
  pub list-takes : (at : ℕ) → at + 2 ≤ list_end labels at
  unfolding list_end
  list-takes at = omega arith

  -- list number g + 1 starts where list number g ends
  pub place-next : (g : ℕ) → place_of labels (g + 1) ≡ list_end labels (place_of labels g)
  unfolding place_of
  place-next g = rw (add-one g)

  -- ---- A number of lists further on

  -- one list more
  pub further-next : (at k : ℕ) → further labels at (k + 1) ≡ list_end labels (further labels at k)
  unfolding further
  further-next at k = rw (add-one k)

  -- no list further is here
  pub further-none : (at : ℕ) → further labels at 0 ≡ at
  unfolding further
  further-none at = refl

  -- i lists behind the k-th are k + i lists
  pub further_add : (at k i : ℕ) → further labels (further labels at k) i ≡ further labels at (k + i)
  unfolding further
  further_add at k zero = rw (add-zero k)
  further_add at k (suc i) = rw (add-suc k i, further_add at k i)

  -- a later list stands further on, by the two bytes of a count at least
  pub further-rises : (at : ℕ) {i k : ℕ} → i < k → further labels at i + 2 ≤ further labels at k
  unfolding further
  further-rises at {i} {k = zero} h = absurd (omega arith)
  further-rises at {i} {k = suc k} h = pick (λ below. further-rises at below) (ℕ_discrete i k)
    where
      pick : (i < k → further labels at i + 2 ≤ further labels at k) → Dec (i ≡ k) → further labels at i + 2 ≤ list_end labels (further labels at k)
      pick f (yes e) = rw e (list-takes (further labels at k))
      pick f (no apart) = omega (arith, f (omega arith), list-takes (further labels at k))

  -- no list stands before the first
  pub further-later : (at k : ℕ) → at ≤ further labels at k
  further-later at zero = omega (arith, further-none at)
  further-later at (suc k) = omega (arith, further-rises at {i = 0} {k = suc k} (omega arith), further-none at)

  -- Of k moves from list to list, beginning at byte `at`, i are made: the place is at byte `here`
  pub record Moved (at k i here : ℕ) : Type 0 where
    pub few : i ≤ k
    pub is : here ≡ further labels at i

  -- before the first move
  pub moved_none : (at k : ℕ) → Moved at k 0 at
  moved_none at k = record { few = omega arith; is = sym (further-none at) }

  -- where the last list stands in the file, so do those before it
  pub moved_inside : {at k i here : ℕ} → Moved at k i here → i < k → further labels at k ≤ length labels → here + 2 ≤ length labels
  moved_inside {at} moved h inside = omega (arith, moved.is, further-rises at h)

  -- one move more
  pub moved_more : {at k i here next : ℕ} → Moved at k i here → i < k → next ≡ list_end labels here → Moved at k (i + 1) next
  moved_more {at} {k} {i} moved h e = record { few = omega arith; is = e ∙ ap (list_end labels) moved.is ∙ sym (further-next at i) }

  -- all moves made
  pub moved_all : {at k i here : ℕ} → Moved at k i here → k ≤ i → here ≡ further labels at k
  moved_all {at} {k} {i} moved h = moved.is ∙ ap (further labels at) (omega arith)

  -- from list number g, the list k further is number g + k
  pub further-place : (g k : ℕ) → further labels (place_of labels g) k ≡ place_of labels (g + k)
  unfolding further place_of
  further-place g zero = rw (add-zero g)
  further-place g (suc k) = rw (add-suc g k, further-place g k)

  -- ---- How many lists the junctions have

  -- v has as many lists as its depth
  pub lists_before-next : (v : ℕ) → lists_before labels (v + 1) ≡ lists_before labels v + depth_of labels v
  unfolding lists_before
  lists_before-next v = rw (add-one v)

  -- more junctions have no fewer lists
  pub lists_before-more : {v : ℕ} (w : ℕ) → v ≤ w → lists_before labels v ≤ lists_before labels w
  unfolding lists_before
  lists_before-more {v = zero} zero h = omega arith
  lists_before-more {v = suc v} zero h = absurd (omega arith)
  lists_before-more {v} (suc w) h = pick (λ below. lists_before-more w below) (ℕ_discrete v (suc w))
    where
      pick : (v ≤ w → lists_before labels v ≤ lists_before labels w) → Dec (v ≡ suc w) → lists_before labels v ≤ lists_before labels w + depth_of labels w
      pick f (yes e) = rw e (omega arith)
      pick f (no apart) = omega (arith, f (omega arith))

  -- the lists of a junction are among the file's
  pub lists_of_junction : {v : ℕ} → v < junctions_of labels → lists_before labels v + depth_of labels v ≤ lists_of labels
  lists_of_junction {v} h = omega (arith, lists_before-next v, lists_before-more {v = v + 1} (junctions_of labels) (omega arith))

  -- so the k-th list of a junction is one of the file's
  pub list_number_of_lem : {v k : ℕ} → v < junctions_of labels → k < depth_of labels v → lists_before labels v + k < lists_of labels
  list_number_of_lem h l = omega (arith, lists_of_junction h)

  -- ---- Entries and bytes

  -- the bytes before list number g are the header, the parents, the counts and eight bytes for each entry
  pub place_counts : (g : ℕ) → place_of labels g ≡ 16 + 2 * junctions_of labels + 2 * g + 8 * entries_before labels g
  unfolding place_of list_end entries_before
  place_counts zero = omega arith
  place_counts (suc g) = omega (arith, place_counts g)

  -- ---- Places inside the file

  -- behind lists that stand whole in the file the next place is inside it
  pub places-inside : 16 + 2 * junctions_of labels ≤ length labels → (g : ℕ) → ((h : ℕ) → h < g → ListFits labels (place_of labels h)) → place_of labels g ≤ length labels
  unfolding place_of
  places-inside parents zero fit = parents
  places-inside parents (suc g) fit = (fit g (omega arith)).inside

-- in a formed file every place of a list is inside
pub formed-inside : {labels : List ℕ} → Formed labels → {g : ℕ} → g ≤ lists_of labels → place_of labels g ≤ length labels
formed-inside {labels} formed {g} h = places-inside labels formed.parents.inside g (λ i below. formed.lists i (omega arith))

-- a list that was found fits
pub found-fits : {labels : List ℕ} {v u at : ℕ} → Formed labels → FoundList labels v u at → ListFits labels at
found-fits formed found = rw found.stands (formed.lists found.number found.below)

-- ---- Finding the list of a junction and its proper ancestor

-- The list of v and u stands k lists behind v's first, which is at byte `start`
pub record Way (labels : List ℕ) (v u start k : ℕ) : Type 0 where
  pub on_map : v < junctions_of labels
  pub deeper : depth_of labels u < depth_of labels v
  pub begins : start ≡ start_of labels v
  pub between : k ≡ depth_of labels v - depth_of labels u - 1

-- depths in a table differ as those of the junctions do
pub deeper_in_table :
    {labels depths : List ℕ} {v u : ℕ} → DepthsFilled labels depths → v < junctions_of labels → u < junctions_of labels → depth_of labels u < depth_of labels v →
    get_or depths u 0 < get_or depths v 0
deeper_in_table {v} {u} filled on_map u-on-map h = omega (arith, filled.depth v on_map, filled.depth u u-on-map)

-- the parts behind the starts may be written
pub starts_stay :
    {labels before after : List ℕ} → junctions_of labels ≤ 1024 → StaysBelow firsts_from before after → StartsFilled labels before → StartsFilled labels after
starts_stay few kept filled =
    record {
      places = kept.one_length ∙ filled.places;
      start = λ v on_map. kept.stays (starts_from + v) (omega arith) ∙ filled.start v on_map;
    }

-- the way is read from the two tables
pub way_read :
    {labels depths tables : List ℕ} {v u start deep shallow : ℕ} → DepthsFilled labels depths → StartsFilled labels tables → v < junctions_of labels →
    u < junctions_of labels → depth_of labels u < depth_of labels v → deep ≡ get_or depths v 0 → shallow ≡ get_or depths u 0 → start ≡ get_or tables (starts_from + v) 0 →
    Way labels v u start (deep - shallow - 1)
way_read {v} {u} depths_filled starts_filled on_map u-on-map h deep shallow start =
    record {
      on_map = on_map;
      deeper = h;
      begins = start ∙ starts_filled.start v on_map;
      between = omega (arith, deep, shallow, depths_filled.depth v on_map, depths_filled.depth u u-on-map);
    }

-- it ends k lists behind v's first
way_ends : {labels : List ℕ} {v u start k : ℕ} → Way labels v u start k → further labels start k ≡ place_of labels (lists_before labels v + k)
way_ends {labels} {v} {k} way = rw way.begins (further-place labels (lists_before labels v) k)

-- it is one of the file's lists
way_number : {labels : List ℕ} {v u start k : ℕ} → Way labels v u start k → lists_before labels v + k < lists_of labels
way_number {labels} way = list_number_of_lem labels way.on_map (omega (arith, way.deeper, way.between))

-- it stands in the file
pub way_inside : {labels : List ℕ} {v u start k : ℕ} → Formed labels → Way labels v u start k → further labels start k ≤ length labels
way_inside formed way = rw (way_ends way) (formed-inside formed (omega (arith, way_number way)))

-- and it is the one that was looked for
pub way_found : {labels : List ℕ} {v u start k at : ℕ} → Way labels v u start k → at ≡ further labels start k → FoundList labels v u at
unfolding list_place
way_found {labels} {v} {k} way e =
    record {
      place = e ∙ way_ends way ∙ ap (λ i. place_of labels (lists_before labels v + i)) way.between;
      number = lists_before labels v + k;
      below = way_number way;
      stands = e ∙ way_ends way;
    }
