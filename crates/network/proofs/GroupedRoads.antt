-- The table of grouped roads: how it fills, road by road from the last to the first, and what it holds in the end.
-- In this order: no road yet; one road more; the next road; what keeps them grouped.
use mathlib.Core.Path.{◌≡◌, sym, ◌∙◌}
use mathlib.Core.Bool.{true}
use mathlib.Core.List.{List}
use Prim.Native.Nat.{ℕ, suc, ◌+◌, ◌*◌, ◌≤◌, ◌<◌}
use native.Mathlib.Decide.{ℕ_discrete}
use native.Mathlib.Omega.{arith}
use native.Mathlib.Numerals.{add-one}
use borrow.Author.Rules.{rules}
use borrow.Rule.Slice.PartMut.{mid_of, put_mid}
use lib.ListN.{length, get_or, set, replicate, length-set}
use lib.Seq.{get_or-set_same, get_or-set_other}
use Rattle.std.proofs.lemmas.List.{places}
use Rattle.tables.specs.working.Layout.{firsts_from, nexts_from, order_from, table_places, StaysBelow}
use Rattle.tables.proofs.Stays.{stays_all, stays_set}
use Rattle.file_bytes.specs.working.Reads.{ReadU16}
use Rattle.network.specs.NetworkFile.{junctions_of, roads_of, road_low, road_high}
use Rattle.network.specs.working.Roads.{touches, next_road, Grouped}
use Rattle.network.specs.working.RoadsRead.{FirstsFilled, GroupedFrom}
use Rattle.network.specs.working.Fits.{NetworkFits}
use Rattle.network.proofs.RoadsAt.{next_road_end, next_road-here, next_road_skip, touches_low, touches-high, touches-neither, high_if_not_low}

-- ---- No road yet

-- a part was written over
module _ (from n x : ℕ) (before : List ℕ) (inside : from + n ≤ length before) where
  part_places : length (mid_of from n before) ≡ n
  part_places = search (rules, places)

  abbrev filled : List ℕ
  filled = put_mid from n before (replicate n x)

  filled_length : length filled ≡ length before
  filled_length = search (rules, places)

  filled_each : (v : ℕ) → v < n → get_or filled (from + v) 0 ≡ x
  filled_each v below = search (rules, places)

  filled_earlier : (i : ℕ) → i < from → get_or filled i 0 ≡ get_or before i 0
  filled_earlier i below = search (rules, places)

-- so it is with the first roads
pub firsts_filled :
    {tables part : List ℕ} {x : ℕ} →
    length tables ≡ table_places → part ≡ replicate (length (mid_of firsts_from 1024 tables)) x → FirstsFilled tables (put_mid firsts_from 1024 tables part) x 1024
firsts_filled {tables} {x = x} full is =
    let inside : firsts_from + 1024 ≤ length tables = omega arith in
    rw (is, part_places firsts_from 1024 x tables inside) (
    record {
      places = filled_length firsts_from 1024 x tables inside ∙ full;
      each = filled_each firsts_from 1024 x tables inside;
      starts_stay = record { one_length = filled_length firsts_from 1024 x tables inside; stays = filled_earlier firsts_from 1024 x tables inside };
    }
    )

-- behind the last road every junction's next road is none
pub grouped-none : {net before tables : List ℕ} {roads : ℕ} → NetworkFits net → roads ≡ roads_of net → FirstsFilled before tables roads 1024 → GroupedFrom net tables roads
grouped-none {net} fits roads-is filled =
    record {
      places = filled.places;
      first = λ v h. filled.each v (omega arith) ∙ rw roads-is (sym (next_road_end net v));
      next_low = λ j from below. absurd (omega arith);
      next_high = λ j from below. absurd (omega arith);
    }

-- ---- One road more

-- a list after two stores
module _ (l : List ℕ) (i j a b : ℕ) where
  last_stored : j < length l → get_or (set (set l i a) j b) j 0 ≡ b
  last_stored h = get_or-set_same (set l i a) j b 0 (simp length-set h)

  first-stored : i < length l → (i ≡ j → ⊥) → get_or (set (set l i a) j b) i 0 ≡ a
  first-stored h apart = get_or-set_other (set l i a) j i b 0 apart ∙ get_or-set_same l i a 0 h

  not_stored : (x : ℕ) → (x ≡ i → ⊥) → (x ≡ j → ⊥) → get_or (set (set l i a) j b) x 0 ≡ get_or l x 0
  not_stored x p q = get_or-set_other (set l i a) j x b 0 q ∙ get_or-set_other l i x a 0 p

  places-kept : {n : ℕ} → length l ≡ n → length (set (set l i a) j b) ≡ n
  places-kept e = simp length-set e

-- The table once what follows road k is noted, and once road k is the first of its ends
abbrev nexts_after : List ℕ → ℕ → ℕ → ℕ → List ℕ
nexts_after tables k low high = set (set tables (nexts_from + 2 * k) low) (nexts_from + 2 * k + 1) high

abbrev firsts_after : List ℕ → List ℕ → ℕ → List ℕ
firsts_after net noted k = set (set noted (firsts_from + road_low net k) k) (firsts_from + road_high net k) k

module _ {net tables : List ℕ} (fits : NetworkFits net) {k : ℕ} (stands : k < roads_of net) (grouped : GroupedFrom net tables (suc k)) where
  -- the two ends differ and are on the map
  ends : (road_low net k < road_high net k) × (road_high net k < junctions_of net)
  ends = (fits.low_below_high k stands, fits.high_on_map k stands)

  -- What was the first road at either end
  abbrev noted : List ℕ
  noted = nexts_after tables k (get_or tables (firsts_from + road_low net k) 0) (get_or tables (firsts_from + road_high net k) 0)

  noted-places : length noted ≡ table_places
  noted-places = places-kept tables (nexts_from + 2 * k) (nexts_from + 2 * k + 1) _ _ grouped.places

  -- the first road of either end is now road k, and of any other junction what it was
  first_more : (v : ℕ) → v < junctions_of net → get_or (firsts_after net noted k) (firsts_from + v) 0 ≡ next_road net v k
  first_more v h = pick (ℕ_discrete v (road_low net k)) (ℕ_discrete v (road_high net k))
    where
      pick : Dec (v ≡ road_low net k) → Dec (v ≡ road_high net k) → get_or (firsts_after net noted k) (firsts_from + v) 0 ≡ next_road net v k
      pick (yes e) d =
          rw e (first-stored noted (firsts_from + road_low net k) (firsts_from + road_high net k) k k (omega (arith, ends, noted-places)) (λ same. omega (arith, ends)))
          ∙ sym (next_road-here net v k stands (touches_low net v k (sym e)))
      pick (no apart) (yes e) =
          rw e (last_stored noted (firsts_from + road_low net k) (firsts_from + road_high net k) k k (omega (arith, ends, noted-places)))
          ∙ sym (next_road-here net v k stands (touches-high net v k (λ same. apart (sym same)) (sym e)))
      pick (no apart) (no away) =
          not_stored noted (firsts_from + road_low net k) (firsts_from + road_high net k) k k (firsts_from + v) (λ same. apart (omega arith)) (λ same. away (omega arith))
          ∙ (not_stored tables (nexts_from + 2 * k) (nexts_from + 2 * k + 1) _ _ (firsts_from + v) (λ same. omega arith) (λ same. omega arith)
          ∙ (grouped.first v h ∙ sym (next_road_skip net v k stands (touches-neither net v k (λ same. apart (sym same)) (λ same. away (sym same))))))

  -- what follows a road stays where first roads are set
  next-stays : (i : ℕ) → nexts_from ≤ i → get_or (firsts_after net noted k) i 0 ≡ get_or noted i 0
  next-stays i h =
      not_stored noted (firsts_from + road_low net k) (firsts_from + road_high net k) k k i (λ same. omega (arith, ends)) (λ same. omega (arith, ends))

  -- at its lower end road k is followed by what was the first there
  low_more : (j : ℕ) → k ≤ j → j < roads_of net → Dec (j ≡ k) → get_or noted (nexts_from + 2 * j) 0 ≡ next_road net (road_low net j) (suc j)
  low_more j from below (yes e) =
      rw e (first-stored tables (nexts_from + 2 * k) (nexts_from + 2 * k + 1) _ _ (omega arith) (λ same. omega arith) ∙ grouped.first (road_low net k) (omega (arith, ends)))
  low_more j from below (no apart) =
      not_stored tables (nexts_from + 2 * k) (nexts_from + 2 * k + 1) _ _ (nexts_from + 2 * j) (λ same. apart (omega arith)) (λ same. apart (omega arith))
      ∙ grouped.next_low j (omega arith) below

  -- and so at its higher end
  high-more : (j : ℕ) → k ≤ j → j < roads_of net → Dec (j ≡ k) → get_or noted (nexts_from + 2 * j + 1) 0 ≡ next_road net (road_high net j) (suc j)
  high-more j from below (yes e) =
      rw e (last_stored tables (nexts_from + 2 * k) (nexts_from + 2 * k + 1) _ _ (omega arith) ∙ grouped.first (road_high net k) ends.1)
  high-more j from below (no apart) =
      not_stored tables (nexts_from + 2 * k) (nexts_from + 2 * k + 1) _ _ (nexts_from + 2 * j + 1) (λ same. apart (omega arith)) (λ same. apart (omega arith))
      ∙ grouped.next_high j (omega arith) below

  grouped-more : GroupedFrom net (firsts_after net noted k) k
  grouped-more =
      record {
        places = places-kept noted (firsts_from + road_low net k) (firsts_from + road_high net k) k k noted-places;
        first = first_more;
        next_low = λ j from below. next-stays (nexts_from + 2 * j) (omega arith) ∙ low_more j from below (ℕ_discrete j k);
        next_high = λ j from below. next-stays (nexts_from + 2 * j + 1) (omega arith) ∙ high-more j from below (ℕ_discrete j k);
      }

-- what the code asks and leaves, from the ends that it read
module _ {net : List ℕ} {k low high : ℕ} (fits : NetworkFits net) (stands : k < roads_of net) (low-is : ReadU16 net (16 + 8 * k) low) (high_is : ReadU16 net (18 + 8 * k) high) where
  -- both ends have a place
  pub ends-inside : (low < 1024) × (high < 1024)
  ends-inside = let ordered = fits.low_below_high k stands in let inside = fits.high_on_map k stands in omega arith

  -- The table as the code leaves it
  abbrev put : List ℕ → List ℕ
  put tables =
      let low-noted = set tables (nexts_from + 2 * k) (get_or tables (firsts_from + low) 0) in
      let both-noted = set low-noted (nexts_from + 2 * k + 1) (get_or low-noted (firsts_from + high) 0) in
      set (set both-noted (firsts_from + low) k) (firsts_from + high) k

  pub road_put : {tables : List ℕ} → GroupedFrom net tables (k + 1) → GroupedFrom net (put tables) k
  road_put {tables} grouped =
      rw (get_or-set_other tables (nexts_from + 2 * k) (firsts_from + high) (get_or tables (firsts_from + low) 0) 0 (λ same. omega (arith, ends-inside)))
      (rw (low-is.is, high_is.is) (grouped-more fits stands (rw (add-one k) at grouped)))

  -- only places behind the starts are written
  pub starts_stay_put : (tables : List ℕ) → StaysBelow firsts_from tables (put tables)
  starts_stay_put tables =
      stays_set (firsts_from + high) k
      (stays_set (firsts_from + low) k
      (stays_set (nexts_from + 2 * k + 1) _ (stays_set (nexts_from + 2 * k) _ (stays_all firsts_from tables) (omega arith)) (omega arith))
      (omega arith))
      (omega arith)

-- by a name that code can cite
pub ruleset places_of_ends = (ends-inside)

-- ---- The next road

module _ {net tables : List ℕ} {v k low : ℕ} (grouped : Grouped net tables) (stands : k < roads_of net) (low-is : ReadU16 net (16 + 8 * k) low) where
  -- v is the higher end
  pub next_at_high : touches net v k ≡ true → (low ≡ v → ⊥) → get_or tables (nexts_from + 2 * k + 1) 0 ≡ next_road net v (suc k)
  next_at_high here apart = rw (← high_if_not_low net v k (λ e. apart (low-is.is ∙ e)) here) (grouped.next_high k stands)

-- ---- What keeps them grouped

-- the parts behind the roads may be written
pub grouped-stays : {net before after : List ℕ} → NetworkFits net → StaysBelow order_from before after → Grouped net before → Grouped net after
grouped-stays fits kept grouped =
    record {
      places = kept.one_length ∙ grouped.places;
      first = λ v on_map. kept.stays (firsts_from + v) (omega (arith, fits.few_junctions)) ∙ grouped.first v on_map;
      next_low = λ k stands. kept.stays (nexts_from + 2 * k) (omega (arith, fits.few_roads)) ∙ grouped.next_low k stands;
      next_high = λ k stands. kept.stays (nexts_from + 2 * k + 1) (omega (arith, fits.few_roads)) ∙ grouped.next_high k stands;
    }
