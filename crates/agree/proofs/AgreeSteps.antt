-- The test of a stored list, road by road: what one road tells, and that the roads of a junction together decide whether its list agrees.
-- In this order: one road; the roads so far; all roads; what the code asks.
use mathlib.Core.Path.{◌≡◌, refl, sym, ap, ◌∙◌}
use mathlib.Core.Logic.{◌⊎◌, inl, inr, ⊎_elim}
use mathlib.Core.Bool.{Bool, true, false, true≢false}
use mathlib.Core.List.{List}
use Prim.Native.Nat.{ℕ, suc, ◌+◌, ◌≤◌, ◌<◌}
use native.Mathlib.Decide.{ℕ_discrete}
use native.Mathlib.Omega.{arith}
use lib.ListN.{get_or}
use Rattle.paths.specs.Weights.{weights, energy, pair, Covered}
use Rattle.paths.specs.LocalTest.{ListAgrees}
use Rattle.lists.specs.Entries.{Weight}
use Rattle.refusals.specs.working.Decides.{Decides}
use Rattle.tables.specs.working.Layout.{firsts_from}
use Rattle.network.specs.NetworkFile.{network_of, roads_of, road_time, road_energy, RoadArc}
use Rattle.network.specs.working.Roads.{touches, other_end, next_road}
use Rattle.network.proofs.RoadsAt.{next_road_low, next_road-touches, next_road-passed, arc_touches}
use Rattle.forest.specs.LabelFile.{parents_of, count_at}
use Rattle.stored.specs.Stored.{list_place, list_at, stored}
use Rattle.stored.specs.working.Formed.{ListFits, FilesFit}
use Rattle.stored.proofs.Tabulate.{Stands, member-stands, tabulate-member}
use Rattle.agree.specs.working.Covering.{Marking, entry_of, MetBy, Covering}
use Rattle.agree.specs.working.Agreeing.{AgreeInput, Unmarked, RoadInput, Left, Met, RoadCovers, MetOver, RoadTested, AllMarked, MarksRead}
use Rattle.stored.proofs.Passed.{stored-fits}
use Rattle.agree.proofs.CoverSteps.{ListRead}
use Rattle.agree.proofs.MergeSteps.{marking-none, marking_as, marking-both}
use Rattle.agree.proofs.Neighbours.{Leaves, the_arc}

-- ---- One road

module _
    {net labels places : List ℕ}
    {v u k w time arc-energy : ℕ}
    {list : List Weight}
    (input : RoadInput net labels places v u k)
    (leads-to : w ≡ other_end net v k)
    (time_is : time ≡ road_time net k)
    (energy_is : arc-energy ≡ road_energy net k)
    (leaves : Leaves net labels w u list)
  where
    -- the weight that the code adds is the arc's
    weighs : pair time arc-energy ≡ pair (road_time net k) (road_energy net k)
    weighs = λ i. pair (time_is i) (energy_is i)

    -- the arc that the code follows
    arc_here : RoadArc net v w k (pair time arc-energy)
    arc_here = rw (time_is, energy_is) (the_arc input leads-to)

    -- an arc over road k is this one
    same_arc : {x r : ℕ} {a : Weight} → r ≡ k → RoadArc net v x r a → (w ≡ x) × (pair time arc-energy ≡ a)
    same_arc e arc =
        let told = arc_touches input.beside.network (rw e at arc) in
        (leads-to ∙ sym told.1, weighs ∙ sym told.2)

    -- what a sum of the code equals is met over this road
    met_over : {own : ℕ} (i : ℕ) → MetBy labels own (pair time arc-energy) list i → MetOver net labels v u own k i
    met_over i met =
        record {
          in_list = met.in_list;
          met =
              record {
                to = w;
                number = k;
                road = pair time arc-energy;
                arc = arc_here;
                rest = met.rest;
                left = leaves.entry-left met.member;
                adds = met.adds;
              };
          over = refl;
        }

    -- and back
    met_by : {own : ℕ} (i : ℕ) → MetOver net labels v u own k i → MetBy labels own (pair time arc-energy) list i
    met_by i over =
        let met = over.met in
        let same = same_arc over.over met.arc in
        record {
          in_list = over.in_list;
          rest = met.rest;
          member = leaves.left-entry (rw (← same.0) at met.left);
          adds = ap (λ a. (weights energy).◌⊕◌ a met.rest) same.1 ∙ met.adds;
        }

    -- what the covering test tells, the road tells
    pub road-tested :
        {own : ℕ} {marks later : List ℕ} {answer : Bool} → Covering labels own (pair time arc-energy) list marks later answer →
        RoadTested net labels v u own k marks later answer
    road-tested {own} {answer = answer} covering =
        record {
          decides =
              record {
                holds = λ agreed. record { covers = λ arc left. covers agreed arc left };
                fails = λ refused all. covering.decides.fails refused (λ q m. all.covers arc_here (leaves.entry-left m));
              };
          marking = λ agreed. marking_as (MetBy labels own (pair time arc-energy) list) (MetOver net labels v u own k) (covering.marking agreed) met_by met_over;
        }
      where
        covers : answer ≡ true → {x : ℕ} {a q : Weight} → RoadArc net v x k a → Left net labels x u q → Covered energy (list_at labels own) ((weights energy).◌⊕◌ a q)
        covers agreed {x} {a} {q} arc left =
            let same = same_arc refl arc in
            rw (← same.1) (covering.decides.holds agreed q (leaves.left-entry (rw (← same.0) at left)))

-- ---- The roads so far

-- Entry i of the list at byte `own` equals a sum that starts with a road before k
pub record MetSofar (net labels : List ℕ) (v u own k i : ℕ) : Type 0 where
  pub in_list : i < count_at labels own
  pub met : Met net labels v u (entry_of labels own i)
  pub over : met.number < k

-- The roads of v before k are covered, and the entries that are met over them are marked
pub record Agreed (net labels : List ℕ) (v u own k : ℕ) (marks now : List ℕ) : Type 0 where
  pub here : k < roads_of net → touches net v k ≡ true
  pub covers : (j : ℕ) → j < k → RoadCovers net labels v u own j
  pub marking : Marking (MetSofar net labels v u own k) marks now

-- a road that something is met over has v for an end
met_touches : {net labels : List ℕ} → FilesFit net labels → {v u : ℕ} {p : Weight} (met : Met net labels v u p) → touches net v met.number ≡ true
met_touches beside met = (arc_touches beside.network met.arc).0

module _ {net labels : List ℕ} (beside : FilesFit net labels) {v u own : ℕ} where
  -- a road that is not one of v covers all that starts with it: nothing
  covers_if : {j : ℕ} → (touches net v j ≡ true → RoadCovers net labels v u own j) → RoadCovers net labels v u own j
  covers_if f = record { covers = λ arc left. (f (arc_touches beside.network arc).0).covers arc left }

  -- no road before the first
  pub agreed_start : {k : ℕ} {marks : List ℕ} → k ≡ next_road net v 0 → Unmarked marks → Agreed net labels v u own k marks marks
  agreed_start {k} first unmarked =
      record {
        here = λ h. rw first (next_road-touches net v 0 (omega arith));
        covers = λ j h. covers_if (λ here. absurd (none j h here));
        marking = marking-none unmarked.marks_places (λ i so. none so.met.number so.over (met_touches beside so.met));
      }
    where
      none : (j : ℕ) → j < k → touches net v j ≡ true → ⊥
      none j h here = omega (arith, next_road-passed net v 0 j here (omega arith))

  module _ {k : ℕ} {marks now later : List ℕ} {answer : Bool} (tested : RoadTested net labels v u own k now later answer) where
    -- one road more
    pub agreed_more : {next : ℕ} → Agreed net labels v u own k marks now → answer ≡ true → next ≡ next_road net v (suc k) → Agreed net labels v u own next marks later
    agreed_more {next} so agreed next_is =
        record {
          here = λ h. rw next_is (next_road-touches net v (suc k) (omega arith));
          covers = λ j h. covers_if (λ here. covered j (passed j h here) (ℕ_discrete j k));
          marking =
              marking_as (λ i. MetSofar net labels v u own k i ⊎ MetOver net labels v u own k i) (MetSofar net labels v u own next)
              (marking-both (MetSofar net labels v u own k) (MetOver net labels v u own k) so.marking (tested.marking agreed))
              (λ i met. split i met (passed met.met.number met.over (met_touches beside met.met)) (ℕ_discrete met.met.number k))
              (λ i.
              ⊎_elim
              (λ met. record { in_list = met.in_list; met = met.met; over = omega (arith, met.over, later-road) })
              (λ met. record { in_list = met.in_list; met = met.met; over = omega (arith, met.over, later-road) }));
        }
      where
        -- the next road is a later one
        later-road : k < next
        later-road = omega (arith, next_road_low net v (suc k))

        -- the roads of v before the next are those up to this one
        passed : (j : ℕ) → j < next → touches net v j ≡ true → j < suc k
        passed j h here = next_road-passed net v (suc k) j here (omega arith)

        covered : (j : ℕ) → j < suc k → Dec (j ≡ k) → RoadCovers net labels v u own j
        covered j h (yes e) = rw e (tested.decides.holds agreed)
        covered j h (no apart) = so.covers j (omega arith)

        split : (i : ℕ) → (met : MetSofar net labels v u own next i) → met.met.number < suc k → Dec (met.met.number ≡ k) → MetSofar net labels v u own k i ⊎ MetOver net labels v u own k i
        split i met h (yes e) = inr (record { in_list = met.in_list; met = met.met; over = e })
        split i met h (no apart) = inl (record { in_list = met.in_list; met = met.met; over = omega arith })

-- ---- All roads

-- the list at the byte is the stored list
own_list : (labels : List ℕ) (v u own : ℕ) → own ≡ list_place labels v u → stored labels v u ≡ list_at labels own
unfolding stored
own_list labels v u own e = rw e refl

-- a list covers what an equal one covers
covered_by : {l m : List Weight} {p : Weight} → l ≡ m → Covered energy m p → Covered energy l p
covered_by e covered = rw e covered

module _ {net labels : List ℕ} {v u own : ℕ} (own_is : own ≡ list_place labels v u) where
  -- a road that is not covered refuses
  pub agreed_refuse :
      {k : ℕ} {now later : List ℕ} {answer : Bool} → RoadTested net labels v u own k now later answer → answer ≡ false →
      Decides (ListAgrees (network_of net) (parents_of labels) (stored labels) v u) false
  agreed_refuse tested refused =
      record {
        holds = λ e. absurd (true≢false (sym e));
        fails = λ e agrees. tested.decides.fails refused (record { covers = λ arc left. covered_by (sym (own_list labels v u own own_is)) (agrees.covers arc left) });
      }

  module _
      {k count : ℕ}
      {marks now later : List ℕ}
      {answer : Bool}
      (read : ListRead labels own count)
      (so : Agreed net labels v u own k marks now)
      (unmarked : Unmarked marks)
      (marks-read : MarksRead now later count answer)
    where
      -- an entry that is marked is met
      is_met : {i : ℕ} → i < count_at labels own → get_or now i 0 ≡ 1 → Met net labels v u (entry_of labels own i)
      is_met {i} h one = ⊎_elim (λ same. absurd (omega (arith, unmarked.each i (omega (arith, read.fits.short))))) (λ met. met.met) (so.marking.only i)

      -- behind the last road the marks decide
      pub agreed_end : roads_of net ≤ k → Decides (ListAgrees (network_of net) (parents_of labels) (stored labels) v u) answer
      agreed_end all-passed =
          record {
            holds =
                λ e.
                record {
                  covers = λ {w} {r} {a} {q} arc left. covered_by (own_list labels v u own own_is) ((so.covers r (omega (arith, arc.stands))).covers arc left);
                  met = λ m. met (marks-read.decides.holds e) (member-stands (entry_of labels own) (count_at labels own) (rw (own_list labels v u own own_is) at m));
                };
            fails = λ e agrees. marks-read.decides.fails e (record { each = λ i h. one agrees i h });
          }
        where
          met : AllMarked now count → {p : Weight} → Stands (entry_of labels own) (count_at labels own) p → Met net labels v u p
          met all stands = rw stands.is (is_met stands.below (all.each stands.place (omega (arith, stands.below, read.counted))))

          -- an entry that is met is marked
          one : ListAgrees (network_of net) (parents_of labels) (stored labels) v u → (i : ℕ) → i < count → get_or now i 0 ≡ 1
          one agrees i h =
              let inside : i < count_at labels own = omega (arith, read.counted) in
              let found = agrees.met {p = entry_of labels own i} (rw (own_list labels v u own own_is) (tabulate-member (entry_of labels own) (count_at labels own) inside)) in
              so.marking.marked i (record { in_list = inside; met = found; over = omega (arith, found.arc.stands) })

-- each turn comes to a later road
pub next-later : (net : List ℕ) (v k next : ℕ) → next ≡ next_road net v (suc k) → k < next
next-later net v k next e = omega (arith, next_road_low net v (suc k))

-- ---- What the code asks at its start and at each road

module _ {net labels tables places : List ℕ} {v u : ℕ} (input : AgreeInput net labels tables places v u) where
  -- the table has the byte of the own list
  pub own_place : {at : ℕ} → at ≡ get_or places v 0 → at ≡ list_place labels v u
  own_place at-is = at-is ∙ input.places_for.below v input.on_map input.above

  -- which fits
  pub own_fits : {at : ℕ} → at ≡ get_or places v 0 → ListFits labels at
  own_fits at-is = rw (own_place at-is) (stored-fits input.beside.formed input.above)

  -- the first road
  pub first_is : {k : ℕ} → k ≡ get_or tables (firsts_from + v) 0 → k ≡ next_road net v 0
  first_is read = read ∙ input.grouped.first v (omega (arith, input.on_map, input.beside.one_map))

  module _ {k own : ℕ} {marks now : List ℕ} (so : Agreed net labels v u own k marks now) (stands : k < roads_of net) where
    -- what is asked at each road
    pub road_input : RoadInput net labels places v u k
    road_input = record { beside = input.beside; places_for = input.places_for; above = input.above; stands = stands; here = so.here stands }
