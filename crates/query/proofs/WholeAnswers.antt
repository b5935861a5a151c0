-- Which sets of pairs answer a query. In this order: a set that stands for all paths; one list; the marked sums; where two branches
-- meet; the sums at the common ancestors; which lists tell; the answers of a query.
use mathlib.Core.Path.{◌≡◌, refl, sym, ap, ap₂, ◌∙◌, subst}
use mathlib.Core.Logic.{inl, inr, ⊎_elim}
use mathlib.Core.List.{List}
use Rattle.std.specs.Prelude.{Result}
use Rattle.paths.specs.declared.pair.Pair.{Pair}
use Prim.Native.Nat.{ℕ, suc, ◌+◌, ◌-◌, ◌≤◌, ◌<◌}
use native.Mathlib.Omega.{arith}
use Rattle.paths.specs.Weights.{weights, energy}
use Rattle.paths.specs.Network.{Walk, weight}
use Rattle.paths.specs.TradeOff.{IsTradeOff, IsSum}
use Rattle.paths.specs.Cut.{IsCut}
use Rattle.paths.specs.Forest.{Parents, Above, Ancestor, IsForest, Common, Deepest, WorkingSet, itself, crossing}
use Rattle.paths.proofs.Figures.{number_lawful}
use Rattle.paths.proofs.Weights.{⊑_not_later, not_later_trans}
use Rattle.paths.proofs.Walks.{WalkOf}
use Rattle.paths.proofs.Covering.{walk-covered}
use Rattle.paths.proofs.Answers.{alone-best}
use Rattle.paths.proofs.TwoWay.{trade_off_back}
use Rattle.paths.proofs.Forest.{ancestor_then_above, deepest_unique, above_irrefl}
use Rattle.paths.proofs.Crossing.{hoplinks_cut, common_ancestors_cut, apart-without-common}
use Rattle.paths.proofs.CutSums.{ListsAcross, walk_has_sum, sum_has_walk}
use Rattle.lists.specs.Entries.{Weight}
use Rattle.network.specs.NetworkFile.{network_of, junctions_of}
use Rattle.forest.specs.LabelFile.{parents_of, count_at}
use Rattle.forest.specs.Forest.{depth_of, ancestor_of}
use Rattle.stored.specs.Stored.{lists_before, place_of, list_place, list_at, stored}
use Rattle.forest.specs.working.Fits.{ParentsFit}
use Rattle.stored.specs.working.Formed.{Formed, ListFits}
use Rattle.stored.specs.working.Scanned.{further}
use Rattle.stored.proofs.Tabulate.{member-stands, tabulate-member}
use Rattle.stored.proofs.Places.{further-place}
use Rattle.forest.proofs.Chains.{climbed}
use Rattle.forest.proofs.Forest.{AncestorAt, ancestor_at, ancestor_is_up, above_shallower}
use Rattle.stored.proofs.Passed.{below_on_map, stored-fits, roads_two_way, parents-forest, roads_joined}
use Rattle.hoplinks.specs.working.Meeting.{MeetsAt, HopMarks}
use Rattle.query.specs.declared.NoAnswer.{NoAnswer}
use Rattle.query.specs.declared.Between.{Between}
use Rattle.query.specs.declared.Between.TheVariants.{Nothing, List as OneList, Lists as TwoLists}
use Rattle.query.specs.working.Prepared.{Prepared}
use Rattle.query.specs.working.AnswerValues.{number_of, time_of, energy_of}
use Rattle.query.specs.Answers.{Answers}
use Rattle.query.specs.Answers as whole
use Rattle.query.specs.working.AnswerFrom.{EntryOf, AnswerFrom, found, over_limit, not_connected}
use Rattle.query.specs.working.Levels.{behind, MarkedSum, Branches}
use Rattle.query.specs.working.Between.{ListBetween, ListsBetween, Leads}
use Rattle.query.specs.working.Sums.{SumAt, SumIn, Row, RowFits}
use Rattle.query.proofs.ListPlaces.{entry}
use Rattle.query.proofs.MarkedSums.{level-fits, level-place}

-- ---- A set that stands for all paths

-- A pair of the set that is no larger
pub record HasBelow (Has : Weight → Type 0) (p : Weight) : Type 0 where
  pub one : Weight
  pub among : Has one
  pub no_larger : (weights energy).◌⊑◌ one p

-- Every pair of the set is a path's, and no path's pair lies below all of the set
pub record StandsFor (net : List ℕ) (x y : ℕ) (Has : Weight → Type 0) : Type 0 where
  pub real : {p : Weight} → Has p → WalkOf (network_of net) x y p
  pub below : (w : Walk (network_of net) x y) → HasBelow Has (weight w)

-- what such a set answers is the answer
pub stands_answer :
    {net : List ℕ} {x y C : ℕ} {Has : Weight → Type 0} {r : Result Pair NoAnswer} →
    StandsFor net x y Has → x < junctions_of net → y < junctions_of net → AnswerFrom Has C r →
    Answers net x y C (number_of r) (time_of r) (energy_of r)
stands_answer stands h k (found e best) =
    let z = stands.real best.among in
    whole.found h k
    (record {
      walk = z.walk;
      weighs = z.weighs;
      within = best.within;
      least =
          λ other w.
          let y = stands.below other in
          not_later_trans number_lawful (best.least y.one y.among (omega (arith, y.no_larger.0, w))) (⊑_not_later number_lawful y.no_larger);
    })
    e
stands_answer stands h k (over_limit e out) =
    whole.over_limit h k
    (record {
      walk = (stands.real out.among).walk;
      none_within = λ other w. let y = stands.below other in out.none_within y.one y.among (omega (arith, y.no_larger.0, w));
    })
    (ap number_of e)
    (ap time_of e)
    (ap energy_of e)
stands_answer stands h k (not_connected e none) =
    whole.not_connected h k (λ w. let y = stands.below w in none y.one y.among) (ap number_of e) (ap time_of e) (ap energy_of e)

-- ---- One list

-- another junction's ancestor stands above it
pub proper : {parent : Parents} {u v : ℕ} → (u ≡ v → ⊥) → Ancestor parent u v → Above parent u v
proper apart h = ⊎_elim (λ e. absurd (apart e)) (λ above. above) h

pub trade_off_stands : {net : List ℕ} {x y : ℕ} {l : List Weight} → IsTradeOff (network_of net) x y l → StandsFor net x y (EntryOf l)
trade_off_stands right =
    record {
      real = λ h. let z = right.real h.member in record { walk = z.walk; weighs = z.weighs };
      below =
          λ w.
          let z = walk-covered number_lawful right w in
          record { one = z.entry; among = record { member = z.member }; no_larger = z.has };
    }

-- the stored list for an ancestor is that of its level
stored-level : (labels : List ℕ) (v u : ℕ) {level : ℕ} → depth_of labels u ≡ level → stored labels v u ≡ list_at labels (behind labels v (suc level))
unfolding stored
stored-level labels v u e = ap (list_at labels) (level-place labels v u e)

module _ {net labels depths tables : List ℕ} (prepared : Prepared net labels depths tables) where
  -- the stored list of a junction and its proper ancestor stands for the paths between them, both ways
  pub stored_up : {x u : ℕ} → Above (parents_of labels) u x → IsTradeOff (network_of net) x u (stored labels x u)
  stored_up above = prepared.every_list_right.right above

  pub stored-down : {x u : ℕ} → Above (parents_of labels) u x → IsTradeOff (network_of net) u x (stored labels x u)
  stored-down above = trade_off_back number_lawful (roads_two_way prepared.beside) (stored_up above)

  -- ---- The marked sums

  module _ {x y l : ℕ} (below_x : Above (parents_of labels) l x) (below_y : Above (parents_of labels) l y) (deepest : Deepest (parents_of labels) x y l) where
    pub of_l : {h : ℕ} → WorkingSet (network_of net) (parents_of labels) l h → Ancestor (parents_of labels) h l
    of_l (itself e) = inl e
    of_l (crossing above road) = inr above

    -- neither is an ancestor of the other, so the hoplinks meet every path
    working_set_cut : IsCut (network_of net) (WorkingSet (network_of net) (parents_of labels) l) x y
    working_set_cut w =
        let m = hoplinks_cut (parents_of labels) (roads_joined prepared.beside) forest deepest start finish w in
        record { at = m.at; inside = rw (deepest_unique forest m.inside.is_deepest deepest) at m.inside.meeting; met = m.met }
      where
        forest : IsForest (parents_of labels)
        forest = parents-forest prepared.beside

        start : Ancestor (parents_of labels) x y → ⊥
        start h = above_irrefl forest (ancestor_then_above (deepest.below_all x (record { of_start = inl refl; of_finish = h })) below_x)

        finish : Ancestor (parents_of labels) y x → ⊥
        finish h = above_irrefl forest (ancestor_then_above (deepest.below_all y (record { of_start = h; of_finish = inl refl })) below_y)

    pub lists_across : ListsAcross (network_of net) (WorkingSet (network_of net) (parents_of labels) l) x y (stored labels x) (stored labels y)
    lists_across =
        record {
          cut = working_set_cut;
          to_right = λ h. stored_up (ancestor_then_above (of_l h) below_x);
          from-right = λ h. stored-down (ancestor_then_above (of_l h) below_y);
        }

    module _ {marks : List ℕ} (on_map : l < junctions_of labels) (hops : HopMarks net labels l marks) where
      -- a marked level is that of a junction of the working set
      level-ancestor : (level : ℕ) → level < suc (depth_of labels l) → depth_of labels (ancestor_of labels l (depth_of labels l - level)) ≡ level
      level-ancestor level h =
          omega (arith, (climbed prepared.beside.formed.parents (depth_of labels l - level) l on_map (omega arith)).depth)

      marked-real : {p : Weight} → MarkedSum labels marks x y 0 (suc (depth_of labels l)) p → WalkOf (network_of net) x y p
      marked-real {p} h = sum_has_walk number_lawful lists_across inside sum
        where
          inside : WorkingSet (network_of net) (parents_of labels) l (ancestor_of labels l (depth_of labels l - h.level))
          inside = hops.marked h.level (omega (arith, h.not_above)) h.here.marked

          sum : IsSum energy (stored labels x (ancestor_of labels l (depth_of labels l - h.level))) (stored labels y (ancestor_of labels l (depth_of labels l - h.level))) p
          sum =
              let e = level-ancestor h.level h.not_above in
              rw (stored-level labels x (ancestor_of labels l (depth_of labels l - h.level)) e, stored-level labels y (ancestor_of labels l (depth_of labels l - h.level)) e) h.here.sum

      -- and every sum at a junction of the working set is a marked one
      marked_all :
          {h : ℕ} {p : Weight} → WorkingSet (network_of net) (parents_of labels) l h → IsSum energy (stored labels x h) (stored labels y h) p →
          MarkedSum labels marks x y 0 (suc (depth_of labels l)) p
      marked_all {h} {p} inside sum =
          record {
            level = depth_of labels h;
            not_below = omega arith;
            not_above = omega (arith, at.no_deeper);
            here =
                record {
                  marked = hops.all_marked (depth_of labels h) at.no_deeper (rw at.is inside);
                  sum = rw (stored-level labels x h refl, stored-level labels y h refl) at sum;
                };
          }
        where
          at : AncestorAt labels h l
          at = ancestor_at prepared.beside.formed.parents on_map (of_l inside)

      pub marked-stands : StandsFor net x y (MarkedSum labels marks x y 0 (suc (depth_of labels l)))
      marked-stands =
          record {
            real = marked-real;
            below =
                λ w.
                let z = walk_has_sum number_lawful lists_across w in
                record { one = z.total; among = marked_all z.inside z.sum; no_larger = z.no_larger };
          }

-- ---- Where two branches meet

module _ {labels : List ℕ} {x y l : ℕ} (meets : MeetsAt labels x y l) where
  -- at one of the two: it stands above the other
  pub meets-start : l ≡ x → (x ≡ y → ⊥) → Above (parents_of labels) x y
  meets-start e apart = proper apart (rw e at meets.deepest.common.of_finish)

  pub meets-finish : l ≡ y → (x ≡ y → ⊥) → Above (parents_of labels) y x
  meets-finish e apart = proper (λ f. apart (sym f)) (rw e at meets.deepest.common.of_start)

  -- at neither: it stands above both
  pub meets-above : ParentsFit labels → x < junctions_of labels → y < junctions_of labels → (l ≡ x → ⊥) → (l ≡ y → ⊥) → Branches labels x y l
  meets-above fit x_on_map y_on_map not-x not-y =
      record {
        x_on_map = x_on_map;
        y_on_map = y_on_map;
        l_on_map = meets.on_map;
        below_x = above_shallower labels fit.ends (proper not-x meets.deepest.common.of_start);
        below_y = above_shallower labels fit.ends (proper not-y meets.deepest.common.of_finish);
      }

-- ---- The sums at the common ancestors

-- a sum of entries at two places, and back
sum_at_places : {labels : List ℕ} {near far i j : ℕ} {p : Weight} → SumAt labels near far i j p → IsSum energy (list_at labels near) (list_at labels far) p
sum_at_places {labels} {near} {far} {i} {j} h =
    record {
      left = entry labels near i;
      right = entry labels far j;
      in_first = tabulate-member (entry labels near) (count_at labels near) {i = i} h.in_near;
      in_second = tabulate-member (entry labels far) (count_at labels far) {i = j} h.in_far;
      adds = sym h.adds;
    }

places_of_sum :
    {labels : List ℕ} {Lists : ℕ → ℕ → Type 0} (near far : ℕ) {p : Weight} → Lists near far → IsSum energy (list_at labels near) (list_at labels far) p → SumIn labels Lists p
places_of_sum {labels} near far {p} lists sum =
    let one = member-stands (entry labels near) (count_at labels near) sum.in_first in
    let two = member-stands (entry labels far) (count_at labels far) sum.in_second in
    record {
      near = near;
      far = far;
      i = one.place;
      j = two.place;
      lists = lists;
      sum = record { in_near = one.below; in_far = two.below; adds = sym sum.adds ∙ ap₂ (weights energy).◌⊕◌ one.is two.is };
    }

-- the list k behind the one for a level is k levels up
row_place : (labels : List ℕ) (v levels k : ℕ) → levels ≤ depth_of labels v → k < levels → further labels (behind labels v levels) k ≡ behind labels v (suc (levels - k - 1))
row_place labels v levels k deep h = further-place labels (lists_before labels v + (depth_of labels v - levels)) k ∙ ap (place_of labels) (omega arith)

module _ {net labels depths tables : List ℕ} (prepared : Prepared net labels depths tables) {x y near far levels meeting : ℕ} (two : ListsBetween labels x y near far levels meeting) where
  fit : ParentsFit labels
  fit = prepared.beside.formed.parents

  deep_x : levels ≤ depth_of labels x
  deep_x = omega (arith, two.deep, above_shallower labels fit.ends two.below_x)

  deep_y : levels ≤ depth_of labels y
  deep_y = omega (arith, two.deep, above_shallower labels fit.ends two.below_y)

  near-place : (k : ℕ) → k < levels → further labels near k ≡ behind labels x (suc (levels - k - 1))
  near-place k h = rw two.near_is (row_place labels x levels k deep_x h)

  far_place : (k : ℕ) → k < levels → further labels far k ≡ behind labels y (suc (levels - k - 1))
  far_place k h = rw two.far_is (row_place labels y levels k deep_y h)

  -- all the lists fit
  pub row_fits : RowFits labels near far levels
  row_fits =
      record {
        few_bytes = prepared.beside.formed.few_bytes;
        near_fits =
            λ k h. rw (near-place k h) (level-fits prepared.beside.formed (below_on_map labels two.below_x) (omega (arith, deep_x)));
        far_fits =
            λ k h. rw (far_place k h) (level-fits prepared.beside.formed (below_on_map labels two.below_y) (omega (arith, deep_y)));
      }

  -- the common ancestors meet every path, and the lists for each are stored
  common-lists : ListsAcross (network_of net) (Common (parents_of labels) x y) x y (stored labels x) (stored labels y)
  common-lists =
      record {
        cut = common_ancestors_cut (parents_of labels) (roads_joined prepared.beside) (parents-forest prepared.beside) x y;
        to_right = λ {h} c. stored_up prepared (ancestor_then_above (two.meets.deepest.below_all h c) two.below_x);
        from-right = λ {h} c. stored-down prepared (ancestor_then_above (two.meets.deepest.below_all h c) two.below_y);
      }

  -- a sum of the row is one at a common ancestor
  row_real : {p : Weight} → SumIn labels (Row labels near far levels) p → WalkOf (network_of net) x y p
  row_real {p} h = sum_has_walk number_lawful common-lists common sum
    where
      up : ℕ
      up = ancestor_of labels meeting h.lists.level

      steps : h.lists.level ≤ depth_of labels meeting
      steps = omega (arith, h.lists.below, two.deep)

      common : Common (parents_of labels) x y up
      common =
          let above = ancestor_is_up fit h.lists.level meeting two.meets.on_map steps in
          record { of_start = inr (ancestor_then_above above two.below_x); of_finish = inr (ancestor_then_above above two.below_y) }

      deep : depth_of labels up ≡ levels - h.lists.level - 1
      deep = omega (arith, (climbed fit h.lists.level meeting two.meets.on_map steps).depth, two.deep)

      sum : IsSum energy (stored labels x up) (stored labels y up) p
      sum =
          rw (stored-level labels x up deep, stored-level labels y up deep)
          (rw (h.lists.near_is ∙ near-place h.lists.level h.lists.below, h.lists.far_is ∙ far_place h.lists.level h.lists.below) at (sum_at_places h.sum))

  -- and every sum at a common ancestor is one of the row
  row_all : {u : ℕ} {p : Weight} → Common (parents_of labels) x y u → IsSum energy (stored labels x u) (stored labels y u) p → SumIn labels (Row labels near far levels) p
  row_all {u} {p} c sum = places_of_sum (behind labels x (suc (depth_of labels u))) (behind labels y (suc (depth_of labels u))) row listed
    where
      at : AncestorAt labels u meeting
      at = ancestor_at fit two.meets.on_map (two.meets.deepest.below_all u c)

      level : ℕ
      level = depth_of labels meeting - depth_of labels u

      below : level < levels
      below = omega (arith, two.deep)

      back : depth_of labels u ≡ levels - level - 1
      back = omega (arith, two.deep, at.no_deeper)

      row : Row labels near far levels (behind labels x (suc (depth_of labels u))) (behind labels y (suc (depth_of labels u)))
      row =
          record {
            level = level;
            below = below;
            near_is = rw (near-place level below) (ap (λ d. behind labels x (suc d)) back);
            far_is = rw (far_place level below) (ap (λ d. behind labels y (suc d)) back);
          }

      listed : IsSum energy (list_at labels (behind labels x (suc (depth_of labels u)))) (list_at labels (behind labels y (suc (depth_of labels u)))) p
      listed = rw (stored-level labels x u refl, stored-level labels y u refl) at sum

  -- so the row stands for all paths
  pub row_stands : StandsFor net x y (SumIn labels (Row labels near far levels))
  row_stands =
      record {
        real = row_real;
        below =
            λ w.
            let z = walk_has_sum number_lawful common-lists w in
            record { one = z.total; among = row_all z.inside z.sum; no_larger = z.no_larger };
      }

-- ---- Which lists tell

module _ (labels : List ℕ) (x y : ℕ) where
  pub leads-nowhere : {r : Between} → r ≡ Nothing → Leads labels x y r → (u : ℕ) → Common (parents_of labels) x y u → ⊥
  leads-nowhere e h = subst (Leads labels x y) e h

  pub leads-list : {r : Between} {at : ℕ} → r ≡ OneList at → Leads labels x y r → ListBetween labels x y at
  leads-list e h = subst (Leads labels x y) e h

  pub leads-lists : {r : Between} {near far levels meeting : ℕ} → r ≡ TwoLists near far levels meeting → Leads labels x y r → ListsBetween labels x y near far levels meeting
  leads-lists e h = subst (Leads labels x y) e h

-- the list between two junctions fits
pub list-between-fits : {labels : List ℕ} {x y at : ℕ} → Formed labels → ListBetween labels x y at → ListFits labels at
list-between-fits formed one = ⊎_elim (λ h. rw h.1 (stored-fits formed h.0)) (λ h. rw h.1 (stored-fits formed h.0)) one.either

-- and is their trade-off list, whichever of the two it is stored with
pub list-between-right :
    {net labels depths tables : List ℕ} {x y at : ℕ} → Prepared net labels depths tables → ListBetween labels x y at → IsTradeOff (network_of net) x y (list_at labels at)
unfolding stored
list-between-right {net} {labels} {x = x} {y} {at} prepared one = ⊎_elim up down one.either
  where
    up : Above (parents_of labels) y x × (at ≡ list_place labels x y) → IsTradeOff (network_of net) x y (list_at labels at)
    up h = rw h.1 (stored_up prepared h.0)

    down : Above (parents_of labels) x y × (at ≡ list_place labels y x) → IsTradeOff (network_of net) x y (list_at labels at)
    down h = rw h.1 (stored-down prepared h.0)

-- ---- The answers of a query

module _ {net labels depths tables : List ℕ} (prepared : Prepared net labels depths tables) {x y : ℕ} (x_on_map : x < junctions_of labels)
    (y_on_map : y < junctions_of labels) where
  x_on_net : x < junctions_of net
  x_on_net = omega (arith, prepared.beside.one_map)

  y_on_net : y < junctions_of net
  y_on_net = omega (arith, prepared.beside.one_map)

  -- a junction and itself
  pub answer_itself : {C : ℕ} → x ≡ y → Answers net x y C 0 0 0
  answer_itself {C} e = whole.found x_on_net y_on_net (rw (← e) (alone-best number_lawful x C)) refl

  -- junctions of different trees
  pub answer_apart : {C : ℕ} → ((u : ℕ) → Common (parents_of labels) x y u → ⊥) → Answers net x y C 22 0 0
  answer_apart none =
      whole.not_connected x_on_net y_on_net (apart-without-common (parents_of labels) (roads_joined prepared.beside) (parents-forest prepared.beside) none) refl refl refl

  module _ {C : ℕ} {r : Result Pair NoAnswer} where
    -- a junction and one above it, either way round
    pub answer_list : {at : ℕ} → ListBetween labels x y at → AnswerFrom (EntryOf (list_at labels at)) C r → Answers net x y C (number_of r) (time_of r) (energy_of r)
    answer_list one answer = stands_answer (trade_off_stands (list-between-right prepared one)) x_on_net y_on_net answer

    -- two branches
    pub answer_lists :
        {near far levels meeting : ℕ} → ListsBetween labels x y near far levels meeting → AnswerFrom (SumIn labels (Row labels near far levels)) C r →
        Answers net x y C (number_of r) (time_of r) (energy_of r)
    answer_lists two answer = stands_answer (row_stands prepared two) x_on_net y_on_net answer
