-- What the search finds is what the paths have: two junctions have one list between them, two for each common ancestor, or none.
-- In this order: where the lists of two junctions stand; what the paths have.
use mathlib.Core.Path.{◌≡◌, ap, ◌∙◌}
use mathlib.Core.Bool.{Bool, true, false}
use mathlib.Core.List.{List}
use Prim.Native.Nat.{ℕ, suc, ◌+◌, ◌-◌, ◌≤◌, ◌<◌}
use native.Mathlib.Omega.{arith}
use Rattle.paths.specs.Network.{stay, weight}
use Rattle.paths.specs.Forest.{Common}
use Rattle.paths.proofs.Crossing.{apart-without-common}
use Rattle.network.specs.NetworkFile.{junctions_of}
use Rattle.lists.specs.Entries.{Weight}
use Rattle.refusals.specs.working.Decides.{Decides}
use Rattle.forest.specs.LabelFile.{parents_of}
use Rattle.forest.specs.Forest.{depth_of}
use Rattle.forest.specs.working.Fits.{ParentsFit}
use Rattle.forest.proofs.Forest.{above_shallower}
use Rattle.stored.specs.Stored.{lists_before, place_of, list_at}
use Rattle.stored.specs.working.Scanned.{further}
use Rattle.stored.proofs.Places.{further-place}
use Rattle.stored.proofs.Passed.{parents-forest, roads_joined}
use Rattle.hoplinks.specs.working.Meeting.{HopMarks}
use Rattle.query.specs.working.Prepared.{Prepared}
use Rattle.query.specs.working.AnswerFrom.{EntryOf}
use Rattle.query.specs.working.Between.{ListBetween, ListsBetween}
use Rattle.query.specs.working.Levels.{behind, MarkedSum}
use Rattle.query.proofs.WholeAnswers.{StandsFor, trade_off_stands, marked-stands, list-between-right}
use Rattle.reaching.specs.working.Reach.{PathWithin}
use Rattle.reaching.specs.working.Searched.{HasWithin, SumUp}
use Rattle.reaching.proofs.Searching.{not_both, found_yes}

-- ---- Where the lists of two junctions stand

-- a junction of the network is one of the labels
pub on_labels : {net labels depths tables : List ℕ} {v : ℕ} → Prepared net labels depths tables → v < junctions_of net → v < junctions_of labels
on_labels prepared h = omega (arith, prepared.beside.one_map)

-- a level has a mark
pub levels_marked : {labels : List ℕ} {x y near far levels meeting : ℕ} → ParentsFit labels → ListsBetween labels x y near far levels meeting → levels ≤ 1024
levels_marked {meeting = meeting} fit two = omega (arith, two.deep, fit.ends meeting two.meets.on_map, fit.few_junctions)

-- the list `up` behind the first of a junction is that for the level so many above
level-behind :
    (labels : List ℕ) (v : ℕ) {at levels : ℕ} → at ≡ behind labels v levels → levels ≤ depth_of labels v → (up level : ℕ) → up + suc level ≡ levels →
    further labels at up ≡ behind labels v (suc level)
level-behind labels v {levels = levels} e deep up level h =
    ap (λ a. further labels a up) e ∙ further-place labels (lists_before labels v + (depth_of labels v - levels)) up ∙ ap (place_of labels) (omega arith)

-- ---- What the paths have

-- a set that stands for all paths has such a pair if there is such a path
pub stands-decides :
    {net : List ℕ} {x y : ℕ} {p : Weight} {Has : Weight → Type 0} {answer : Bool} → StandsFor net x y Has → Decides (HasWithin Has p) answer →
    Decides (PathWithin net x y p) answer
stands-decides {p = p} stands decides =
    record {
      holds = λ q.
          let z = decides.holds q in
          let walked = stands.real z.among in
          record { walk = walked.walk; no_larger = rw walked.weighs z.no_larger };
      fails = λ q path.
          let z = stands.below path.walk in
          decides.fails q (record { one = z.one; among = z.among; no_larger = (omega (arith, z.no_larger.0, path.no_larger.0), omega (arith, z.no_larger.1, path.no_larger.1)) });
    }

-- a junction reaches itself within anything
pub reach-itself : {net : List ℕ} {x y : ℕ} {p : Weight} → x ≡ y → Decides (PathWithin net x y p) true
unfolding weight
reach-itself e = found_yes (rw (← e) (record { walk = stay; no_larger = (omega arith, omega arith) }))

module _ {net labels depths tables : List ℕ} (prepared : Prepared net labels depths tables) {x y : ℕ} {p : Weight} where
  -- junctions of different trees
  pub reach-apart : ((u : ℕ) → Common (parents_of labels) x y u → ⊥) → Decides (PathWithin net x y p) false
  reach-apart none =
      record {
        holds = λ q. not_both q;
        fails = λ q path. apart-without-common (parents_of labels) (roads_joined prepared.beside) (parents-forest prepared.beside) none path.walk;
      }

  module _ {answer : Bool} where
    -- a junction and one above it, either way round
    pub reach-list : {at : ℕ} → ListBetween labels x y at → Decides (HasWithin (EntryOf (list_at labels at)) p) answer → Decides (PathWithin net x y p) answer
    reach-list one decides = stands-decides (trade_off_stands (list-between-right prepared one)) decides

    -- two branches
    pub reach_across :
        {near far levels meeting : ℕ} {marks : List ℕ} → ListsBetween labels x y near far levels meeting → HopMarks net labels meeting marks →
        Decides (HasWithin (SumUp labels marks near far levels levels) p) answer → Decides (PathWithin net x y p) answer
    reach_across {near} {far} {levels} {meeting} {marks} two hops decides = stands-decides stands decides
      where
        ends : ParentsFit labels
        ends = prepared.beside.formed.parents

        near_at : (up level : ℕ) → up + suc level ≡ levels → further labels near up ≡ behind labels x (suc level)
        near_at up level h = level-behind labels x two.near_is (omega (arith, two.deep, above_shallower labels ends.ends two.below_x)) up level h

        far_at : (up level : ℕ) → up + suc level ≡ levels → further labels far up ≡ behind labels y (suc level)
        far_at up level h = level-behind labels y two.far_is (omega (arith, two.deep, above_shallower labels ends.ends two.below_y)) up level h

        marked : StandsFor net x y (MarkedSum labels marks x y 0 (suc (depth_of labels meeting)))
        marked = marked-stands prepared two.below_x two.below_y two.meets.deepest two.meets.on_map hops

        -- the sums at the marked levels, by the places of their lists
        stands : StandsFor net x y (SumUp labels marks near far levels levels)
        stands =
            record {
              real = λ h.
                  let adds : h.up + suc (levels - h.up - 1) ≡ levels = omega (arith, h.below) in
                  marked.real (
                  record {
                    level = levels - h.up - 1;
                    not_below = omega arith;
                    not_above = omega (arith, h.below, two.deep);
                    here = rw (near_at h.up (levels - h.up - 1) adds, far_at h.up (levels - h.up - 1) adds) at h.here;
                  });
              below = λ w.
                  let z = marked.below w in
                  let adds : (levels - z.among.level - 1) + suc z.among.level ≡ levels = omega (arith, z.among.not_above, two.deep) in
                  let back : levels - (levels - z.among.level - 1) - 1 ≡ z.among.level = omega (arith, z.among.not_above, two.deep) in
                  record {
                    one = z.one;
                    among =
                        record {
                          up = levels - z.among.level - 1;
                          below = omega (arith, z.among.not_above, two.deep);
                          here = rw (back, near_at (levels - z.among.level - 1) z.among.level adds, far_at (levels - z.among.level - 1) z.among.level adds) z.among.here;
                        };
                    no_larger = z.no_larger;
                  };
            }
