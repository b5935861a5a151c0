-- Which stored lists tell of the paths between two junctions.
use Rattle.std.specs.Prelude.{◌≡◌, ◌⊎◌, List, ℕ, suc, ◌-◌, ◌≤◌, ◌<◌}
use Rattle.paths.specs.Forest.{Above, Common}
use Rattle.network.specs.NetworkFile.{junctions_of}
use Rattle.forest.specs.LabelFile.{parent_at, parents_of, list_end}
use Rattle.forest.specs.Forest.{depth_of}
use Rattle.forest.specs.working.ParentsRead.{AncestorRead}
use Rattle.stored.specs.Stored.{list_place}
use Rattle.hoplinks.specs.working.Meeting.{MeetsAt}
use Rattle.query.specs.declared.Between.{Between}
use Rattle.query.specs.declared.Between.TheVariants.{Nothing, List as OneList, Lists as TwoLists}
use Rattle.query.specs.declared.climbing.Climb.{Climb}
use Rattle.query.specs.working.Levels.{behind}

-- The climb of v is at its ancestor of depth `level` and at the byte of its list for that one's parent
pub record Climbs (labels : List ℕ) (v level : ℕ) (climb : Climb) : Type 0 where
  pub of : climb.from ≡ v
  pub on_map : v < junctions_of labels
  pub no_deeper : level ≤ depth_of labels v
  pub up : AncestorRead labels v (depth_of labels v - level) climb.up
  pub place : climb.at ≡ behind labels v level

-- One step up: to the parent, and to the list behind
pub record Steps (labels : List ℕ) (below above : Climb) : Type 0 where
  pub of_one : above.from ≡ below.from
  pub parent : above.up ≡ parent_at labels below.up
  pub next : above.at ≡ list_end labels below.at

-- The climbs of x and y are at different junctions of one depth, and no common ancestor is deeper
pub record Abreast (labels : List ℕ) (x y level : ℕ) (near far : Climb) : Type 0 where
  pub near_climbs : Climbs labels x level near
  pub far_climbs : Climbs labels y level far
  pub apart : near.up ≡ far.up → ⊥
  pub highest : (u : ℕ) → Common (parents_of labels) x y u → depth_of labels u ≤ level

-- The list at byte `at` is that of one of x and y for the other, which stands above it
pub record ListBetween (labels : List ℕ) (x y at : ℕ) : Type 0 where
  pub either : (Above (parents_of labels) y x × (at ≡ list_place labels x y)) ⊎ (Above (parents_of labels) x y × (at ≡ list_place labels y x))

-- The lists of x and y for their deepest common ancestor, `meeting`, stand at two bytes, and behind them as many as `levels` for it and all above it
pub record ListsBetween (labels : List ℕ) (x y near far levels meeting : ℕ) : Type 0 where
  pub meets : MeetsAt labels x y meeting
  pub below_x : Above (parents_of labels) meeting x
  pub below_y : Above (parents_of labels) meeting y
  pub deep : levels ≡ suc (depth_of labels meeting)
  pub near_is : near ≡ behind labels x levels
  pub far_is : far ≡ behind labels y levels

-- Nothing if no ancestor is common, one list if one stands above the other, else two lists for each common ancestor
abbrev pub Leads : List ℕ → ℕ → ℕ → Between → Type 0
Leads labels x y Nothing = (u : ℕ) → Common (parents_of labels) x y u → ⊥
Leads labels x y (OneList at) = ListBetween labels x y at
Leads labels x y (TwoLists near far levels meeting) = ListsBetween labels x y near far levels meeting
