-- What the functions that read the parents ask of their callers, and tell them.
use Rattle.std.specs.Prelude.{◌≡◌, Bool, true, false, List, ℕ, ◌≤◌, ◌<◌, length, get_or, Option, None, Some, MatchOption}
use Rattle.network.specs.NetworkFile.{junctions_of}
use Rattle.forest.specs.LabelFile.{lists_from}
use Rattle.forest.specs.Forest.{depth_of, ancestor_of, is_ancestor, parent_fits, parents_pass}
use Rattle.forest.specs.working.Fits.{DepthsFilled}

-- The parents of a file that passed 14 and has them all
pub record ParentsStand (labels : List ℕ) : Type 0 where
  pub few_junctions : junctions_of labels ≤ 1024
  pub inside : lists_from labels ≤ length labels

-- Junction v, from which the parents may be followed; n is the count of junctions
pub record Climbable (labels : List ℕ) (n v : ℕ) : Type 0 where
  pub stand : ParentsStand labels
  pub size : n ≡ junctions_of labels
  pub fits : (w : ℕ) → w < junctions_of labels → parent_fits labels w ≡ true
  pub on_map : v < junctions_of labels

-- A number in the table that is below n is the depth
pub record DepthsKnown (labels depths : List ℕ) : Type 0 where
  pub places : length depths ≡ 1024
  pub right : (w : ℕ) → w < junctions_of labels → get_or depths w 0 < junctions_of labels → get_or depths w 0 ≡ depth_of labels w

-- r is the depth of v, or none if its chain returns
abbrev pub DepthFound : List ℕ → ℕ → Option ℕ → Type 0
DepthFound labels v r = MatchOption r (junctions_of labels ≤ depth_of labels v) (λ depth. (depth ≡ depth_of labels v) × (depth < junctions_of labels))

-- The depth of v is known too; what was known still is
pub record DepthsWritten (labels : List ℕ) (v : ℕ) (before after : List ℕ) : Type 0 where
  pub known : DepthsKnown labels after
  pub stays : (w : ℕ) → get_or before w 0 < junctions_of labels → get_or after w 0 < junctions_of labels
  pub here : get_or after v 0 < junctions_of labels

-- r says whether the chain of v ends; if it does, the depth of v is known
pub record DepthSettled (labels : List ℕ) (v : ℕ) (before after : List ℕ) (r : Bool) : Type 0 where
  pub places : length after ≡ 1024
  pub ends : r ≡ true → DepthsWritten labels v before after
  pub returns : r ≡ false → junctions_of labels ≤ depth_of labels v

-- r is what 15 asks of the parents; where it holds the depths are filled
pub record ParentsTested (labels depths : List ℕ) (r : Bool) : Type 0 where
  pub is : r ≡ parents_pass labels
  pub filled : r ≡ true → DepthsFilled labels depths
  pub places : length depths ≡ 1024

-- r is the k-th ancestor of v
pub record AncestorRead (labels : List ℕ) (v k r : ℕ) : Type 0 where
  pub is : r ≡ ancestor_of labels v k
  pub on_map : r < junctions_of labels

-- A foot in the table is a junction below the one whose foot it is, or that itself
pub record FeetRight (labels : List ℕ) (feet : List (Option ℕ)) : Type 0 where
  pub places : length feet ≡ 1024
  pub right : (x foot : ℕ) → x < junctions_of labels → get_or feet x None ≡ Some foot → is_ancestor labels x foot ≡ true

-- u and v have one foot
pub record OneFoot (feet : List (Option ℕ)) (u v : ℕ) : Type 0 where
  pub foot : ℕ
  pub of_u : get_or feet u None ≡ Some foot
  pub of_v : get_or feet v None ≡ Some foot
