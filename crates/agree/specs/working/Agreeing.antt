-- The test of one stored list: what it asks of its caller, and what its parts tell each other.
-- In this order: the input; one road; marks.
use Rattle.std.specs.Prelude.{◌≡◌, Bool, true, List, ℕ, ◌≤◌, ◌<◌, length, get_or}
use Rattle.paths.specs.Weights.{weights, energy, Covered}
use Rattle.paths.specs.Forest.{Above}
use Rattle.paths.specs.LocalTest.{Rest, MetFrom}
use Rattle.lists.specs.Entries.{Weight}
use Rattle.refusals.specs.working.Decides.{Decides}
use Rattle.network.specs.NetworkFile.{network_of, junctions_of, roads_of, RoadArc}
use Rattle.network.specs.working.Roads.{touches, Grouped}
use Rattle.forest.specs.LabelFile.{parents_of, count_at}
use Rattle.stored.specs.Stored.{list_place, list_at, stored}
use Rattle.stored.specs.working.Formed.{FilesFit}
use Rattle.agree.specs.working.Covering.{Marking, entry_of}

-- ---- The input

-- The bytes of the lists of u and each junction related to it: of two, the deeper one stores the list
pub record PlacesFor (labels : List ℕ) (u : ℕ) (places : List ℕ) : Type 0 where
  pub places_length : length places ≡ 1024
  pub below : (w : ℕ) → w < junctions_of labels → Above (parents_of labels) u w → get_or places w 0 ≡ list_place labels w u
  pub above : (w : ℕ) → w < junctions_of labels → Above (parents_of labels) w u → get_or places w 0 ≡ list_place labels u w

-- What is known where the stored list of v and its proper ancestor u is tested
pub record AgreeInput (net labels tables places : List ℕ) (v u : ℕ) : Type 0 where
  pub beside : FilesFit net labels
  pub grouped : Grouped net tables
  pub places_for : PlacesFor labels u places
  pub on_map : v < junctions_of labels
  pub above : Above (parents_of labels) u v

-- Every mark is 0
pub record Unmarked (marks : List ℕ) : Type 0 where
  pub marks_places : length marks ≡ 4096
  pub each : (i : ℕ) → i < 4096 → get_or marks i 0 ≡ 0

-- What is known where road k of v is followed
pub record RoadInput (net labels places : List ℕ) (v u k : ℕ) : Type 0 where
  pub beside : FilesFit net labels
  pub places_for : PlacesFor labels u places
  pub above : Above (parents_of labels) u v
  pub stands : k < roads_of net
  pub here : touches net v k ≡ true

-- ---- One road

-- q is an entry of the list of w and u, wherever that is stored
abbrev pub Left : List ℕ → List ℕ → ℕ → ℕ → Weight → Type 0
Left net labels w u q = Rest (network_of net) (parents_of labels) (stored labels) w u q

-- p is a road's weight from v and an entry of what is left to u
abbrev pub Met : List ℕ → List ℕ → ℕ → ℕ → Weight → Type 0
Met net labels v u p = MetFrom (network_of net) (parents_of labels) (stored labels) v u p

-- Every sum that starts with road k is covered by the list at byte `own`
pub record RoadCovers (net labels : List ℕ) (v u own k : ℕ) : Type 0 where
  pub covers : {w : ℕ} {a q : Weight} → RoadArc net v w k a → Left net labels w u q → Covered energy (list_at labels own) ((weights energy).◌⊕◌ a q)

-- Entry i of the list at byte `own` equals a sum that starts with road k
pub record MetOver (net labels : List ℕ) (v u own k i : ℕ) : Type 0 where
  pub in_list : i < count_at labels own
  pub met : Met net labels v u (entry_of labels own i)
  pub over : met.number ≡ k

-- The answer tells whether the sums over road k are covered; if so, the entries that one equals are marked
pub record RoadTested (net labels : List ℕ) (v u own k : ℕ) (marks marks_after : List ℕ) (answer : Bool) : Type 0 where
  pub decides : Decides (RoadCovers net labels v u own k) answer
  pub marking : answer ≡ true → Marking (MetOver net labels v u own k) marks marks_after

-- ---- Marks

-- The first `count` marks are 1
pub record AllMarked (marks : List ℕ) (count : ℕ) : Type 0 where
  pub each : (i : ℕ) → i < count → get_or marks i 0 ≡ 1

-- The first `count` marks have become 0, and every other mark stays
pub record Cleared (marks marks_after : List ℕ) (count : ℕ) : Type 0 where
  pub places : length marks_after ≡ 4096
  pub each : (i : ℕ) → i < count → get_or marks_after i 0 ≡ 0
  pub kept : (i : ℕ) → count ≤ i → get_or marks_after i 0 ≡ get_or marks i 0

-- The answer tells whether the first `count` marks were 1; if so, they have become 0
pub record MarksRead (marks marks_after : List ℕ) (count : ℕ) (answer : Bool) : Type 0 where
  pub decides : Decides (AllMarked marks count) answer
  pub cleared : answer ≡ true → Cleared marks marks_after count
