-- The sweep over the labels. The junctions are taken from the last to the first of an order in which each one's descendants stand
-- right behind it, so that all of them have been swept before it. A table has one reading place for each junction.
use Rattle.std.specs.Prelude.{◌≡◌, List, ℕ, ◌+◌, ◌-◌, ◌≤◌, ◌<◌, length, get_or}
use Rattle.paths.specs.Forest.{Above, Ancestor}
use Rattle.paths.specs.LocalTest.{ListAgrees}
use Rattle.network.specs.NetworkFile.{network_of, junctions_of}
use Rattle.forest.specs.LabelFile.{parents_of, list_end}
use Rattle.forest.specs.Forest.{depth_of}
use Rattle.stored.specs.Stored.{lists_before, place_of, list_place, stored}
use Rattle.preorder.specs.working.Numbered.{spot_of}

-- ---- What is tested

-- The list of v for its ancestor u agrees with the lists one road further
abbrev pub Agrees : List ℕ → List ℕ → ℕ → ℕ → Type 0
Agrees net labels v u = ListAgrees (network_of net) (parents_of labels) (stored labels) v u

-- The lists for u agree, of all junctions below u
pub record AgreesBelow (net labels : List ℕ) (u : ℕ) : Type 0 where
  pub agrees : {v : ℕ} → Above (parents_of labels) u v → Agrees net labels v u

-- ---- The reading places

-- The junctions from spot i on are swept: of each the reading place is behind its lists for those of its ancestors that are swept.
-- c is the topmost of these, or the junction itself
pub record Swept (labels tables : List ℕ) (i : ℕ) (places : List ℕ) : Type 0 where
  pub places_length : length places ≡ 1024
  pub stands :
      (v c : ℕ) → v < junctions_of labels → Ancestor (parents_of labels) c v → i ≤ spot_of tables c →
      ((p : ℕ) → Above (parents_of labels) p c → spot_of tables p < i) →
      get_or places v 0 ≡ place_of labels (lists_before labels v + (depth_of labels v - depth_of labels c))

-- The bytes of u's own lists stand at its ancestors, every other reading place is as before
pub record Noted (labels : List ℕ) (u : ℕ) (before after : List ℕ) : Type 0 where
  pub one_length : length after ≡ 1024
  pub above : (w : ℕ) → Above (parents_of labels) w u → get_or after w 0 ≡ list_place labels u w
  pub others : (w : ℕ) → (Above (parents_of labels) w u → ⊥) → get_or after w 0 ≡ get_or before w 0

-- The reading places of the junctions below u have moved on by one list, no other has
pub record MovedOn (labels : List ℕ) (u : ℕ) (before after : List ℕ) : Type 0 where
  pub one_length : length after ≡ 1024
  pub moved : (v : ℕ) → Above (parents_of labels) u v → get_or after v 0 ≡ list_end labels (get_or before v 0)
  pub unmoved : (v : ℕ) → (Above (parents_of labels) u v → ⊥) → get_or after v 0 ≡ get_or before v 0

-- ---- What the functions of the sweep stand on

-- The junctions below u, each once
pub record BlockOf (labels : List ℕ) (u : ℕ) (block : List ℕ) : Type 0 where
  pub below : (k : ℕ) → k < length block → Above (parents_of labels) u (get_or block k 0)
  pub all : (v : ℕ) → Above (parents_of labels) u v → (k : ℕ) × (k < length block) × (get_or block k 0 ≡ v)
  pub once : (j k : ℕ) → j < length block → k < length block → get_or block j 0 ≡ get_or block k 0 → j ≡ k
