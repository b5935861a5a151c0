-- Blocks of the numbering while they are laid: each inside its parent's, those of one parent side by side.
use Rattle.std.specs.Prelude.{◌≡◌, ◌⊎◌, List, [], ◌∷◌, ℕ, ◌+◌, ◌*◌, ◌≤◌, ◌<◌, length, get_or}
use Rattle.tables.specs.working.Layout.{order_from, spots_from, sizes_from, table_places, StaysBelow}
use Rattle.network.specs.NetworkFile.{junctions_of}
use Rattle.forest.specs.LabelFile.{parent_at, no_parent}
use Rattle.forest.specs.Forest.{depth_of}
use Rattle.preorder.specs.working.Levels.{Deeper, Higher}

-- The blocks of u and w, which start at `starts` and fill `sizes`, have no place in common
abbrev pub Apart : List ℕ → List ℕ → ℕ → ℕ → Type 0
Apart starts sizes u w = (get_or starts u 0 + get_or sizes u 0 ≤ get_or starts w 0) ⊎ (get_or starts w 0 + get_or sizes w 0 ≤ get_or starts u 0)

-- The junctions of which `Done` holds have their blocks in their parents': `offsets` says how far behind the parent's start each begins, a
-- root's how far behind 0, and the roots fill `total`
pub record BlocksOf (labels sizes offsets : List ℕ) (total : ℕ) (Done : ℕ → Type 0) : Type 0 where
  pub size_places : length sizes ≡ 1024
  pub offset_places : length offsets ≡ 1024
  pub itself : (w : ℕ) → w < junctions_of labels → 1 ≤ get_or sizes w 0
  pub small : (w : ℕ) → w < junctions_of labels → get_or sizes w 0 ≤ 1024
  pub of_root : (w : ℕ) → w < junctions_of labels → Done w → parent_at labels w ≡ no_parent → get_or offsets w 0 + get_or sizes w 0 ≤ total
  pub of_child :
      (w : ℕ) →
      w < junctions_of labels →
      Done w →
      (parent_at labels w ≡ no_parent → ⊥) →
      (1 ≤ get_or offsets w 0) × (get_or offsets w 0 + get_or sizes w 0 ≤ get_or sizes (parent_at labels w) 0)
  pub apart :
      (u w : ℕ) →
      u < junctions_of labels →
      w < junctions_of labels →
      Done u →
      Done w →
      parent_at labels u ≡ parent_at labels w →
      (u ≡ w → ⊥) →
      Apart offsets sizes u w

-- The numbers of a list added up
unfoldable pub sum_of : List ℕ → ℕ
sum_of [] = 0
sum_of (x ∷ xs) = x + sum_of xs

-- The blocks that are in no other yet add up, with the total of the roots, to the count of junctions
pub record Rests (labels sizes : List ℕ) (total : ℕ) (Done : ℕ → Type 0) : Type 0 where
  pub rests : List ℕ
  pub places : length rests ≡ junctions_of labels
  pub rest : (w : ℕ) → w < junctions_of labels → (Done w → ⊥) → get_or rests w 0 ≡ get_or sizes w 0
  pub all : total + sum_of rests ≡ junctions_of labels

-- The deepest junctions, down to depth d and there below v, have their blocks in their parents'
pub record Merged (labels sizes offsets : List ℕ) (total d v : ℕ) : Type 0 where
  pub blocks : BlocksOf labels sizes offsets total (Deeper labels d v)
  pub rests : Rests labels sizes total (Deeper labels d v)

-- Every junction has its block in its parent's, a root's below the count of junctions
abbrev pub AllMerged : List ℕ → List ℕ → List ℕ → Type 0
AllMerged labels sizes offsets = BlocksOf labels sizes offsets (junctions_of labels) (Deeper labels 0 1024)

-- The offsets are small, so that no sum along a chain wraps
pub record OffsetsSmall (labels offsets : List ℕ) : Type 0 where
  pub places : length offsets ≡ 1024
  pub small : (w : ℕ) → w < junctions_of labels → get_or offsets w 0 ≤ 1024

-- The highest junctions, down to depth d and there below v, stand at their offsets behind their parents, a root behind 0
pub record Placed (labels offsets spots : List ℕ) (d v : ℕ) : Type 0 where
  pub places : length spots ≡ 1024
  pub of_root : (w : ℕ) → w < junctions_of labels → Higher labels d v w → parent_at labels w ≡ no_parent → get_or spots w 0 ≡ get_or offsets w 0
  pub of_child :
      (w : ℕ) →
      w < junctions_of labels →
      Higher labels d v w →
      (parent_at labels w ≡ no_parent → ⊥) →
      get_or spots w 0 ≡ get_or spots (parent_at labels w) 0 + get_or offsets w 0
  pub small : (w : ℕ) → w < junctions_of labels → Higher labels d v w → get_or spots w 0 ≤ 1024 * (depth_of labels w + 1)

-- The spots of n junctions are below n, and no two are the same
pub record Spread (n : ℕ) (spots : List ℕ) : Type 0 where
  pub few : n ≤ 1024
  pub below : (v : ℕ) → v < n → get_or spots v 0 < n
  pub once : (u v : ℕ) → u < n → v < n → get_or spots u 0 ≡ get_or spots v 0 → u ≡ v

-- At the spot of each of the first n junctions `order` has that junction
pub record Listed (spots order : List ℕ) (n : ℕ) : Type 0 where
  pub places : length order ≡ 1024
  pub at_spot : (v : ℕ) → v < n → get_or order (get_or spots v 0) 0 ≡ v

-- The first n of order, spots and sizes stand in the lent table, of which nothing below them was written
pub record CopiedBelow (order spots sizes before tables : List ℕ) (n : ℕ) : Type 0 where
  pub places : length tables ≡ table_places
  pub junction : (i : ℕ) → i < n → get_or tables (order_from + i) 0 ≡ get_or order i 0
  pub spot : (v : ℕ) → v < n → get_or tables (spots_from + v) 0 ≡ get_or spots v 0
  pub size : (v : ℕ) → v < n → get_or tables (sizes_from + v) 0 ≡ get_or sizes v 0
  pub lower_stay : StaysBelow order_from before tables
