-- One stored list against sums: what covers a sum, what equals it, and what is marked.
-- In this order: marks; one entry; one sum; all sums of a road.
use Rattle.std.specs.Prelude.{◌≡◌, ◌⊎◌, Bool, true, false, Option, Some, None, ℕ, ◌-◌, ◌≤◌, ◌<◌, length, get_or}
use mathlib.Core.List.{List, Memᴰ}
use Rattle.paths.specs.Weights.{weights, energy, pair, Covered}
use Rattle.lists.specs.Entries.{Weight}
use Rattle.refusals.specs.working.Decides.{Decides}
use Rattle.forest.specs.LabelFile.{count_at, time_at, energy_at}
use Rattle.stored.specs.Stored.{list_at}

-- ---- Marks

-- The marks of the places that P holds of have become 1, and every other mark stays
pub record Marking (P : ℕ → Type 0) (marks marks_after : List ℕ) : Type 0 where
  pub places : length marks_after ≡ 4096
  pub marked : (i : ℕ) → P i → get_or marks_after i 0 ≡ 1
  pub only : (i : ℕ) → (get_or marks_after i 0 ≡ get_or marks i 0) ⊎ P i

-- ---- One entry

-- Entry j of the list at a byte
abbrev pub entry_of : List ℕ → ℕ → ℕ → Weight
entry_of labels at j = pair (time_at labels at j) (energy_at labels at j)

-- Entry i covers the sum: it is an entry, and no larger in both numbers
pub record CoversAt (labels : List ℕ) (own : ℕ) (sum : Weight) (i : ℕ) : Type 0 where
  pub in_list : i < count_at labels own
  pub no_larger : (weights energy).◌⊑◌ (entry_of labels own i) sum

-- Entry i equals the sum
pub record EqualsAt (labels : List ℕ) (own : ℕ) (sum : Weight) (i : ℕ) : Type 0 where
  pub in_list : i < count_at labels own
  pub is : entry_of labels own i ≡ sum

-- The answer tells whether entry i covers the sum. If so, what equals the sum is marked; if not, no mark changes.
pub record EntryCompared (labels : List ℕ) (own : ℕ) (sum : Weight) (i : ℕ) (marks marks_after : List ℕ) (answer : Bool) : Type 0 where
  pub decides : Decides (CoversAt labels own sum i) answer
  pub marking : answer ≡ true → Marking (EqualsAt labels own sum) marks marks_after
  pub kept : answer ≡ false → marks_after ≡ marks

-- ---- One sum

-- i is the first entry from the hint on that is no slower than a time
pub record QuickAt (labels : List ℕ) (own time hint i : ℕ) : Type 0 where
  pub from : hint ≤ i
  pub in_list : i < count_at labels own
  pub slow : (k : ℕ) → hint ≤ k → k < i → time < time_at labels own k
  pub quick : time_at labels own i ≤ time

-- That entry, or none where all from the hint on are slower
abbrev pub QuickFrom : List ℕ → ℕ → ℕ → ℕ → Option ℕ → Type 0
QuickFrom labels own time hint (Some i) = QuickAt labels own time hint i
QuickFrom labels own time hint None = (i : ℕ) → hint ≤ i → i < count_at labels own → time < time_at labels own i

-- The entry before `next`, if there is one, takes no more than this
pub record Behind (labels : List ℕ) (own next most : ℕ) : Type 0 where
  pub in_list : next ≤ count_at labels own
  pub cheap : 0 < next → energy_at labels own (next - 1) ≤ most

-- Entry i covers the sum, and what equals the sum is marked
pub record CoveredBy (labels : List ℕ) (own : ℕ) (sum : Weight) (marks marks_after : List ℕ) (i : ℕ) : Type 0 where
  pub covers : CoversAt labels own sum i
  pub marking : Marking (EqualsAt labels own sum) marks marks_after

-- An entry that covers the sum, or none where none does
abbrev pub SumCompared : List ℕ → ℕ → Weight → List ℕ → List ℕ → Option ℕ → Type 0
SumCompared labels own sum marks marks_after (Some i) = CoveredBy labels own sum marks marks_after i
SumCompared labels own sum marks marks_after None = (i : ℕ) → CoversAt labels own sum i → ⊥

-- ---- All sums of a road

-- Entry i equals a sum of the arc and an entry of what is left
pub record MetBy (labels : List ℕ) (own : ℕ) (arc : Weight) (left : List Weight) (i : ℕ) : Type 0 where
  pub in_list : i < count_at labels own
  pub rest : Weight
  pub member : Memᴰ rest left
  pub adds : (weights energy).◌⊕◌ arc rest ≡ entry_of labels own i

-- The answer tells whether every sum of the arc and an entry of what is left is covered by the list. If so, the entries that equal
-- such a sum are marked.
pub record Covering (labels : List ℕ) (own : ℕ) (arc : Weight) (left : List Weight) (marks marks_after : List ℕ) (answer : Bool) : Type 0 where
  pub decides : Decides ((q : Weight) → Memᴰ q left → Covered energy (list_at labels own) ((weights energy).◌⊕◌ arc q)) answer
  pub marking : answer ≡ true → Marking (MetBy labels own arc left) marks marks_after
