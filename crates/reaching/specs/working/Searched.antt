-- What the search for an entry that covers a pair tells its callers.
use Rattle.std.specs.Prelude.{◌≡◌, List, ℕ, ◌+◌, ◌-◌, ◌≤◌, ◌<◌, length, get_or, Some}
use Rattle.paths.specs.Weights.{weights, energy}
use Rattle.lists.specs.Entries.{Weight}
use Rattle.forest.specs.LabelFile.{count_at, time_at, energy_at}
use Rattle.stored.specs.working.Scanned.{further}
use Rattle.hoplinks.specs.working.Meeting.{HopMarks}
use Rattle.query.specs.working.Levels.{LevelSum}
use Rattle.reaching.specs.declared.reach.Hoplinks.{Hoplinks}

-- A pair of the set takes no more than p
pub record HasWithin (Has : Weight → Type 0) (p : Weight) : Type 0 where
  pub one : Weight
  pub among : Has one
  pub no_larger : (weights energy).◌⊑◌ one p

-- p is a sum at one of the first `done` marked levels, the deepest first: the lists for it stand at two bytes, and behind each those for the levels above it
pub record SumUp (labels marks : List ℕ) (near far levels done : ℕ) (p : Weight) : Type 0 where
  pub up : ℕ
  pub below : up < done
  pub here : LevelSum labels marks (levels - up - 1) (further labels near up) (further labels far up) p

-- Entry i of the near list and the last of the first j entries of the far list take no more than the time
pub record CoversAt (labels : List ℕ) (near i far j most_time : ℕ) : Type 0 where
  pub some : 0 < j
  pub quick : time_at labels near i + time_at labels far (j - 1) ≤ most_time

-- No sum of an entry of the near list and an entry of the far list takes no more than (most_time, most_energy)
pub record NoSum (labels : List ℕ) (near far most_time most_energy : ℕ) : Type 0 where
  pub none :
      (i k : ℕ) → i < count_at labels near → k < count_at labels far → time_at labels near i + time_at labels far k ≤ most_time →
      energy_at labels near i + energy_at labels far k ≤ most_energy → ⊥

-- How many entries of the near list are tried at a level: some only where it is marked, and fewer than all only where no sum at it takes no more than p
pub record Tried (labels marks : List ℕ) (level near far : ℕ) (p : Weight) (count : ℕ) : Type 0 where
  pub marked : 0 < count → get_or marks level 0 ≡ 1
  pub few : count ≤ count_at labels near
  pub others : count < count_at labels near → HasWithin (LevelSum labels marks level near far) p → ⊥

-- The hoplinks of the junction held are marked, if one is held
pub record Held (net labels : List ℕ) (hoplinks : Hoplinks) : Type 0 where
  pub places : length hoplinks.marks ≡ 1024
  pub kept : {l : ℕ} → hoplinks.held ≡ Some l → HopMarks net labels l hoplinks.marks
