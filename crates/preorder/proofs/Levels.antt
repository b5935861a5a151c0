-- The chains of the levels: how they begin, and what is passed along them.
-- In this order: no junction yet; along a chain.
use mathlib.Core.Path.{◌≡◌}
use mathlib.Core.List.{List}
use Prim.Native.Nat.{ℕ, ◌+◌, ◌≤◌, ◌<◌}
use native.Mathlib.Omega.{arith}
use lib.ListN.{length, get_or}
use Rattle.network.specs.NetworkFile.{junctions_of}
use Rattle.preorder.specs.working.Levels.{First, LevelsFrom, Levels}

-- ---- No junction yet

-- behind the last junction there is none of any level
first-none : {labels : List ℕ} {d r : ℕ} → junctions_of labels ≤ r → r ≤ 1024 → First labels d (junctions_of labels) r
first-none past few = record { from_on = past; few = few; at_level = λ h. absurd (omega arith); skips = λ w h k l e. absurd (omega arith) }

pub levels_none :
    {labels heads nexts sizes : List ℕ} →
    junctions_of labels ≤ 1024 →
    length heads ≡ 1024 →
    ((d : ℕ) → d < 1024 → get_or heads d 0 ≡ 1024) →
    length nexts ≡ 1024 →
    length sizes ≡ 1024 →
    LevelsFrom labels heads nexts sizes (junctions_of labels)
levels_none few head_places none next_places size_places =
    record {
      head_places = head_places;
      next_places = next_places;
      size_places = size_places;
      head = λ d h. rw (none d h) (first-none few (omega arith));
      next = λ w h k. absurd (omega arith);
      alone = λ w h k. absurd (omega arith);
    }

-- ---- Along a chain

-- the walk stands at the first of a level from there on
pub stands-first : {labels : List ℕ} {d from r : ℕ} → First labels d from r → First labels d r r
stands-first first =
    record { from_on = omega arith; few = first.few; at_level = first.at_level; skips = λ w h k l e. absurd (omega arith) }

-- and goes on to what follows there
pub level-next : {labels heads nexts : List ℕ} {d v : ℕ} → Levels labels heads nexts → First labels d v v → v < junctions_of labels → First labels d (v + 1) (get_or nexts v 0)
level-next {v = v} levels here h = rw (← here.at_level h) (levels.next v h)
