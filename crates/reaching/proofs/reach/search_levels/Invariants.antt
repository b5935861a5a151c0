-- At the marked levels passed, and with the near entries passed at this level, no sum covers the pair; the first that does ends both loops.
use mathlib.Core.Path.{◌≡◌}
use mathlib.Core.Bool.{false}
use Prim.Native.Nat.{◌-◌}
use Rattle.reaching.proofs.Searching.{Pairing, LevelSearch}
use Rattle.reaching.proofs.reach.search_levels.Given as goal

abbrev pub invariant-loop-i : goal.invariant-loop-i
invariant-loop-i l = Pairing l.labels l.near_place.at l.far_place.at l.most.time.0 l.most.energy.0 l.i l.j × (l.found ≡ false)

abbrev pub invariant-search : goal.invariant-search
invariant-search l = LevelSearch l.labels l.marks l.near l.far l.levels l.most.time.0 l.most.energy.0 (l.levels - l.level) l.near_place.at l.far_place.at × (l.found ≡ false)
