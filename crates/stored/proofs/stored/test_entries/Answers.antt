-- The first rule that an entry breaks refuses, and one that keeps both gives the next its ceiling and its floor.
use native.Mathlib.Omega.{arith}
use Rattle.stored.proofs.Entries.{tested_bad_time, tested_bad_energy, tested_more, tested_all, floor_fits}
use Rattle.stored.proofs.stored.test_entries.Goals as goal
use Rattle.stored.proofs.stored.test_entries.Goals.{then-not-time_fits-via-then-not-time_fits, then-not-time_fits-via-else-not-time_fits+then-not-energy_fits}

pub returns-then-not-time_fits : goal.returns-then-not-time_fits
returns-then-not-time_fits c = elim c.then-not-time_fits.branch [
  | then-not-time_fits-via-then-not-time_fits w ↦ tested_bad_time _ _ c.loop-j.invariant c.loop-j-test.true c.requires.whole_in_bounds c.time_at-time.ensures w.if-not-time_fits.ensures
  | then-not-time_fits-via-else-not-time_fits+then-not-energy_fits w ↦
      tested_bad_energy _ _ c.loop-j.invariant c.loop-j-test.true c.requires.whole_in_bounds c.time_at-time.ensures w.if-not-time_fits.ensures c.energy_at-energy.ensures w.if-not-energy_fits.ensures
]

pub add-floor-requires : goal.add-floor-requires
add-floor-requires c = omega (arith, floor_fits c.energy_at-energy.result.0 c.loop-j.floor.0 c.if-not-energy_fits.ensures)

pub loop-j-preserved : goal.loop-j-preserved
loop-j-preserved c = tested_more _ _ c.loop-j.invariant c.loop-j-test.true c.requires.whole_in_bounds c.time_at-time.ensures c.if-not-time_fits.ensures
    c.energy_at-energy.ensures c.if-not-energy_fits.ensures c.add-floor.ensures

pub returns : goal.returns
returns c = tested_all _ _ c.loop-j.invariant (omega arith)
