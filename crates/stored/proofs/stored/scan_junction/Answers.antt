-- Each run leaves the lists behind it to the next step, and what is left of them is passed whole.
use mathlib.Core.Path.{refl}
use native.Mathlib.Omega.{arith}
use Rattle.stored.proofs.Scan.{passed_counts, passed-left}
use Rattle.stored.proofs.stored.scan_junction.Goals as goal

pub pass_short-short-requires : goal.pass_short-short-requires
pass_short-short-requires c = omega (arith, passed_counts _ _ _ _ c.pass_single-single.ensures c.requires.total_le_at)

pub scan_some-requires : goal.scan_some-requires
scan_some-requires c = let counts = passed_counts _ _ _ _ c.pass_single-single.ensures c.requires.total_le_at in
    omega (arith, passed_counts _ _ _ _ c.pass_short-short.ensures counts)

pub returns : goal.returns
returns c = passed-left _ _ _ _ c.pass_single-single.ensures refl _
    (passed-left _ _ _ _ c.pass_short-short.ensures refl _ c.scan_some.ensures)
