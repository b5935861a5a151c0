-- The place before `low` passes, and the one at `high` fails.
use Rattle.std.proofs.Common.{◌-◌, ◌≤◌, ◌<◌, true, false}
use Rattle.query.proofs.places.first_failing.Given as goal

abbrev pub invariant-loop-low : goal.invariant-loop-low
invariant-loop-low g l =
    record {
      in_order : l.low ≤ l.high;
      in_range : l.high ≤ l.count;
      passed : 0 < l.low → goal.F-post g l.passes (l.low - 1) true;
      failed : l.high < l.count → goal.F-post g l.passes l.high false;
    }

abbrev pub decreases-loop-low : goal.decreases-loop-low
decreases-loop-low g l = l.high - l.low
